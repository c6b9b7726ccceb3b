-- A merge from behind: what is merged falls, and is nowhere below what is left.
use Rattle.std.proofs.Common.{◌≡◌, ℕ, ◌+◌, ◌-◌, ◌<◌, Bool, true, false, is_lt, List, [], ◌∷◌, ◌++◌, length, get_or, set, take, reverse, ℤ, Option, Some, None, refl, sym, ap, ap₂, subst, ◌∙◌, inl, inr, arith}
use Rattle.std.specs.List.{All}
use Rattle.std.specs.List.Sorted.{IsPermutation, IsSorted, IsSortedBy}
use Rattle.std.specs.Cmp.{IsStrictWeakOrder}
use Rattle.std.proofs.lemmas.Bool.{cases_Bool, cases_eq}
use Rattle.std.proofs.lemmas.List.{append-nil, get_or_append_left, get_or_push, length_push, length-reverse, get_or-reverse, take_all, take_more, same_from_push}
use Rattle.std.proofs.lemmas.List.Elements.{All-head, All-tail, All-push, All-set, All-weaker}
use Rattle.std.proofs.lemmas.List.Sorted.{IsPermutation-refl, All-permutation, IsPermutation-pop_more, sorted_far}
use Rattle.cube_merge.specs.declared.name.CubeName.{CubeName}
use Rattle.cube_merge.specs.Names.{name_order}
use Rattle.cube_merge.specs.Parts.{all_names, falls, AreInOrder, LeadsAt, greater_of}
use Rattle.cube_merge.proofs.Gathered.{one_taken, All-gathered, none_gathered}
use Rattle.cube_merge.proofs.Ranks.{names_rank}

-- ---- lists in order

pub sorted_front : {X : Type 0} (lt : X → X → Bool) (xs : List X) (y : X) → IsSortedBy lt (xs ++ y ∷ []) → IsSortedBy lt xs
sorted_front lt xs y sorted k d low high =
    let long = length_push xs y in
    ap₂ lt (sym (get_or_append_left xs (y ∷ []) d (k + 1) (omega arith))) (sym (get_or_append_left xs (y ∷ []) d k (omega arith))) ∙ sorted k d low (omega arith)

pub sorted_push : {X : Type 0} (lt : X → X → Bool) (xs : List X) (y : X) → IsSortedBy lt xs → ((d : X) → 0 < length xs → lt y (get_or xs (length xs - 1) d) ≡ false) → IsSortedBy lt (xs ++ y ∷ [])
sorted_push lt xs y sorted last k d low high =
    let long = length_push xs y in
    elim (cases_eq (k + 1) (length xs)) [
      | inl here ↦
          let before : k ≡ length xs - 1 = omega arith in
          ap₂ lt (get_or_push xs y d (k + 1) (sym here)) (get_or_append_left xs (y ∷ []) d k (omega arith) ∙ ap (λ n. get_or xs n d) before) ∙ last d (omega arith)
      | inr other ↦
          ap₂ lt (get_or_append_left xs (y ∷ []) d (k + 1) (omega arith)) (get_or_append_left xs (y ∷ []) d k (omega arith)) ∙ sorted k d low (omega arith)
    ]

pub sorted_reverse : {X : Type 0} (lt : X → X → Bool) (xs : List X) → IsSortedBy (λ x y. lt y x) xs → IsSortedBy lt (reverse xs)
sorted_reverse lt xs sorted k d low high =
    let long = length-reverse xs in
    let n = length xs - 1 - (k + 1) in
    let one : length xs - 1 - k ≡ n + 1 = omega arith in
    ap₂ lt (get_or-reverse xs (k + 1) d (omega arith)) (get_or-reverse xs k d (omega arith) ∙ ap (λ m. get_or xs m d) one) ∙ sorted n d (omega arith) (omega arith)

module _ (cube_of : CubeName → List ℤ) where
  abbrev pub is_below : CubeName → CubeName → Bool
  is_below a b = is_lt (name_order cube_of a b)

  -- ---- the part that leads

  abbrev pub IsLeading : List (List CubeName) → Option (ℕ × CubeName) → Type 0
  IsLeading parts None = All (λ part. part ≡ []) parts
  IsLeading parts (Some one) = LeadsAt cube_of parts one.0 one.1

  abbrev EndsNotAbove : CubeName → List CubeName → Type 0
  EndsNotAbove name part = (rest : List CubeName) (other : CubeName) → part ≡ rest ++ other ∷ [] → is_below name other ≡ false

  empty_ends : (name : CubeName) (part : List CubeName) → part ≡ [] → EndsNotAbove name part
  empty_ends name part none rest other same =
      let long = ap length (sym none ∙ same) in
      let one = length_push rest other in
      absurd (omega arith)

  last_ends : (name last : CubeName) (front part : List CubeName) → part ≡ front ++ last ∷ [] → is_below name last ≡ false → EndsNotAbove name part
  last_ends name last front part ends low rest other same =
      ap (is_below name) (same_from_push rest front other last (sym same ∙ ends)).1 ∙ low

  pub skips : (parts : List (List CubeName)) (part : List CubeName) (o : Option (ℕ × CubeName)) → part ≡ [] → IsLeading parts o → IsLeading (parts ++ part ∷ []) o
  skips parts part None none all = All-push (λ p. p ≡ []) parts part all none
  skips parts part (Some one) none leads =
      let long = length_push parts part in
      let low = leads.inside in
      record {
        inside = omega arith;
        front = leads.front;
        ends = get_or_append_left parts (part ∷ []) [] one.0 leads.inside ∙ leads.ends;
        greatest = All-push (EndsNotAbove one.1) parts part leads.greatest (empty_ends one.1 part none);
      }

  takes_lead : (parts : List (List CubeName)) (part front : List CubeName) (last : CubeName) → part ≡ front ++ last ∷ [] → All (EndsNotAbove last) parts → LeadsAt cube_of (parts ++ part ∷ []) (length parts) last
  takes_lead parts part front last ends above =
      let long = length_push parts part in
      record {
        inside = omega arith;
        front = front;
        ends = get_or_push parts part [] (length parts) refl ∙ ends;
        greatest = All-push (EndsNotAbove last) parts part above (last_ends last last front part ends (never_itself (names_rank cube_of) last));
      }
    where
      never_itself : IsStrictWeakOrder is_below → (a : CubeName) → is_below a a ≡ false
      never_itself o a = elim (cases_Bool (is_below a a)) [
        | inl e ↦ o.one_way a a e
        | inr e ↦ e
      ]

  pub leads_more : (parts : List (List CubeName)) (part front : List CubeName) (last : CubeName) (o : Option (ℕ × CubeName)) → part ≡ front ++ last ∷ [] → IsLeading parts o →
      IsLeading (parts ++ part ∷ []) (Some (greater_of cube_of o (length parts, last)))
  leads_more parts part front last None ends none =
      takes_lead parts part front last ends (All-weaker (λ p. p ≡ []) (EndsNotAbove last) (λ p e. empty_ends last p e) parts none)
  leads_more parts part front last (Some one) ends leads = elim (cases_Bool (is_below last one.1)) [
    | inl below ↦ rw below (stays below)
    | inr above ↦ rw above (takes_lead parts part front last ends
        (All-weaker (EndsNotAbove one.1) (EndsNotAbove last) (λ p high rest other same. (names_rank cube_of).chain last one.1 other above (high rest other same)) parts leads.greatest))
  ]
    where
      stays : is_below last one.1 ≡ true → LeadsAt cube_of (parts ++ part ∷ []) one.0 one.1
      stays below =
          let long = length_push parts part in
          let low = leads.inside in
          record {
            inside = omega arith;
            front = leads.front;
            ends = get_or_append_left parts (part ∷ []) [] one.0 leads.inside ∙ leads.ends;
            greatest = All-push (EndsNotAbove one.1) parts part leads.greatest (last_ends one.1 last front part ends ((names_rank cube_of).one_way last one.1 below));
          }

  -- ---- the merge

  pub record Merges (initial parts : List (List CubeName)) (merged : List CubeName) : Type 0 where
    pub same : IsPermutation (all_names initial) (merged ++ all_names parts)
    pub sorted : AreInOrder cube_of parts
    pub falling : IsSorted (falls cube_of) merged
    pub above : (d : CubeName) → 0 < length merged → All (λ x. is_below (get_or merged (length merged - 1) d) x ≡ false) (all_names parts)

  -- a part in order is nowhere above its last name
  part_below : (name : CubeName) (part : List CubeName) → IsSorted (name_order cube_of) part → EndsNotAbove name part → All (λ x. is_below name x ≡ false) part
  part_below name part sorted ends k d inside =
      let last = length part - 1 in
      let whole : part ≡ take last part ++ get_or part last d ∷ [] = sym (take_all (last + 1) part (omega arith)) ∙ take_more part last d (omega arith) in
      (names_rank cube_of).chain name (get_or part last d) (get_or part k d) (ends (take last part) (get_or part last d) whole)
      (sorted_far is_below (names_rank cube_of) part sorted k last d (omega arith) (omega arith))

  parts_below : (name : CubeName) (parts : List (List CubeName)) → AreInOrder cube_of parts → All (EndsNotAbove name) parts → All (All (λ x. is_below name x ≡ false)) parts
  parts_below name parts sorted ends k d inside = part_below name (get_or parts k d) (sorted k d inside) (ends k d inside)

  abbrev NotAbove : CubeName → CubeName → Type 0
  NotAbove y x = is_below y x ≡ false

  pub merges_more : (initial parts : List (List CubeName)) (merged front : List CubeName) (at : ℕ) (name lead : CubeName) → Merges initial parts merged → LeadsAt cube_of parts at lead → get_or parts at [] ≡ front ++ name ∷ [] →
      Merges initial (set parts at front) (merged ++ name ∷ [])
  merges_more initial parts merged front at name lead m leads ends = record {
    same = IsPermutation-pop_more (all_names initial) merged (all_names parts) left name m.same taken;
    sorted = All-set (IsSorted (name_order cube_of)) parts at front
        (sorted_front is_below front name (subst (IsSorted (name_order cube_of)) ends (m.sorted at [] leads.inside))) m.sorted;
    falling = sorted_push (λ x y. is_below y x) merged name m.falling (λ d some. All-head (NotAbove (get_or merged (length merged - 1) d)) name left (moved (NotAbove (get_or merged (length merged - 1) d)) (m.above d some)));
    above = λ d some. (subst (λ x. All (NotAbove x) left) (sym (get_or_push merged name d (length (merged ++ name ∷ []) - 1) (let long = length_push merged name in omega arith)))
        (All-tail (NotAbove name) name left (moved (NotAbove name) (All-gathered (NotAbove name) parts (parts_below name parts m.sorted (subst (λ x. All (EndsNotAbove x) parts) same_name leads.greatest))))));
  }
    where
      left : List CubeName
      left = all_names (set parts at front)

      taken : IsPermutation (all_names parts) (name ∷ left)
      taken = one_taken parts at front name leads.inside ends

      moved : (P : CubeName → Type 0) → All P (all_names parts) → All P (name ∷ left)
      moved P all = All-permutation P (all_names parts) (name ∷ left) taken all

      same_name : lead ≡ name
      same_name = (same_from_push leads.front front lead name (sym leads.ends ∙ ends)).1

  pub merges_start : (parts : List (List CubeName)) → AreInOrder cube_of parts → Merges parts parts []
  merges_start parts sorted = record {
    same = IsPermutation-refl (all_names parts);
    sorted = sorted;
    falling = λ k d low high. absurd (omega arith);
    above = λ d some. absurd (omega arith);
  }

  pub merges_end : (initial parts : List (List CubeName)) (merged : List CubeName) → Merges initial parts merged → All (λ part. part ≡ []) parts → IsPermutation (all_names initial) merged
  merges_end initial parts merged m none =
      subst (IsPermutation (all_names initial)) (ap (λ x. merged ++ x) (none_gathered parts none) ∙ append-nil merged) m.same
