-- Where solutions leave the trail, before and after a shown decision is turned over.
use Rattle.std.proofs.Common.{◌≡◌, ℕ, suc, ◌≤◌, Bool, true, false, not, ◌&&◌, ◌||◌, nat_le, nat_eq, ℤ, neg_ℤ, nat_abs, List, [], ◌∷◌, ◌++◌, refl, sym, ap, subst, ◌∙◌, inl, inr, arith}
use Rattle.std.specs.List.{list_all}
use Rattle.std.proofs.lemmas.Bool.{and_parts, and_from, or_cases, or_parts, or_left, or_right, both_ways, not-true, false_from_ne_true, true_from_ne_false, not_from_false, and_left, cases_Bool, le-leb, leb-true}
use Rattle.std.proofs.lemmas.List.Folds.{list_all-append}
use Rattle.sat_terms.specs.Literals.{lit_true}
use Rattle.sat_terms.specs.Truth.{sat, holds}
use Rattle.search_region.specs.Trail.{Item, Kind, Assumed, Decided, Flipped, Turned, Implied, depth, upto, back, flip, turn_over, branches, seen, seen_upto, agrees, chosen_upto, is_assigned, is_flipped, is_branch, is_chosen}
use Rattle.search_region.specs.Steady.{Steady, Fine, FineKind, IsFull, Follows}
use Rattle.search_region.specs.Region.{cut, leaves_at}
use Rattle.search_region.specs.Conflict.{is_false_upto}
use Rattle.search_region.specs.Model.{CubeOf}
use Rattle.search_region.proofs.Agree.{agree_head, agree_tail, agree_more, agree_fewer, agree_among, agree_all, levels_within}
use Rattle.search_region.proofs.Heart.{heart, conflict}
use Rattle.search_region.proofs.Back.{back_split, depth_back, steady_older, steady_back, newer_forced}
use Rattle.search_region.proofs.Flip.{fine_decided, chosen_newer, agree_older, assigned_newer, cut_full}
use Rattle.sat_terms.proofs.Disjoint.{lit_true-neg}
use Rattle.sat_terms.proofs.CubeLemmas.{nat_abs-neg}

pub same_bools : (a b : Bool) → (a ≡ true → b ≡ true) → (b ≡ true → a ≡ true) → a ≡ b
same_bools true b there back = sym (there refl)
same_bools false true there back = back refl
same_bools false false there back = refl

pub or_false : (b : Bool) → (b || false) ≡ b
or_false true = refl
or_false false = refl

-- an item that isn't flipped adds nothing to what left
pub unflipped_stays : (shown t : ℕ → Bool) (i : Item) (older : List Item) → is_flipped i.kind ≡ false → leaves_at shown t i older ≡ false
unflipped_stays shown t i older e =
    and_left (is_flipped i.kind && seen shown i) (not (lit_true t i.lit) && agrees (seen shown) t older) (and_left (is_flipped i.kind) (seen shown i) e)

pub cut_unflipped : (shown t : ℕ → Bool) (i : Item) (older : List Item) → is_flipped i.kind ≡ false → cut shown t (i ∷ older) ≡ cut shown t older
cut_unflipped shown t i older e = ap (λ b. cut shown t older || b) (unflipped_stays shown t i older e) ∙ or_false (cut shown t older)

-- so do forced ones
pub cut_forced : (shown t : ℕ → Bool) (forced older : List Item) → list_all (λ i. not (branches i)) forced ≡ true → cut shown t (forced ++ older) ≡ cut shown t older
cut_forced shown t [] older h = refl
cut_forced shown t (i ∷ forced) older h =
    let (now, rest) = and_parts (not (branches i)) (list_all (λ j. not (branches j)) forced) h in
    cut_unflipped shown t i (forced ++ older) (unflipped i.kind (not-true (branches i) now)) ∙ cut_forced shown t forced older rest
  where
    unflipped : (k : Kind) → is_branch k ≡ false → is_flipped k ≡ false
    unflipped Assumed e = refl
    unflipped Decided e = refl
    unflipped Flipped e = e
    unflipped (Turned w) e = refl
    unflipped (Implied w) e = refl

-- who left stays away
pub cut_newer : (shown t : ℕ → Bool) (newer older : List Item) → cut shown t older ≡ true → cut shown t (newer ++ older) ≡ true
cut_newer shown t [] older h = h
cut_newer shown t (i ∷ newer) older h = or_left (cut shown t (newer ++ older)) (leaves_at shown t i (newer ++ older)) (cut_newer shown t newer older h)

-- who leaves among the newer items agrees with the older ones that are shown
pub cut_passes : (shown t : ℕ → Bool) (newer older : List Item) → cut shown t (newer ++ older) ≡ true → cut shown t older ≡ false → agrees (seen shown) t older ≡ true
cut_passes shown t [] older h e = absurd (both_ways (cut shown t older) e h)
cut_passes shown t (i ∷ newer) older h e =
    elim (or_cases (cut shown t (newer ++ older)) (leaves_at shown t i (newer ++ older)) h) [
      | inl before ↦ cut_passes shown t newer older before e
      | inr here ↦ agree_older (seen shown) t newer older
          (and_parts (not (lit_true t i.lit)) (agrees (seen shown) t (newer ++ older)) (and_parts (is_flipped i.kind && seen shown i) (not (lit_true t i.lit) && agrees (seen shown) t (newer ++ older)) here).1).1
    ]

module _ (f : List (List ℤ)) (shown : ℕ → Bool) where
  -- while some shown variable is unassigned, each chosen item is a shown one
  pub chosen_seen : (v : ℕ) → shown v ≡ true → (trail : List Item) → Steady f shown trail → is_assigned v trail ≡ false → list_all (λ i. not (is_chosen i.kind) || seen shown i) trail ≡ true
  chosen_seen v h [] s unset = refl
  chosen_seen v h (i ∷ older) s unset =
      let (here, rest) = or_parts (nat_eq v (nat_abs i.lit)) (is_assigned v older) unset in
      and_from (not (is_chosen i.kind) || seen shown i) (list_all (λ j. not (is_chosen j.kind) || seen shown j) older)
      (by_kind i.kind refl s.0.kinds) (chosen_seen v h older s.1 rest)
    where
      open_now : is_assigned v older ≡ false
      open_now = (or_parts (nat_eq v (nat_abs i.lit)) (is_assigned v older) unset).1

      unchosen : (c : Kind) → i.kind ≡ c → is_chosen c ≡ false → (not (is_chosen i.kind) || seen shown i) ≡ true
      unchosen c e n = or_left (not (is_chosen i.kind)) (seen shown i) (not_from_false (is_chosen i.kind) (ap is_chosen e ∙ n))

      by_kind : (c : Kind) → i.kind ≡ c → FineKind f shown c i older → (not (is_chosen i.kind) || seen shown i) ≡ true
      by_kind Assumed e k = or_right (not (is_chosen i.kind)) (seen shown i) k.over
      by_kind Decided e k = or_right (not (is_chosen i.kind)) (seen shown i) (true_from_ne_false (seen shown i) λ hides. both_ways (is_assigned v older) open_now (k.late hides v h))
      by_kind Flipped e k = unchosen Flipped e refl
      by_kind (Turned w) e k = unchosen (Turned w) e refl
      by_kind (Implied w) e k = unchosen (Implied w) e refl

  -- so who agrees with the shown items agrees with the choices
  pub agree_chosen : (k v : ℕ) (t : ℕ → Bool) → shown v ≡ true → (trail : List Item) → Steady f shown trail → is_assigned v trail ≡ false → agrees (seen shown) t trail ≡ true → agrees (chosen_upto k) t trail ≡ true
  agree_chosen k v t h trail s unset a =
      agree_among (λ i. not (is_chosen i.kind) || seen shown i) (seen shown) (chosen_upto k)
      (λ i e c. elim (or_cases (not (is_chosen i.kind)) (seen shown i) e) [
        | inl n ↦ absurd (both_ways (is_chosen i.kind) (not-true (is_chosen i.kind) n) (and_parts (is_chosen i.kind) (nat_le i.level k) c).0)
        | inr shows ↦ shows
      ])
      t trail (chosen_seen v h trail s unset) a

  module _ (newer : List Item) (d : Item) (older : List Item) (s : Steady f shown (newer ++ d ∷ older)) (e : d.kind ≡ Decided) where
    pub fine : Fine f shown d older
    fine = (steady_older f shown newer (d ∷ older) s).0

    pub old : Steady f shown older
    old = (steady_older f shown newer (d ∷ older) s).1

    pub opens : d.level ≡ suc (depth older)
    opens = (fine_decided f shown d older fine e).opens

    pub split : back (depth older) (newer ++ d ∷ older) ≡ back (depth older) newer ++ older
    split = back_split f shown newer d older s opens

    pub forced : list_all (λ i. not (branches i)) (back (depth older) newer) ≡ true
    forced = newer_forced f shown newer d older s (rw e refl) opens

    pub cut_kept : (t : ℕ → Bool) → cut shown t (back (depth older) (newer ++ d ∷ older)) ≡ cut shown t older
    cut_kept t = ap (cut shown t) split ∙ cut_forced shown t (back (depth older) newer) older forced

    pub cut_d : (t : ℕ → Bool) → cut shown t (d ∷ older) ≡ cut shown t older
    cut_d t = cut_unflipped shown t d older (rw e refl)

    -- turning a hidden decision over changes nothing here
    pub hidden_cut : seen shown d ≡ false → (t : ℕ → Bool) → cut shown t (turn_over newer d older) ≡ cut shown t (newer ++ d ∷ older)
    hidden_cut hides t =
        ap (λ b. cut shown t (back (depth older) (newer ++ d ∷ older)) || b) stays
        ∙ or_false (cut shown t (back (depth older) (newer ++ d ∷ older)))
        ∙ cut_kept t ∙ sym (cut_d t) ∙ sym (cut_full f shown t newer (d ∷ older) s full)
      where
        full : IsFull shown (d ∷ older)
        full v h = assigned_newer v (d ∷ []) older ((fine_decided f shown d older fine e).late hides v h)

        stays : leaves_at shown t (flip (depth older) d) (back (depth older) (newer ++ d ∷ older)) ≡ false
        stays = rw (nat_abs-neg d.lit, hides) refl

    module _ (shows : seen shown d ≡ true) where
      -- a solution that agrees with the older shown items, and hasn't left them, agrees with all that stays
      pub follows_back : (t : ℕ → Bool) → sat f t ≡ true → agrees (seen shown) t older ≡ true → cut shown t older ≡ false → agrees (upto (depth older)) t (back (depth older) (newer ++ d ∷ older)) ≡ true
      follows_back t m a stays = heart f shown (depth older) t (back (depth older) (newer ++ d ∷ older)) (steady_back f shown (depth older) (newer ++ d ∷ older) s) m choices (cut_kept t ∙ stays)
        where
          in_older : agrees (chosen_upto (depth older)) t older ≡ true
          in_older = agree_chosen (depth older) (nat_abs d.lit) t shows older old fine.fresh a

          choices : agrees (chosen_upto (depth older)) t (back (depth older) (newer ++ d ∷ older)) ≡ true
          choices = rw split (list_all-append (λ i. not (chosen_upto (depth older) i) || lit_true t i.lit) (back (depth older) newer) older ∙ and_from (agrees (chosen_upto (depth older)) t (back (depth older) newer)) (agrees (chosen_upto (depth older)) t older)
              (agree_among (λ i. not (branches i)) (λ i. false) (chosen_upto (depth older)) (λ i b c. absurd (unchosen i.kind (not-true (branches i) b) (and_parts (is_chosen i.kind) (nat_le i.level (depth older)) c).0)) t (back (depth older) newer) forced (none_picked (back (depth older) newer)))
              in_older)
            where
              unchosen : (c : Kind) → is_branch c ≡ false → is_chosen c ≡ true → ⊥
              unchosen Assumed b h = both_ways true b refl
              unchosen Decided b h = both_ways true b refl
              unchosen Flipped b h = both_ways false refl h
              unchosen (Turned w) b h = both_ways false refl h
              unchosen (Implied w) b h = both_ways false refl h

              none_picked : (items : List Item) → agrees (λ i. false) t items ≡ true
              none_picked [] = refl
              none_picked (i ∷ items) = none_picked items

      -- a solution in the decision's side leaves at the turned decision
      turned_leaves : (t : ℕ → Bool) → sat f t ≡ true → lit_true t d.lit ≡ true → agrees (seen shown) t older ≡ true → cut shown t older ≡ false → leaves_at shown t (flip (depth older) d) (back (depth older) (newer ++ d ∷ older)) ≡ true
      turned_leaves t m now a stays =
          and_from (true && seen shown (flip (depth older) d)) (not (lit_true t (neg_ℤ d.lit)) && agrees (seen shown) t (back (depth older) (newer ++ d ∷ older)))
          (rw (nat_abs-neg d.lit) shows)
          (and_from (not (lit_true t (neg_ℤ d.lit))) (agrees (seen shown) t (back (depth older) (newer ++ d ∷ older)))
          (rw (lit_true-neg t d.lit fine.named, now) refl)
          (agree_all f shown (depth older) (seen shown) t (back (depth older) (newer ++ d ∷ older)) steady low
          (follows_back t m a stays)))
        where
          steady : Steady f shown (back (depth older) (newer ++ d ∷ older))
          steady = steady_back f shown (depth older) (newer ++ d ∷ older) s

          low : depth (back (depth older) (newer ++ d ∷ older)) ≤ depth older
          low = let b = depth_back f shown (depth older) (newer ++ d ∷ older) s in omega arith

      -- who left before the decision was turned over has left after it
      pub cut_stays : (t : ℕ → Bool) → sat f t ≡ true → cut shown t (newer ++ d ∷ older) ≡ true → cut shown t (turn_over newer d older) ≡ true
      cut_stays t m h =
          elim (cases_Bool (cut shown t older)) [
            | inl gone ↦ or_left (cut shown t (back (depth older) (newer ++ d ∷ older))) (leaves_at shown t (flip (depth older) d) (back (depth older) (newer ++ d ∷ older))) (cut_kept t ∙ gone)
            | inr stays ↦
                let a = cut_passes shown t newer (d ∷ older) h (cut_d t ∙ stays) in
                or_right (cut shown t (back (depth older) (newer ++ d ∷ older))) (leaves_at shown t (flip (depth older) d) (back (depth older) (newer ++ d ∷ older)))
                (turned_leaves t m (agree_head (seen shown) t d older a shows) (agree_tail (seen shown) t d older a) stays)
          ]

      -- a solution that has left only after it follows all choices up to the decision
      pub follows_choices : (t : ℕ → Bool) → sat f t ≡ true → cut shown t (turn_over newer d older) ≡ true → cut shown t (newer ++ d ∷ older) ≡ false → agrees (chosen_upto d.level) t (newer ++ d ∷ older) ≡ true
      follows_choices t m h stays =
          chosen_newer f shown t newer d older s e opens
          (agree_more (chosen_upto d.level) t d older (λ c. now) (agree_chosen d.level (nat_abs d.lit) t shows older old fine.fresh before))
        where
          stayed : cut shown t older ≡ false
          stayed = false_from_ne_true (cut shown t older) λ gone. both_ways (cut shown t (newer ++ d ∷ older)) stays (cut_newer shown t newer (d ∷ older) (cut_d t ∙ gone))

          here : leaves_at shown t (flip (depth older) d) (back (depth older) (newer ++ d ∷ older)) ≡ true
          here = elim (or_cases (cut shown t (back (depth older) (newer ++ d ∷ older))) (leaves_at shown t (flip (depth older) d) (back (depth older) (newer ++ d ∷ older))) h) [
            | inl gone ↦ absurd (both_ways (cut shown t older) stayed (sym (cut_kept t) ∙ gone))
            | inr now ↦ now
          ]

          parts : (not (lit_true t (neg_ℤ d.lit)) ≡ true) × (agrees (seen shown) t (back (depth older) (newer ++ d ∷ older)) ≡ true)
          parts = and_parts (not (lit_true t (neg_ℤ d.lit))) (agrees (seen shown) t (back (depth older) (newer ++ d ∷ older))) (and_parts (true && seen shown (flip (depth older) d)) (not (lit_true t (neg_ℤ d.lit)) && agrees (seen shown) t (back (depth older) (newer ++ d ∷ older))) here).1

          now : lit_true t d.lit ≡ true
          now = true_from_ne_false (lit_true t d.lit) λ wrong. both_ways (lit_true t (neg_ℤ d.lit)) (not-true (lit_true t (neg_ℤ d.lit)) parts.0) (lit_true-neg t d.lit fine.named ∙ not_from_false (lit_true t d.lit) wrong)

          before : agrees (seen shown) t older ≡ true
          before = agree_older (seen shown) t (back (depth older) newer) older (subst (λ rest. agrees (seen shown) t rest ≡ true) split parts.1)

      -- a conflict loses no solution
      pub conflict_cut : (c : List ℤ) → Follows f c → is_false_upto d.level (newer ++ d ∷ older) c ≡ true → (t : ℕ → Bool) → sat f t ≡ true → cut shown t (turn_over newer d older) ≡ cut shown t (newer ++ d ∷ older)
      conflict_cut c follows wrong t m =
          same_bools (cut shown t (turn_over newer d older)) (cut shown t (newer ++ d ∷ older))
          (λ h. true_from_ne_false (cut shown t (newer ++ d ∷ older)) λ stays. conflict f shown d.level c t (newer ++ d ∷ older) s follows wrong m (follows_choices t m h stays) stays)
          (cut_stays t m)

      -- a found cube takes just the solutions that it holds
      pub found_cut : (c : List ℤ) → CubeOf shown d.level (newer ++ d ∷ older) c → (t : ℕ → Bool) → sat f t ≡ true → cut shown t (turn_over newer d older) ≡ (cut shown t (newer ++ d ∷ older) || holds t c)
      found_cut c cube t m =
          same_bools (cut shown t (turn_over newer d older)) (cut shown t (newer ++ d ∷ older) || holds t c)
          (λ h. elim (cases_Bool (cut shown t (newer ++ d ∷ older))) [
            | inl gone ↦ or_left (cut shown t (newer ++ d ∷ older)) (holds t c) gone
            | inr stays ↦ or_right (cut shown t (newer ++ d ∷ older)) (holds t c)
                (cube.says t ∙ agree_fewer (upto d.level) (seen_upto shown d.level) (λ i b. (and_parts (seen shown i) (nat_le i.level d.level) b).1) t (newer ++ d ∷ older)
                (heart f shown d.level t (newer ++ d ∷ older) s m (follows_choices t m h stays) stays))
          ])
          (λ h. elim (or_cases (cut shown t (newer ++ d ∷ older)) (holds t c) h) [
            | inl gone ↦ cut_stays t m gone
            | inr held ↦ takes (sym (cube.says t) ∙ held)
          ])
        where
          takes : agrees (seen_upto shown d.level) t (newer ++ d ∷ older) ≡ true → cut shown t (turn_over newer d older) ≡ true
          takes all =
              let a = agree_older (seen_upto shown d.level) t newer (d ∷ older) all in
              elim (cases_Bool (cut shown t older)) [
                | inl gone ↦ or_left (cut shown t (back (depth older) (newer ++ d ∷ older))) (leaves_at shown t (flip (depth older) d) (back (depth older) (newer ++ d ∷ older))) (cut_kept t ∙ gone)
                | inr stays ↦ or_right (cut shown t (back (depth older) (newer ++ d ∷ older))) (leaves_at shown t (flip (depth older) d) (back (depth older) (newer ++ d ∷ older)))
                    (turned_leaves t m
                    (agree_head (seen_upto shown d.level) t d older a (and_from (seen shown d) (nat_le d.level d.level) shows (le-leb d.level d.level (omega arith))))
                    (agree_among (upto (depth older)) (seen_upto shown d.level) (seen shown) (λ i low sh. and_from (seen shown i) (nat_le i.level d.level) sh (let low1 = leb-true i.level (depth older) low in let on = opens in le-leb i.level d.level (omega arith))) t older
                    (levels_within f shown (depth older) older old (omega arith)) (agree_tail (seen_upto shown d.level) t d older a))
                    stays)
              ]
