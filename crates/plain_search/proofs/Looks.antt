-- What looks at the trail tell: of its picture, of models, and of the levels that their literals need.
use Rattle.std.proofs.Common.{◌≡◌, ℕ, ◌<◌, Bool, true, false, cond, ◌||◌, nat_eq, nat_le, ℤ, nat_abs, List, [], ◌∷◌, ◌++◌, length, get_or, take, Option, Some, None, is_some, is_none, refl, sym, ap, subst, ◌∙◌, append_assoc, append-nil, inl, inr, ◌+◌, nat_cmp, not, ◌&&◌, filter_map, IsSome, option_to_list, arith, rules, All}
use Rattle.std.specs.List.{list_any, list_all}
use Rattle.std.specs.Option.{option_or}
use Rattle.std.proofs.lemmas.Bool.{and_parts, and_from, both_ways, cases_Bool, eqb-true, eq-eqb, false_from_ne_true, and_cases, or_left, or_right}
use Rattle.std.proofs.lemmas.List.{get_or_read, take_more}
use Rattle.std.proofs.lemmas.List.Folds.{find-append}
use Rattle.sat_terms.specs.declared.subject.Subject.{Subject}
use Rattle.sat_terms.specs.Cubes.{is_among}
use Rattle.search_region.specs.Trail as picture
use Rattle.search_region.specs.Steady.{Steady}
use Rattle.search_region.specs.ReadCube.{picked_literal, read_cube}
use Rattle.search_region.proofs.Back.{unassigned_newer}
use Rattle.search_region.proofs.Literals.{all_weaker, any_weaker}
use Rattle.search_region.proofs.ReadCube.{picked_literal-oldest}
use Rattle.chrono_trail.specs.declared.item.Item.{Item}
use Rattle.chrono_trail.specs.Items.{item_of, are_distinct, is_upto}
use Rattle.chrono_trail.specs.Pictures.{pictured, picture_of}
use Rattle.chrono_trail.proofs.Items.{none_is}
use Rattle.chrono_trail.proofs.Pictures.{is_assigned-picture, picture-push, all-picture, any-picture}
use Rattle.plain_search.specs.declared.decide.Reached.{Reached}
use Rattle.plain_search.specs.declared.search.Search.{Search}
use Rattle.plain_search.specs.Walks.{HasReached, AreSetUpto}
use Rattle.plain_search.specs.Searching.{IsListing, listed_trail}
use Rattle.std.specs.Ordering.{int_eq, ord_max}
use Rattle.std.proofs.lemmas.Grind.{common_steps}
use Rattle.std.proofs.lemmas.Bool.Decides.{nat_tests}
use Rattle.std.proofs.lemmas.List.Elements.{filter_map-append, All-head, All-tail}
use Rattle.sat_terms.specs.Literals.{IsLiteralOf}
use Rattle.sat_terms.proofs.CubeLemmas.{int_eq-same, int_eq-true, int_eq-other}
use Rattle.search_region.specs.Model.{keeps_flips}
use Rattle.search_region.proofs.Agree.{levels_within}
use Rattle.chrono_trail.specs.Clauses.{is_true, is_false, IsAtRest}
use Rattle.chrono_trail.proofs.Clauses.{false_from_other}
use Rattle.chrono_trail.proofs.Splits.{found_is}
use Rattle.plain_search.specs.Steps.{IsModel, level_within, is_shown_flip, counts_within}

-- what follows from what holds of each
pub all_tests : {X : Type 0} (P : X → Type 0) (test : X → Bool) → ((x : X) → P x → test x ≡ true) → (xs : List X) → All P xs →
    list_all test xs ≡ true
all_tests P test h [] all = refl
all_tests P test h (x ∷ xs) all =
    and_from (test x) (list_all test xs) (h x (All-head P x xs all)) (all_tests P test h xs (All-tail P x xs all))

-- the clause that a walk has come to
pub clause_at : (f xs : List (List ℤ)) (i : ℕ) (x lits : List ℤ) → xs ≡ f → i < length xs → x ≡ get_or xs i x → lits ≡ x →
    (i < length f) × (lits ≡ get_or f i [])
clause_at f xs i x lits same inside at lits_at =
    (subst (λ ys. i < length ys) same inside, lits_at ∙ get_or_read xs i x inside at [] ∙ ap (λ ys. get_or ys i []) same)

-- the items of a search are of distinct variables
none_from : (o : Option Item) → is_some o ≡ false → is_none o ≡ true
none_from None h = refl
none_from (Some i) h = cc

distinct_over : (f : List (List ℤ)) (shown : ℕ → Bool) (items : List Item) (older : List picture.Item) →
    Steady f shown (picture_of f items ++ older) → are_distinct items ≡ true
distinct_over f shown [] older s = refl
distinct_over f shown (i ∷ later) older s =
    let whole = subst (Steady f shown) (append_assoc (picture_of f later) (pictured f i ∷ []) older) s in
    and_from (is_none (item_of later (nat_abs i.lit))) (are_distinct later)
    (none_from (item_of later (nat_abs i.lit)) (sym (is_assigned-picture f (nat_abs i.lit) later)
    ∙ unassigned_newer f shown (picture_of f later) (pictured f i) older whole))
    (distinct_over f shown later (pictured f i ∷ older) whole)

pub items_distinct : (s : Subject) (search : Search) → IsListing s search → are_distinct search.trail.items ≡ true
items_distinct s search h =
    distinct_over s.formula.clauses (is_among s.shown) search.trail.items []
    (subst (Steady s.formula.clauses (is_among s.shown)) (sym (append-nil (picture_of s.formula.clauses search.trail.items))) h.running.steady)

-- there is an item, and it passes the test
abbrev pub passes : (Item → Bool) → Option Item → Bool
passes test None = false
passes test (Some i) = test i

-- a test that only items of one variable pass
pub any_item : (test : Item → Bool) (v : ℕ) → ((i : Item) → test i ≡ true → nat_abs i.lit ≡ v) →
    (items : List Item) → are_distinct items ≡ true → list_any test items ≡ passes test (item_of items v)
any_item test v only [] d = refl
any_item test v only (i ∷ later) d =
    let (alone, apart) = and_parts (is_none (item_of later (nat_abs i.lit))) (are_distinct later) d in
    let rest = any_item test v only later apart in
    elim (cases_Bool (nat_eq v (nat_abs i.lit))) [
      | inl same ↦
          let none = ap (item_of later) (eqb-true v (nat_abs i.lit) same) ∙ none_is (item_of later (nat_abs i.lit)) alone in
          rw same (ap (λ b. test i || b) (rest ∙ ap (passes test) none) ∙ or_none (test i))
      | inr other ↦
          let wrong : test i ≡ false =
          false_from_ne_true (test i) (λ h. both_ways (nat_eq v (nat_abs i.lit)) other (eq-eqb v (nat_abs i.lit) (sym (only i h)))) in
          rw (other, wrong) rest
    ]
  where
    or_none : (b : Bool) → (b || false) ≡ b
    or_none true = refl
    or_none false = refl

-- the literal that an item gives to the cube of a level
abbrev pub literal_upto : ℕ → Option Item → Option ℤ
literal_upto b None = None
literal_upto b (Some i) = cond (nat_le i.level b) (Some i.lit) None

pub picked_item : (f : List (List ℤ)) (b : ℕ) (items : List Item) (v : ℕ) → are_distinct items ≡ true →
    picked_literal (picture.upto b) (picture_of f items) v ≡ literal_upto b (item_of items v)
picked_item f b [] v d = refl
picked_item f b (i ∷ later) v d =
    let (alone, apart) = and_parts (is_none (item_of later (nat_abs i.lit))) (are_distinct later) d in
    let none = none_is (item_of later (nat_abs i.lit)) alone in
    picked_literal-oldest (picture.upto b) (picture_of f later) (pictured f i) v
    (is_assigned-picture f (nat_abs i.lit) later ∙ ap is_some none)
    ∙ ap (λ o. cond (nat_eq v (nat_abs i.lit)) (cond (nat_le i.level b) (Some i.lit) None) o) (picked_item f b later v apart)
    ∙ elim (cases_Bool (nat_eq v (nat_abs i.lit))) [ inl same ↦ rw same refl | inr other ↦ rw other refl ]

-- a variable that is set stays so while items join, and so does what the walk for a free one has passed
set_stays : (old added : List Item) (v : ℕ) → is_some (item_of old v) ≡ true → is_some (item_of (old ++ added) v) ≡ true
set_stays old added v h = ap is_some (find-append (λ i. nat_eq v (nat_abs i.lit)) old added) ∙ first (item_of old v) h
  where
    first : (o : Option Item) → is_some o ≡ true → is_some (option_or o (item_of added v)) ≡ true
    first None g = cc
    first (Some i) g = refl

pub reached_stays : (old added : List Item) (p : List ℕ) (reached : Reached) → HasReached old p reached →
    HasReached (old ++ added) p reached
reached_stays old added p reached h = record {
  shown = all_weaker (λ v. is_some (item_of old v)) (λ v. is_some (item_of (old ++ added) v)) (set_stays old added)
      (take reached.shown p) h.shown;
  variables = λ v low high. set_stays old added v (h.variables v low high);
}

-- ---- models

-- the item makes the literal true, and is hidden or of level at most b
abbrev pub counts : Subject → ℕ → ℤ → Item → Bool
counts s b l i = int_eq l i.lit && (not (is_among s.shown (nat_abs i.lit)) || nat_le i.level b)

module _ (s : Subject) (now : Search) (h : IsListing s now) where
  -- whether a literal is true is seen at the item of its variable
  true_item : (l : ℤ) → is_true now.trail.items l ≡ passes (λ i. int_eq l i.lit) (item_of now.trail.items (nat_abs l))
  true_item l = any_item (λ i. int_eq l i.lit) (nat_abs l) (λ i same. ap nat_abs (sym (int_eq-true l i.lit same))) now.trail.items
      (items_distinct s now h)

  -- ---- where each variable is set and no clause is false, each clause has a true literal

  module _ (set : AreSetUpto now.trail.items s.formula.variables) where
    true_literal : (l : ℤ) → IsLiteralOf s.formula.variables l → is_false now.trail.items l ≡ false → is_true now.trail.items l ≡ true
    true_literal l named off = true_item l ∙ at_item (item_of now.trail.items (nat_abs l)) refl (set (nat_abs l) named.0 named.1)
      where
        at_item : (o : Option Item) → item_of now.trail.items (nat_abs l) ≡ o → is_some o ≡ true → passes (λ i. int_eq l i.lit) o ≡ true
        at_item None e some = cc
        at_item (Some i) e some = elim (cases_Bool (int_eq l i.lit)) [
          | inl same ↦ same
          | inr other ↦ absurd (both_ways (is_false now.trail.items l) off (false_from_other now.trail.items l i e
              (λ same. both_ways (int_eq l i.lit) other (ap (int_eq l) same ∙ int_eq-same l))))
        ]

    true_clause : (c : List ℤ) → All (IsLiteralOf s.formula.variables) c → list_all (is_false now.trail.items) c ≡ false → list_any (is_true now.trail.items) c ≡ true
    true_clause [] named off = sym off
    true_clause (l ∷ c) named off = elim (and_cases (is_false now.trail.items l) (list_all (is_false now.trail.items) c) off) [
      | inl here ↦ or_left (is_true now.trail.items l) (list_any (is_true now.trail.items) c) (true_literal l (All-head (IsLiteralOf s.formula.variables) l c named) here)
      | inr rest ↦ or_right (is_true now.trail.items l) (list_any (is_true now.trail.items) c) (true_clause c (All-tail (IsLiteralOf s.formula.variables) l c named) rest)
    ]

    pub full_is_model : All (IsAtRest now.trail.items) s.formula.clauses → IsModel s now
    full_is_model rest =
        all_tests (λ c. All (IsLiteralOf s.formula.variables) c × IsAtRest now.trail.items c) (list_any (is_true now.trail.items))
        (λ c both. true_clause c both.0 both.1.not_false) s.formula.clauses (λ k d inside. (h.subject.formula.named k d inside, rest k d inside))

  -- ---- the level from which on a literal counts is seen there too

  module _ (l : ℤ) where
    counts_item : (b : ℕ) → counts_within s now b l ≡ passes (counts s b l) (item_of now.trail.items (nat_abs l))
    counts_item b =
        any-picture s.formula.clauses (λ i. int_eq l i.lit && (not (picture.seen (is_among s.shown) i) || nat_le i.level b)) now.trail.items
        ∙ any_item (counts s b l) (nat_abs l)
        (λ i on. ap nat_abs (sym (int_eq-true l i.lit (and_parts (int_eq l i.lit) (not (is_among s.shown (nat_abs i.lit)) || nat_le i.level b) on).0)))
        now.trail.items (items_distinct s now h)

    pub unset_counts : (v : ℕ) → v ≡ nat_abs l → item_of now.trail.items v ≡ None → (b : ℕ) → counts_within s now b l ≡ false
    unset_counts v at none b = counts_item b ∙ ap (passes (counts s b l)) (ap (item_of now.trail.items) (sym at) ∙ none)

    module _ (v : ℕ) (i : Item) (at : v ≡ nat_abs l) (there : item_of now.trail.items v ≡ Some i) (b : ℕ) where
      seen_counts : counts_within s now b l ≡ counts s b l i
      seen_counts = counts_item b ∙ ap (passes (counts s b l)) (ap (item_of now.trail.items) (sym at) ∙ there)

      pub false_counts : (i.lit ≡ l → ⊥) → counts_within s now b l ≡ false
      false_counts other = seen_counts
          ∙ ap (λ x. x && (not (is_among s.shown (nat_abs i.lit)) || nat_le i.level b)) (int_eq-other l i.lit (λ same. other (sym same)))

      pub true_counts : i.lit ≡ l → counts_within s now b l ≡ (not (is_among s.shown (nat_abs i.lit)) || nat_le i.level b)
      true_counts same = seen_counts
          ∙ ap (λ x. x && (not (is_among s.shown (nat_abs i.lit)) || nat_le i.level b)) (ap (int_eq l) same ∙ int_eq-same l)

    -- a true literal counts at the current level
    true_counts_there : is_true now.trail.items l ≡ true → counts_within s now (picture.depth (listed_trail s now)) l ≡ true
    true_counts_there on = counts_item (picture.depth (listed_trail s now)) ∙ at_item (item_of now.trail.items (nat_abs l)) refl (sym (true_item l) ∙ on)
      where
        at_item : (o : Option Item) → item_of now.trail.items (nat_abs l) ≡ o → passes (λ i. int_eq l i.lit) o ≡ true →
            passes (counts s (picture.depth (listed_trail s now)) l) o ≡ true
        at_item None e same = same
        at_item (Some i) e same =
            and_from (int_eq l i.lit) (not (is_among s.shown (nat_abs i.lit)) || nat_le i.level (picture.depth (listed_trail s now))) same
            (or_right (not (is_among s.shown (nat_abs i.lit))) (nat_le i.level (picture.depth (listed_trail s now)))
            (found_is (λ j. nat_eq (nat_abs l) (nat_abs j.lit)) (is_upto (picture.depth (listed_trail s now))) now.trail.items i e
            (sym (all-picture s.formula.clauses (picture.upto (picture.depth (listed_trail s now))) now.trail.items)
            ∙ levels_within s.formula.clauses (is_among s.shown) (picture.depth (listed_trail s now)) (listed_trail s now) h.running.steady (omega arith))))

  -- so a clause of a model needs some level
  pub clause_level_there : (c : List ℤ) (r : Option ℕ) → list_any (is_true now.trail.items) c ≡ true →
      ((b : ℕ) → list_any (counts_within s now b) c ≡ level_within b r) → IsSome r
  clause_level_there c r on least =
      level_there r (sym (least (picture.depth (listed_trail s now)))
      ∙ any_weaker (is_true now.trail.items) (counts_within s now (picture.depth (listed_trail s now))) true_counts_there c on)
    where
      level_there : (o : Option ℕ) → level_within (picture.depth (listed_trail s now)) o ≡ true → IsSome o
      level_there None none = cc
      level_there (Some level) some = search rules

-- ---- walks over items and over variables

-- one more item
pub flips_more : (s : Subject) (b : ℕ) (items : List Item) (i : ℕ) (d : Item) → i < length items →
    keeps_flips (is_among s.shown) b (picture_of s.formula.clauses (take (i + 1) items))
    ≡ ((not (is_shown_flip s (get_or items i d)) || nat_le (get_or items i d).level b)
    && keeps_flips (is_among s.shown) b (picture_of s.formula.clauses (take i items)))
flips_more s b items i d inside =
    ap (λ xs. keeps_flips (is_among s.shown) b (picture_of s.formula.clauses xs)) (take_more items i d inside)
    ∙ ap (keeps_flips (is_among s.shown) b) (picture-push s.formula.clauses (take i items) (get_or items i d))

-- both levels are at most b where the greater one is
pub within_both : (a b c : ℕ) → (nat_le a b && nat_le c b) ≡ nat_le (ord_max nat_cmp c a) b
within_both a b c = grind (arith, nat_tests, common_steps)

-- one more variable
pub cube_more : (pick : picture.Item → Bool) (trail : List picture.Item) (p : List ℕ) (i d : ℕ) → i < length p →
    read_cube pick trail (take (i + 1) p) ≡ read_cube pick trail (take i p) ++ option_to_list (picked_literal pick trail (get_or p i d))
cube_more pick trail p i d inside =
    ap (read_cube pick trail) (take_more p i d inside)
    ∙ filter_map-append (picked_literal pick trail) (take i p) (get_or p i d ∷ [])
    ∙ ap (λ rest. read_cube pick trail (take i p) ++ rest) (as_list (picked_literal pick trail (get_or p i d)))
  where
    as_list : (o : Option ℤ) → filter_map (λ (x : ℕ). o) (0 ∷ []) ≡ option_to_list o
    as_list None = refl
    as_list (Some l) = refl
