-- The least level that is enough, read by the shown variables in place of their table.
use Rattle.std.proofs.Common.{take, zero, suc, ◌≡◌, ℕ, ◌<◌, ◌≤◌, Bool, true, false, not, ◌&&◌, ◌||◌, nat_eq, nat_le, ℤ, nat_abs, List, [], ◌∷◌, length, get_or, refl, sym, ap, ◌∙◌, inl, inr, arith}
use Rattle.std.specs.List.{list_any, list_all}
use Rattle.std.specs.Ordering.{int_eq}
use Rattle.std.proofs.lemmas.Bool.{and_parts, eqb-true, false_from_ne_true, le-leb, leb-true}
use Rattle.std.proofs.lemmas.List.{get_or_past}
use Rattle.sat_terms.specs.Cubes.{is_among, has_pair}
use Rattle.search_region.specs.Trail as picture
use Rattle.search_region.specs.Model.{is_kept, is_met, keeps_flips, reaches}
use Rattle.search_region.proofs.Agree.{levels_within}
use Rattle.search_region.proofs.Literals.{none_both}
use Rattle.search_region.proofs.Root.{cases_le}
use Rattle.search_job.proofs.Least.{least_reaches_above}
use Rattle.chrono_trail.specs.declared.item.Item.{Item}
use Rattle.chrono_trail.specs.Clauses.{is_false_clause}
use Rattle.implicant_shrink.specs.Levels.{marked}
use Rattle.implicant_shrink.specs.Shrinking.{is_enough, IsLeastFrom}
use Rattle.live_engine.specs.declared.search.Search.{Search}
use Rattle.live_engine.specs.Searching.{search_formula, pictured_trail, IsGround, IsSearching}
use Rattle.live_engine.specs.Steps.{IsLeastEnough}
use Rattle.live_engine.proofs.Prefixes.{among_named}

-- ---- the same shown variables

all_same : {X : Type 0} (p q : X → Bool) → ((x : X) → p x ≡ q x) → (xs : List X) → list_all p xs ≡ list_all q xs
all_same p q same [] = refl
all_same p q same (x ∷ xs) = ap (λ b. b && list_all p xs) (same x) ∙ ap (λ b. q x && b) (all_same p q same xs)

any_same : {X : Type 0} (p q : X → Bool) → ((x : X) → p x ≡ q x) → (xs : List X) → list_any p xs ≡ list_any q xs
any_same p q same [] = refl
any_same p q same (x ∷ xs) = ap (λ b. b || list_any p xs) (same x) ∙ ap (λ b. q x || b) (any_same p q same xs)

module _ (a b : ℕ → Bool) (same : (v : ℕ) → a v ≡ b v) (m : ℕ) (trail : List picture.Item) where
  kept_same : (l : ℤ) → is_kept a m trail l ≡ is_kept b m trail l
  kept_same l = any_same (λ i. int_eq l i.lit && (not (picture.seen a i) || nat_le i.level m)) (λ i. int_eq l i.lit && (not (picture.seen b i) || nat_le i.level m))
      (λ i. ap (λ c. int_eq l i.lit && (not c || nat_le i.level m)) (same (nat_abs i.lit))) trail

  met_same : (c : List ℤ) → is_met a m trail c ≡ is_met b m trail c
  met_same c = ap (λ x. has_pair c || x) (any_same (is_kept a m trail) (is_kept b m trail) kept_same c)

  flips_same : keeps_flips a m trail ≡ keeps_flips b m trail
  flips_same = all_same (λ i. not (picture.is_flipped i.kind && picture.seen a i) || nat_le i.level m) (λ i. not (picture.is_flipped i.kind && picture.seen b i) || nat_le i.level m)
      (λ i. ap (λ c. not (picture.is_flipped i.kind && c) || nat_le i.level m) (same (nat_abs i.lit))) trail

  enough_same : (f : List (List ℤ)) → is_enough a m trail f ≡ is_enough b m trail f
  enough_same f = ap (λ x. x && list_all (is_met a m trail) f) flips_same ∙ ap (λ x. keeps_flips b m trail && x) (all_same (is_met a m trail) (is_met b m trail) met_same f)

-- the table tells of every number
table_same : (s : Search) → IsGround s → (v : ℕ) → marked s.is_shown.items v ≡ is_among s.shown.items v
table_same s g v = elim (cases_le v s.variables) [
  | inl low ↦ g.table.tells v low
  | inr above ↦
      let places = g.table.places in
      get_or_past s.is_shown.items v false (omega arith)
      ∙ sym (false_from_ne_true (is_among s.shown.items v) (λ on. (let low = (among_named s.variables s.shown.items g.shown.named v on).1 in absurd (omega arith))))
]

pub least_told : (s : Search) → IsGround s → (level : ℕ) →
    IsLeastFrom s.base (marked s.is_shown.items) (pictured_trail s) (search_formula s) level → IsLeastEnough s level
least_told s g level least m =
    ap (λ b. nat_le s.base m && b) (sym (enough_same (marked s.is_shown.items) (is_among s.shown.items) (table_same s g) m (pictured_trail s) (search_formula s)))
    ∙ least m

-- ---- what a least level gives

module _ (s : Search) (level : ℕ) (least : IsLeastEnough s level) where
  abbrev shown : ℕ → Bool
  shown = is_among s.shown.items

  here : (nat_le s.base level && is_enough shown level (pictured_trail s) (search_formula s)) ≡ true
  here = least level ∙ le-leb level level (omega arith)

  pub least_based : s.base ≤ level
  least_based = leb-true s.base level (and_parts (nat_le s.base level) (is_enough shown level (pictured_trail s) (search_formula s)) here).0

  both : (keeps_flips shown level (pictured_trail s) ≡ true) × (list_all (is_met shown level (pictured_trail s)) (search_formula s) ≡ true)
  both = and_parts (keeps_flips shown level (pictured_trail s)) (list_all (is_met shown level (pictured_trail s)) (search_formula s))
      (and_parts (nat_le s.base level) (is_enough shown level (pictured_trail s) (search_formula s)) here).1

  pub least_keeps : keeps_flips shown level (pictured_trail s) ≡ true
  least_keeps = both.0

  pub least_met : list_all (is_met shown level (pictured_trail s)) (search_formula s) ≡ true
  least_met = both.1

  pub least_reached : s.base < level → reaches shown level (pictured_trail s) ≡ true
  least_reached above = least_reaches_above shown (pictured_trail s) (search_formula s) s.base level above least

  -- it is one of the trail's
  pub least_within : IsSearching s → level ≤ s.trail.level
  least_within h =
      let current = h.current in
      let deep = h.working.running.region.based in
      elim (cases_le level s.trail.level) [
        | inl low ↦ low
        | inr above ↦ absurd (none_both (λ i. picture.seen shown i && nat_eq i.level level) (picture.upto s.trail.level)
            (λ i on low. let same = eqb-true i.level level (and_parts (picture.seen shown i) (nat_eq i.level level) on).1 in
            let le = leb-true i.level s.trail.level low in absurd (omega arith)) (pictured_trail s) (least_reached (omega arith))
            (levels_within (search_formula s) shown s.trail.level (pictured_trail s) h.working.running.steady (omega arith)))
      ]

-- ---- no clause of the formula is false

pub none_false_in : (items : List Item) (n : ℕ) (clauses : List (List ℤ)) → ((id : ℕ) → id < length clauses → is_false_clause items (get_or clauses id []) ≡ false) →
    list_any (is_false_clause items) (take n clauses) ≡ false
none_false_in items zero clauses h = refl
none_false_in items (suc n) [] h = refl
none_false_in items (suc n) (c ∷ clauses) h =
    ap (λ b. b || list_any (is_false_clause items) (take n clauses)) (h 0 (omega arith))
    ∙ none_false_in items n clauses (λ id inside. h (suc id) (omega arith))
