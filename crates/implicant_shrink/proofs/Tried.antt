-- The literals to try first.
use Rattle.std.proofs.Common.{◌≡◌, ℕ, ◌<◌, ◌≤◌, Bool, true, false, nat_eq, nat_lt, nat_le, List, [], ◌∷◌, length, get_or, map, set, ℤ, pos, nat_abs, Option, Some, None, is_some, refl, sym, ap, subst, ◌∙◌, inl, inr, arith, rules, length-set, get_or-set_same, get_or-set_other}
use Rattle.std.specs.List.{All, list_any, list_all}
use Rattle.std.specs.Ordering.{int_eq}
use Rattle.std.proofs.lemmas.Bool.{and_parts, or_cases, or_left, or_right, both_ways, cases_Bool, eqb-true, eqb-false, le-leb, leb-true, ltb-true}
use Rattle.std.specs.Option.{IsSome}
use Rattle.std.proofs.lemmas.List.{get_or-map}
use Rattle.std.proofs.lemmas.List.Folds.{list_any_at}
use Rattle.sat_terms.specs.Literals.{IsLiteralOf}
use Rattle.sat_terms.specs.Cubes.{has_literal, has_pair}
use Rattle.sat_terms.proofs.CubeLemmas.{All-literal, int_eq-true}
use Rattle.chrono_trail.specs.declared.item.Item.{Item}
use Rattle.chrono_trail.specs.Items.{item_of, is_within as is_of}
use Rattle.chrono_trail.specs.Clauses.{is_false_clause}
use Rattle.chrono_trail.proofs.Splits.{found_is, found_parts}
use Rattle.implicant_shrink.specs.declared.levels.Met.{Met}
use Rattle.implicant_shrink.specs.Levels.{is_at_most, level_by, is_kept_at, is_met_at, met_level}
use Rattle.implicant_shrink.proofs.Kept.{never_met}
use Rattle.implicant_shrink.specs.Shrinking.{IsFor, may_try}

-- a literal of the clause joins the table
pub for_set : (f : List (List ℤ)) (pairs : List Bool) (tried : List ℤ) (id : ℕ) (l : ℤ) → IsFor f (record { pairs = pairs; tried = tried }) →
    has_literal (get_or f id []) l ≡ true → IsFor f (record { pairs = pairs; tried = set tried id l })
for_set f pairs tried id l h among = record {
  pairs = h.pairs;
  count = length-set tried id l ∙ h.count;
  tells = λ j inside. elim (cases_Bool (nat_eq j id)) [
    | inl same ↦
        let e = eqb-true j id same in
        let many = h.count in
        ap (may_try (get_or f j [])) (ap (λ k. get_or (set tried id l) k (pos 0)) e ∙ get_or-set_same tried id l (pos 0) (omega arith))
        ∙ ap (λ k. may_try (get_or f k []) l) e ∙ or_right (int_eq l (pos 0)) (has_literal (get_or f id []) l) among
    | inr other ↦ ap (may_try (get_or f j [])) (get_or-set_other tried id j l (pos 0) (eqb-false j id other)) ∙ h.tells j inside
  ];
}

-- a literal to try is one of the variables, or 0
pub tried_small : (n : ℕ) (c : List ℤ) (l : ℤ) → All (IsLiteralOf n) c → may_try c l ≡ true → nat_abs l ≤ n
tried_small n c l named try = elim (or_cases (int_eq l (pos 0)) (has_literal c l) try) [
  | inl none ↦ let e : nat_abs l ≡ 0 = ap nat_abs (int_eq-true l (pos 0) none) in omega arith
  | inr among ↦ (All-literal (IsLiteralOf n) c l named among).1
]

found_zero : (items : List Item) (i : Item) → item_of items 0 ≡ Some i → 0 ≡ nat_abs i.lit
found_zero items i at = eqb-true 0 (nat_abs i.lit) (found_passes items i at)
  where
    found_passes : (xs : List Item) (d : Item) → item_of xs 0 ≡ Some d → nat_eq 0 (nat_abs d.lit) ≡ true
    found_passes xs d e = (found_parts (λ j. nat_eq 0 (nat_abs j.lit)) xs d e).passes

-- no item is of variable 0
zero_free : (n : ℕ) (items : List Item) → list_all (is_of n) items ≡ true → item_of items 0 ≡ None
zero_free n items within = by (item_of items 0) refl
  where
    by : (o : Option Item) → item_of items 0 ≡ o → o ≡ None
    by None at = refl
    by (Some i) at =
        let named = found_is (λ j. nat_eq 0 (nat_abs j.lit)) (is_of n) items i at within in
        let some = ltb-true 0 (nat_abs i.lit) (and_parts (nat_lt 0 (nat_abs i.lit)) (nat_le (nat_abs i.lit) n) named).0 in
        absurd (let none = found_zero items i at in omega arith)

-- what is kept at a level is kept at a higher one
kept_higher : (shown : ℕ → Bool) (b m : ℕ) (items : List Item) (l : ℤ) → b ≤ m → is_kept_at shown b items l ≡ true → is_kept_at shown m items l ≡ true
kept_higher shown b m items l low = by (level_by shown l (item_of items (nat_abs l)))
  where
    by : (o : Option ℕ) → is_at_most b o ≡ true → is_at_most m o ≡ true
    by None h = h
    by (Some k) h = let under = leb-true k b h in le-leb k m (omega arith)

any_of : (p : ℤ → Bool) (c : List ℤ) (l : ℤ) → has_literal c l ≡ true → p l ≡ true → list_any p c ≡ true
any_of p [] l among h = absurd (both_ways false refl among)
any_of p (m ∷ c) l among h = elim (or_cases (int_eq l m) (has_literal c l) among) [
  | inl same ↦ or_left (p m) (list_any p c) (subst (λ x. p x ≡ true) (int_eq-true l m same) h)
  | inr later ↦ or_right (p m) (list_any p c) (any_of p c l later h)
]

-- a tried literal that is kept meets its clause
pub tried_meets : (n : ℕ) (shown : ℕ → Bool) (level : ℕ) (items : List Item) (c : List ℤ) (l : ℤ) → list_all (is_of n) items ≡ true →
    may_try c l ≡ true → is_kept_at shown level items l ≡ true → (m : ℕ) → level ≤ m → is_met_at shown m items c ≡ nat_le level m
tried_meets n shown level items c l within try kept m low = elim (or_cases (int_eq l (pos 0)) (has_literal c l) try) [
  | inl none ↦
      let e = int_eq-true l (pos 0) none in
      let off : is_kept_at shown level items l ≡ false = ap (is_kept_at shown level items) e ∙ ap (λ o. is_at_most level (level_by shown (pos 0) o)) (zero_free n items within) in
      absurd (both_ways (is_kept_at shown level items l) off kept)
  | inr among ↦ any_of (is_kept_at shown m items) c l among (kept_higher shown level m items l low kept) ∙ sym (le-leb level m low)
]

-- what the table of pairs says of a clause
pub pair_told : (f : List (List ℤ)) (pairs : List Bool) (id : ℕ) (b : Bool) (c : List ℤ) → id < length f → c ≡ get_or f id [] → pairs ≡ map has_pair f →
    b ≡ get_or pairs id b → b ≡ has_pair c
pair_told f pairs id b c inside at told read =
    read ∙ ap (λ xs. get_or xs id b) told ∙ get_or-map has_pair f id [] b inside ∙ ap has_pair (sym at)

-- where no clause is false, something meets each
pub is_met_there : (n : ℕ) (shown : ℕ → Bool) (level : ℕ) (items : List Item) → ((v : ℕ) → 0 < v → v ≤ n → is_some (item_of items v) ≡ true) →
    (f : List (List ℤ)) (id : ℕ) (c : List ℤ) → id < length f → c ≡ get_or f id [] → All (IsLiteralOf n) c → list_any (is_false_clause items) f ≡ false →
    (o : Option Met) → ((b : ℕ) → level ≤ b → is_met_at shown b items c ≡ is_at_most b (met_level o)) → IsSome o
is_met_there n shown level items assigned f id c inside at named right None met =
    absurd (both_ways (list_any (is_false_clause items) f) right (list_any_at (is_false_clause items) f id [] inside
    (ap (is_false_clause items) (sym at) ∙ never_met n shown level items assigned c named met)))
is_met_there n shown level items assigned f id c inside at named right (Some m) met = search rules
