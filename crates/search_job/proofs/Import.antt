-- A clause whose negation comes to a conflict follows from the formula.
use Rattle.std.proofs.Common.{◌≡◌, ℕ, ◌≤◌, Bool, true, false, ◌&&◌, cond, nat_lt, ℤ, neg_ℤ, nat_abs, List, [], ◌∷◌, refl, sym, ap, ◌∙◌, inl, inr, arith}
use Rattle.std.specs.List.{list_any, list_all}
use Rattle.std.specs.Ordering.{int_eq}
use Rattle.std.proofs.lemmas.Bool.{and_parts, or_cases, or_left, or_right, both_ways, cases_Bool, false_from_ne_true, not_from_false, ltb-true}
use Rattle.sat_terms.specs.Literals.{lit_true}
use Rattle.sat_terms.specs.Truth.{sat_clause, holds}
use Rattle.sat_terms.specs.Cubes.{has_literal}
use Rattle.sat_terms.proofs.CubeLemmas.{int_eq-true}
use Rattle.sat_terms.proofs.Disjoint.{lit_true-neg}
use Rattle.search_region.specs.Trail.{Item, depth, agrees}
use Rattle.search_region.specs.Steady.{Follows}
use Rattle.search_region.specs.Cubes.{hit}
use Rattle.search_region.specs.Region.{Closed, cut}
use Rattle.search_region.specs.Running.{Running}
use Rattle.search_region.specs.Conflict.{is_false_upto}
use Rattle.search_region.proofs.Agree.{agree_head, agree_tail, agree_all}
use Rattle.search_region.proofs.Heart.{heart}
use Rattle.search_region.proofs.Conflict.{conflict_closes}

-- a clause with a true literal is true
true_from_literal : (t : ℕ → Bool) (c : List ℤ) (l : ℤ) → has_literal c l ≡ true → lit_true t l ≡ true → sat_clause t c ≡ true
true_from_literal t [] l has now = absurd (both_ways false refl has)
true_from_literal t (m ∷ c) l has now =
    elim (or_cases (int_eq l m) (has_literal c l) has) [
      | inl same ↦ or_left (lit_true t m) (sat_clause t c) (ap (lit_true t) (sym (int_eq-true l m same)) ∙ now)
      | inr rest ↦ or_right (lit_true t m) (sat_clause t c) (true_from_literal t c l rest now)
    ]

-- who isn't in the negation of a clause makes it true
true_outside : (t : ℕ → Bool) (c q : List ℤ) → list_all (λ l. nat_lt 0 (nat_abs l) && has_literal c (neg_ℤ l)) q ≡ true → holds t q ≡ false → sat_clause t c ≡ true
true_outside t c [] negated out = absurd (both_ways true out refl)
true_outside t c (l ∷ q) negated out =
    let (here, rest) = and_parts (nat_lt 0 (nat_abs l) && has_literal c (neg_ℤ l)) (list_all (λ m. nat_lt 0 (nat_abs m) && has_literal c (neg_ℤ m)) q) negated in
    let (named, has) = and_parts (nat_lt 0 (nat_abs l)) (has_literal c (neg_ℤ l)) here in
    elim (cases_Bool (lit_true t l)) [
      | inr wrong ↦ true_from_literal t c (neg_ℤ l) has (lit_true-neg t l (ltb-true 0 (nat_abs l) named) ∙ not_from_false (lit_true t l) wrong)
      | inl now ↦ true_outside t c q rest (rw now at out)
    ]

-- a conflict under the assumed negations of some of the clause's literals, with every variable shown
pub import_follows : (f : List (List ℤ)) (c q : List ℤ) (trail : List Item) (k : ℕ) (d : List ℤ) → Running f (λ v. true) 0 q trail [] → list_all (λ l. nat_lt 0 (nat_abs l) && has_literal c (neg_ℤ l)) q ≡ true → k ≤ 0 → Follows f d → is_false_upto k trail d ≡ true → Follows f c
import_follows f c q trail k d r negated low follows wrong t model =
    let closed : Closed f (λ v. true) q [] = conflict_closes f (λ v. true) 0 q k d trail [] r low follows wrong in
    let none : 0 ≡ hit t q = closed.exact t model in
    elim (cases_Bool (holds t q)) [
      | inr out ↦ true_outside t c q negated out
      | inl held ↦ let one : hit t q ≡ 1 = rw held refl in absurd (omega arith)
    ]

-- the trail's literals are true in who agrees with all of it
true_on : (t : ℕ → Bool) (l : ℤ) (trail : List Item) → agrees (λ i. true) t trail ≡ true → list_any (λ i. int_eq l i.lit) trail ≡ true → lit_true t l ≡ true
true_on t l [] a on = absurd (both_ways false refl on)
true_on t l (i ∷ older) a on = elim (or_cases (int_eq l i.lit) (list_any (λ j. int_eq l j.lit) older) on) [
  | inl same ↦ ap (lit_true t) (int_eq-true l i.lit same) ∙ agree_head (λ j. true) t i older a refl
  | inr before ↦ true_on t l older (agree_tail (λ j. true) t i older a) before
]

-- so does one with a literal that the negations of others imply
pub implied_literal_follows : (f : List (List ℤ)) (c q : List ℤ) (trail : List Item) (l : ℤ) → Running f (λ v. true) 0 q trail [] → depth trail ≡ 0 → list_all (λ m. nat_lt 0 (nat_abs m) && has_literal c (neg_ℤ m)) q ≡ true → has_literal c l ≡ true → list_any (λ i. int_eq l i.lit) trail ≡ true → Follows f c
implied_literal_follows f c q trail l r flat negated has on t model =
    elim (cases_Bool (holds t q)) [
      | inr out ↦ true_outside t c q negated out
      | inl held ↦ true_from_literal t c l has (true_on t l trail
          (agree_all f (λ v. true) 0 (λ i. true) t trail r.steady (omega arith) (heart f (λ v. true) 0 t trail r.steady model (r.region.above t held) (uncut held))) on)
    ]
  where
    uncut : holds t q ≡ true → cut (λ v. true) t trail ≡ false
    uncut held = false_from_ne_true (cut (λ v. true) t trail) λ gone.
        (let none : 0 ≡ cond {A = ℕ} (holds t q && cut (λ v. true) t trail) 1 0 = r.region.exact t model in
        let one : cond {A = ℕ} (holds t q && cut (λ v. true) t trail) 1 0 ≡ 1 = rw (held, gone) refl in
        omega arith)
