-- A right verdict is sound: an assignment in a cube is completed by the hidden literals.
use Rattle.std.proofs.Common.{◌≡◌, ℕ, suc, ◌<◌, Bool, true, false, not, cond, ◌&&◌, List, [], ◌∷◌, ◌++◌, length, get_or, ℤ, pos, negsuc, neg_ℤ, nat_abs, refl, sym, ap, subst, ◌∙◌, inl, inr, arith}
use Rattle.std.specs.Prelude.{nat_le}
use Rattle.std.specs.List.{All, list_any}
use Rattle.std.specs.Ordering.{int_eq}
use Rattle.std.proofs.lemmas.Bool.{cases_Bool, or_cases, or_from, and_parts, both_ways, not-true}
use Rattle.std.proofs.lemmas.List.Folds.{list_any-append, list_any_at, Any-from_list_any}
use Rattle.std.proofs.lemmas.List.Sums.{AllPass-from_list_all, list_all-from_AllPass}
use Rattle.sat_terms.specs.Assignments.{IsGood, assignment_of, lies_in}
use Rattle.sat_terms.specs.Literals.{IsLiteralOf, lit_true}
use Rattle.sat_terms.specs.Truth.{sat, sat_clause, holds}
use Rattle.sat_terms.specs.Subjects.{IsFormula, IsShown}
use Rattle.sat_terms.specs.Cubes.{is_among, rises_above, has_literal, has_pair}
use Rattle.sat_terms.proofs.CubeLemmas.{All-literal, nat_abs-neg, neg-not_same, int_eq-true, int_eq-other, int_eq-apart, rises_above-head, rises_above-tail, has_literal-below}
use Rattle.sat_terms.proofs.Disjoint.{lit_true-neg, holds-has, holds-agree}
use Rattle.search_region.proofs.Right.{is_good_from_good}
use Rattle.cube_check.specs.declared.met.Met.{Met}
use Rattle.cube_check.specs.declared.verdict.Verdict.TheVariants.{Right}
use Rattle.cube_check.specs.Verdicts.{IsMet, IsVerdict, meets, meets_all, met_at}
use Rattle.cube_check.specs.Laws.{AreSound}

-- rising literals do not have a literal and its negation
above : (n : ℕ) (c : List ℤ) (l : ℤ) → rises_above n c ≡ true → has_literal c l ≡ true → n < nat_abs l
above n [] l r has = absurd (both_ways false refl has)
above n (m ∷ c) l r has =
    let first : n < nat_abs m = rises_above-head n m c r in
    elim (or_cases (int_eq l m) (has_literal c l) has) [
      | inl same ↦ subst (λ x. n < nat_abs x) (sym (int_eq-true l m same)) first
      | inr rest ↦ (let later : nat_abs m < nat_abs l = above (nat_abs m) c l (rises_above-tail n m c r) rest in omega arith)
    ]

not_both : (n : ℕ) (c : List ℤ) (l : ℤ) → rises_above n c ≡ true → has_literal c l ≡ true → has_literal c (neg_ℤ l) ≡ false
not_both n [] l r has = absurd (both_ways false refl has)
not_both n (m ∷ c) l r has =
    let first : n < nat_abs m = rises_above-head n m c r in
    let tail = rises_above-tail n m c r in
    let size : nat_abs (neg_ℤ l) ≡ nat_abs l = nat_abs-neg l in
    elim (or_cases (int_eq l m) (has_literal c l) has) [
      | inl same ↦
          let e : l ≡ m = int_eq-true l m same in
          let variable : nat_abs l ≡ nat_abs m = ap nat_abs e in
          or_from _ _ (int_eq-other (neg_ℤ l) m (λ x. neg-not_same l (omega arith) (x ∙ sym e))) (has_literal-below (nat_abs m) c (neg_ℤ l) tail (omega arith))
      | inr rest ↦
          let later : nat_abs m < nat_abs l = above (nat_abs m) c l tail rest in
          or_from _ _ (int_eq-apart (neg_ℤ l) m (λ x. omega arith)) (not_both (nat_abs m) c l tail rest)
    ]

-- one true literal makes a clause true
true_by : (t : ℕ → Bool) (c : List ℤ) (l : ℤ) → has_literal c l ≡ true → lit_true t l ≡ true → sat_clause t c ≡ true
true_by t c l has holds_l =
    let found = Any-from_list_any (int_eq l) c has in
    let same : l ≡ found.1 = int_eq-true l found.1 found.4 in
    list_any_at (lit_true t) c found.0 found.1 found.2 (ap (lit_true t) (found.3 ∙ sym same) ∙ holds_l)

-- and so does a pair
true_by_pair : (n : ℕ) (t : ℕ → Bool) (c : List ℤ) → All (IsLiteralOf n) c → has_pair c ≡ true → sat_clause t c ≡ true
true_by_pair n t c named pair =
    let found = Any-from_list_any (λ l. has_literal c (neg_ℤ l)) c pair in
    let l = found.1 in
    let is : IsLiteralOf n l = subst (IsLiteralOf n) found.3 (named found.0 l found.2) in
    elim (cases_Bool (lit_true t l)) [
      | inl holds_l ↦ list_any_at (lit_true t) c found.0 l found.2 (ap (lit_true t) found.3 ∙ holds_l)
      | inr fails ↦ true_by t c (neg_ℤ l) found.4 (lit_true-neg t l is.0 ∙ ap not fails)
    ]

-- the assignment in the cube, in which of the other variables just those are true that stand among
-- the hidden literals
abbrev completed : List ℕ → List Bool → List ℤ → ℕ → Bool
completed p a hidden v = cond (is_among p v) (assignment_of p a v) (has_literal hidden (pos v))

seen : (p : List ℕ) (a : List Bool) (hidden : List ℤ) (v : ℕ) → is_among p v ≡ true → completed p a hidden v ≡ assignment_of p a v
seen p a hidden v h = ap (λ b. cond b (assignment_of p a v) (has_literal hidden (pos v))) h

unseen : (p : List ℕ) (a : List Bool) (hidden : List ℤ) (v : ℕ) → is_among p v ≡ false → completed p a hidden v ≡ has_literal hidden (pos v)
unseen p a hidden v h = ap (λ b. cond b (assignment_of p a v) (has_literal hidden (pos v))) h

hidden_true : (p : List ℕ) (a : List Bool) (hidden : List ℤ) (l : ℤ) → rises_above 0 hidden ≡ true → is_among p (nat_abs l) ≡ false → has_literal hidden l ≡ true → lit_true (completed p a hidden) l ≡ true
hidden_true p a hidden (pos v) rising other has = unseen p a hidden v other ∙ has
hidden_true p a hidden (negsuc v) rising other has = ap not (unseen p a hidden (suc v) other ∙ not_both 0 hidden (negsuc v) rising has)

module _ (n : ℕ) (p : List ℕ) (a : List Bool) (m : Met) (known : IsMet n p m) (lies : lies_in p a m.cube ≡ true) where
  abbrev model : ℕ → Bool
  model = completed p a m.hidden

  in_cube : holds model m.cube ≡ true
  in_cube = holds-agree model (assignment_of p a) p m.cube known.cube.over (λ v h. seen p a m.hidden v h) ∙ lies

  told_true : (l : ℤ) → has_literal (m.cube ++ m.hidden) l ≡ true → lit_true model l ≡ true
  told_true l has = elim (or_cases (has_literal m.cube l) (has_literal m.hidden l) (sym (list_any-append (int_eq l) m.cube m.hidden) ∙ has)) [
    | inl shown ↦ holds-has model m.cube l in_cube shown
    | inr hides ↦
        let test : (nat_le (nat_abs l) n && not (is_among p (nat_abs l))) ≡ true =
        All-literal (λ k. (nat_le (nat_abs k) n && not (is_among p (nat_abs k))) ≡ true) m.hidden l (AllPass-from_list_all (λ k. nat_le (nat_abs k) n && not (is_among p (nat_abs k))) m.hidden known.hidden) hides in
        hidden_true p a m.hidden l known.rising (not-true _ (and_parts (nat_le (nat_abs l) n) (not (is_among p (nat_abs l))) test).1) hides
  ]

  clause_true : (c : List ℤ) → All (IsLiteralOf n) c → meets m c ≡ true → sat_clause model c ≡ true
  clause_true c named met = elim (or_cases (has_pair c) (list_any (has_literal (m.cube ++ m.hidden)) c) met) [
    | inl pair ↦ true_by_pair n model c named pair
    | inr some ↦
        let found = Any-from_list_any (has_literal (m.cube ++ m.hidden)) c some in
        list_any_at (lit_true model) c found.0 found.1 found.2 (ap (lit_true model) found.3 ∙ told_true found.1 found.4)
  ]

  all_true : (f : List (List ℤ)) → All (All (IsLiteralOf n)) f → meets_all f m ≡ true → sat f model ≡ true
  all_true f named met = list_all-from_AllPass (sat_clause model) f (λ k d inside.
      clause_true (get_or f k d) (named k d inside) (AllPass-from_list_all (meets m) f met k d inside))

  is_good : (f : List (List ℤ)) → IsFormula n f → IsShown n p → length a ≡ length p → meets_all f m ≡ true → IsGood f p a
  is_good f formula shown long met = is_good_from_good f p a shown.rising long (record {
    model = model;
    meets = all_true f formula.named met;
    same = λ v h. seen p a m.hidden v h;
  })

pub sound : (n : ℕ) (f : List (List ℤ)) (p : List ℕ) (met : List Met) → IsFormula n f → IsShown n p → All (IsMet n p) met → IsVerdict f met Right → AreSound f p met
sound n f p met formula shown told verdict = record {
  disjoint = verdict.1;
  good = λ k inside a long lies. is_good n p a (met_at met k) (told k _ inside) lies f formula shown long (AllPass-from_list_all (meets_all f) met verdict.0 k _ inside);
}
