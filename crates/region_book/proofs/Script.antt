-- The script of two passes.
use Rattle.std.proofs.Common.{◌≡◌, ◌≢◌, ℕ, zero, suc, ◌<◌, ◌≤◌, Bool, true, false, ◌&&◌, ◌||◌, not, List, [], ◌∷◌, length, get_or, map, ℤ, pos, neg_ℤ, None, Some, refl, ap, subst, arith, lit<, lit≤}
use Rattle.std.specs.List.{All, list_any}
use Rattle.std.proofs.lemmas.Bool.{both_ways, and_parts, or_from, not_from_true}
use Rattle.std.proofs.lemmas.List.Elements.{All-nil, All-cons}
use Rattle.std.proofs.lemmas.List.Kept.{AllPairs-cons}
use Rattle.std.specs.List.Sorted.{IsStrictlyIncreasing}
use Rattle.sat_terms.specs.Literals.{IsLiteralOf}
use Rattle.sat_terms.specs.Assignments.{IsGood, assignment_of, lies_in}
use Rattle.sat_terms.specs.Cubes.{IsCube, apart, within}
use Rattle.prefix_jobs.specs.Outcomes.{FitsPrefix}
use Rattle.region_book.specs.Machine.{Pending}
use Rattle.region_book.specs.Partition.{IsPartition}
use Rattle.region_book.specs.Starts.{AreSavedLines, CanBegin}
use Rattle.sat_terms.specs.Subjects.{IsSubject}
use Rattle.region_book.specs.Examples.{script_formula, script_shown, first_found, left_over, second_found, first_outcome, second_outcome, script_subject, split_saved, HasScript}

-- ---- what is good

value_at : (a b : List Bool) (i : ℕ) → a ≡ b → get_or a i true ≡ get_or b i true
value_at a b i e = ap (λ x. get_or x i true) e

never_none : IsGood script_formula script_shown (false ∷ false ∷ []) → ⊥
never_none g =
    let one : g.model 1 ≡ false = value_at (map g.model script_shown) (false ∷ false ∷ []) 0 g.projects in
    let two : g.model 2 ≡ false = value_at (map g.model script_shown) (false ∷ false ∷ []) 1 g.projects in
    both_ways (g.model 1 || (g.model 2 || false)) (or_from (g.model 1) (g.model 2 || false) one (or_from (g.model 2) false two refl))
    (and_parts (g.model 1 || (g.model 2 || false)) ((not (g.model 1) || (not (g.model 2) || false)) && true) g.meets).0

never_both : IsGood script_formula script_shown (true ∷ true ∷ []) → ⊥
never_both g =
    let one : g.model 1 ≡ true = get_true (map g.model script_shown) 0 g.projects in
    let two : g.model 2 ≡ true = get_true (map g.model script_shown) 1 g.projects in
    both_ways (not (g.model 1) || (not (g.model 2) || false)) (or_from (not (g.model 1)) (not (g.model 2) || false) (not_from_true (g.model 1) one) (or_from (not (g.model 2)) false (not_from_true (g.model 2) two) refl))
    (and_parts (not (g.model 1) || (not (g.model 2) || false)) true (and_parts (g.model 1 || (g.model 2 || false)) ((not (g.model 1) || (not (g.model 2) || false)) && true) g.meets).1).0
  where
    get_true : (a : List Bool) (i : ℕ) → a ≡ true ∷ true ∷ [] → get_or a i false ≡ get_or (true ∷ true ∷ []) i false
    get_true a i e = ap (λ x. get_or x i false) e

-- ---- the outcomes fit

first_is : IsCube script_shown first_found
first_is = record { rising = refl; over = refl }

left_is : IsCube script_shown left_over
left_is = record { rising = refl; over = refl }

second_is : IsCube script_shown second_found
second_is = record { rising = refl; over = refl }

abbrev Away : List ℤ → List ℤ → Type 0
Away c d = apart c d ≡ true

abbrev Inside : List ℤ → List ℤ → Type 0
Inside q c = within c q ≡ true

pub first_fits : FitsPrefix script_formula script_shown [] first_outcome
first_fits = record {
  over = All-cons (IsCube script_shown) first_found (left_over ∷ []) first_is (All-cons (IsCube script_shown) left_over [] left_is (All-nil (IsCube script_shown)));
  disjoint = AllPairs-cons Away first_found (left_over ∷ []) (All-cons (Away first_found) left_over [] refl (All-nil (Away first_found)))
      (AllPairs-cons Away left_over [] (All-nil (Away left_over)) (λ i j d below inside. absurd (omega arith)));
  inside = All-cons (Inside []) first_found (left_over ∷ []) refl (All-cons (Inside []) left_over [] refl (All-nil (Inside [])));
  good = good;
  cover = cover;
  weighs = omega arith;
  few = omega arith;
}
  where
    good : (a : List Bool) → length a ≡ 2 → list_any (lies_in script_shown a) (first_found ∷ []) ≡ true → IsGood script_formula script_shown a
    good [] long lies = absurd (omega arith)
    good (x ∷ []) long lies = absurd (omega arith)
    good (true ∷ y ∷ []) long lies = absurd (both_ways false refl lies)
    good (false ∷ false ∷ []) long lies = absurd (both_ways false refl lies)
    good (false ∷ true ∷ []) long lies = record { model = assignment_of script_shown (false ∷ true ∷ []); meets = refl; projects = refl }
    good (x ∷ y ∷ z ∷ a) long lies = absurd (omega arith)

    cover : (a : List Bool) → length a ≡ 2 → lies_in script_shown a [] ≡ true → IsGood script_formula script_shown a → list_any (lies_in script_shown a) (first_found ∷ left_over ∷ []) ≡ true
    cover [] long lies g = absurd (omega arith)
    cover (x ∷ []) long lies g = absurd (omega arith)
    cover (true ∷ true ∷ []) long lies g = refl
    cover (true ∷ false ∷ []) long lies g = refl
    cover (false ∷ true ∷ []) long lies g = refl
    cover (false ∷ false ∷ []) long lies g = absurd (never_none g)
    cover (x ∷ y ∷ z ∷ a) long lies g = absurd (omega arith)

pub second_fits : FitsPrefix script_formula script_shown left_over second_outcome
second_fits = record {
  over = All-cons (IsCube script_shown) second_found [] second_is (All-nil (IsCube script_shown));
  disjoint = AllPairs-cons Away second_found [] (All-nil (Away second_found)) (λ i j d below inside. absurd (omega arith));
  inside = All-cons (Inside left_over) second_found [] refl (All-nil (Inside left_over));
  good = good;
  cover = cover;
  weighs = omega arith;
  few = omega arith;
}
  where
    good : (a : List Bool) → length a ≡ 2 → list_any (lies_in script_shown a) (second_found ∷ []) ≡ true → IsGood script_formula script_shown a
    good [] long lies = absurd (omega arith)
    good (x ∷ []) long lies = absurd (omega arith)
    good (false ∷ y ∷ []) long lies = absurd (both_ways false refl lies)
    good (true ∷ true ∷ []) long lies = absurd (both_ways false refl lies)
    good (true ∷ false ∷ []) long lies = record { model = assignment_of script_shown (true ∷ false ∷ []); meets = refl; projects = refl }
    good (x ∷ y ∷ z ∷ a) long lies = absurd (omega arith)

    cover : (a : List Bool) → length a ≡ 2 → lies_in script_shown a left_over ≡ true → IsGood script_formula script_shown a → list_any (lies_in script_shown a) (second_found ∷ []) ≡ true
    cover [] long lies g = absurd (omega arith)
    cover (x ∷ []) long lies g = absurd (omega arith)
    cover (true ∷ true ∷ []) long lies g = absurd (never_both g)
    cover (true ∷ false ∷ []) long lies g = refl
    cover (false ∷ y ∷ []) long lies g = absurd (both_ways false refl lies)
    cover (x ∷ y ∷ z ∷ a) long lies g = absurd (omega arith)

-- ---- the script

some_is_not_none : (q : Pending) → Some q ≢ None
some_is_not_none q e = (let bad : Some q ≡ None = e in cc)

begins : IsPartition script_formula script_shown [] [] ([] ∷ [])
begins = record {
  over = All-cons (IsCube script_shown) [] [] (record { rising = refl; over = refl }) (All-nil (IsCube script_shown));
  disjoint = λ i j d below inside. absurd (omega arith);
  sound = λ a long none. absurd (both_ways false refl none);
  cover = λ a long w. refl;
  inside = All-cons (Inside []) [] [] refl (All-nil (Inside []));
}

script_is_a_subject : IsSubject 2 script_formula script_shown []
script_is_a_subject = record {
  formula = record { variables = lit≤ tt; clauses = lit< tt; literals = lit< tt; named = named };
  shown = record { rising = rising; named = shown_named };
  under = record { rising = refl; over = refl };
}
  where
    clause_named : (l m : ℤ) → IsLiteralOf 2 l → IsLiteralOf 2 m → All (IsLiteralOf 2) (l ∷ m ∷ [])
    clause_named l m one two = All-cons (IsLiteralOf 2) l (m ∷ []) one (All-cons (IsLiteralOf 2) m [] two (All-nil (IsLiteralOf 2)))

    named : All (All (IsLiteralOf 2)) script_formula
    named =
        All-cons (All (IsLiteralOf 2)) (pos 1 ∷ pos 2 ∷ []) ((neg_ℤ (pos 1) ∷ neg_ℤ (pos 2) ∷ []) ∷ []) (clause_named (pos 1) (pos 2) (lit< tt, lit≤ tt) (lit< tt, lit≤ tt))
        (All-cons (All (IsLiteralOf 2)) (neg_ℤ (pos 1) ∷ neg_ℤ (pos 2) ∷ []) [] (clause_named (neg_ℤ (pos 1)) (neg_ℤ (pos 2)) (lit< tt, lit≤ tt) (lit< tt, lit≤ tt)) (All-nil (All (IsLiteralOf 2))))

    rising : IsStrictlyIncreasing script_shown
    rising zero inside = lit< tt
    rising (suc k) inside = absurd (omega arith)

    shown_named : All (λ v. (0 < v) × (v ≤ 2)) script_shown
    shown_named = All-cons (λ v. (0 < v) × (v ≤ 2)) 1 (2 ∷ []) (lit< tt, lit≤ tt) (All-cons (λ v. (0 < v) × (v ≤ 2)) 2 [] (lit< tt, lit≤ tt) (All-nil (λ v. (0 < v) × (v ≤ 2))))

begins_so : CanBegin script_subject None 2
begins_so = record {
  subject_is = script_is_a_subject;
  saved_is = λ lines e. (let bad : None ≡ Some lines = e in absurd cc);
  some = lit≤ tt;
  most = lit≤ tt;
}

begins_saved : CanBegin script_subject (Some split_saved) 1
begins_saved = record {
  subject_is = script_is_a_subject;
  saved_is = λ lines e. (let given : Some split_saved ≡ Some lines = e in let same : split_saved ≡ lines = cc in subst (AreSavedLines script_shown) same split_lines);
  some = lit≤ tt;
  most = lit≤ tt;
}
  where
    split_lines : AreSavedLines script_shown split_saved
    split_lines = record {
      cubes = All-nil (IsCube script_shown);
      pending =
          All-cons (IsCube script_shown) (pos 1 ∷ pos 2 ∷ []) ((pos 1 ∷ neg_ℤ (pos 2) ∷ []) ∷ (neg_ℤ (pos 1) ∷ []) ∷ []) (record { rising = refl; over = refl })
          (All-cons (IsCube script_shown) (pos 1 ∷ neg_ℤ (pos 2) ∷ []) ((neg_ℤ (pos 1) ∷ []) ∷ []) (record { rising = refl; over = refl })
          (All-cons (IsCube script_shown) (neg_ℤ (pos 1) ∷ []) [] (record { rising = refl; over = refl }) (All-nil (IsCube script_shown))));
      few = lit< tt;
    }

pub script_is_legal : HasScript
script_is_legal = record {
  begins = begins;
  legal = (some_is_not_none _, (first_fits, (some_is_not_none _, (some_is_not_none _, (some_is_not_none _, (second_fits, tt))))));
  taken = refl;
  reported = refl;
  ended = refl;
  taken_twice = λ some. some refl;
  begins_so = begins_so;
  begins_saved = begins_saved;
  not_its_own = λ some. some refl;
}
