-- The outcome of a small job, worked by hand.
use Rattle.std.proofs.Common.{◌≡◌, Bool, true, false, ◌||◌, nat_eq, ℤ, List, [], ◌∷◌, length, Some, refl, arith}
use Rattle.std.specs.List.{list_any}
use Rattle.std.proofs.lemmas.Bool.{both_ways}
use Rattle.std.proofs.lemmas.List.Elements.{All-nil, All-cons}
use Rattle.std.proofs.lemmas.List.Kept.{AllPairs-cons}
use Rattle.sat_terms.specs.Assignments.{IsGood, assignment_of, lies_in}
use Rattle.sat_terms.specs.Cubes.{IsCube, apart, within}
use Rattle.prefix_jobs.specs.Examples.{example_formula, example_shown, example_found, example_given, example_kept, ExampleFits, HasExamples}

-- each assignment of the shown variables is good: with 3 and 4 true both clauses hold
good : (a : List Bool) → length a ≡ 2 → IsGood example_formula example_shown a
good [] long = absurd (omega arith)
good (x ∷ []) long = absurd (omega arith)
good (true ∷ true ∷ []) long = record { model = λ v. nat_eq v 3 || nat_eq v 4 || assignment_of example_shown (true ∷ true ∷ []) v; meets = refl; projects = refl }
good (true ∷ false ∷ []) long = record { model = λ v. nat_eq v 3 || nat_eq v 4 || assignment_of example_shown (true ∷ false ∷ []) v; meets = refl; projects = refl }
good (false ∷ true ∷ []) long = record { model = λ v. nat_eq v 3 || nat_eq v 4 || assignment_of example_shown (false ∷ true ∷ []) v; meets = refl; projects = refl }
good (false ∷ false ∷ []) long = record { model = λ v. nat_eq v 3 || nat_eq v 4 || assignment_of example_shown (false ∷ false ∷ []) v; meets = refl; projects = refl }
good (x ∷ y ∷ z ∷ a) long = absurd (omega arith)

covered : (a : List Bool) → length a ≡ 2 → list_any (lies_in example_shown a) (example_found ∷ example_given ∷ example_kept ∷ []) ≡ true
covered [] long = absurd (omega arith)
covered (x ∷ []) long = absurd (omega arith)
covered (true ∷ true ∷ []) long = refl
covered (true ∷ false ∷ []) long = refl
covered (false ∷ true ∷ []) long = refl
covered (false ∷ false ∷ []) long = refl
covered (x ∷ y ∷ z ∷ a) long = absurd (omega arith)

is_found : IsCube example_shown example_found
is_found = record { rising = refl; over = refl }

is_given : IsCube example_shown example_given
is_given = record { rising = refl; over = refl }

is_kept : IsCube example_shown example_kept
is_kept = record { rising = refl; over = refl }

abbrev Apart : List ℤ → List ℤ → Type 0
Apart c d = apart c d ≡ true

abbrev Within : List ℤ → Type 0
Within c = within c [] ≡ true

fits : ExampleFits (example_found ∷ []) (Some example_kept) 1
fits = record {
  over = All-cons (IsCube example_shown) example_found (example_given ∷ example_kept ∷ []) is_found
      (All-cons (IsCube example_shown) example_given (example_kept ∷ []) is_given
      (All-cons (IsCube example_shown) example_kept [] is_kept (All-nil (IsCube example_shown))));
  disjoint = AllPairs-cons Apart example_found (example_given ∷ example_kept ∷ [])
      (All-cons (Apart example_found) example_given (example_kept ∷ []) refl (All-cons (Apart example_found) example_kept [] refl (All-nil (Apart example_found))))
      (AllPairs-cons Apart example_given (example_kept ∷ []) (All-cons (Apart example_given) example_kept [] refl (All-nil (Apart example_given)))
      (AllPairs-cons Apart example_kept [] (All-nil (Apart example_kept)) (λ i j d below inside. absurd (omega arith))));
  inside = All-cons Within example_found (example_given ∷ example_kept ∷ []) refl
      (All-cons Within example_given (example_kept ∷ []) refl (All-cons Within example_kept [] refl (All-nil Within)));
  good = λ a long lies. good a long;
  cover = λ a long lies is_good. covered a long;
  weighs = omega arith;
  few = omega arith;
}

pub examples : HasExamples
examples = record {
  fits = fits;
  twice = λ h. both_ways (apart example_found example_found) refl (h.disjoint 0 1 [] (omega arith) (omega arith));
  left_out = λ h. both_ways false refl (h.cover (false ∷ true ∷ []) refl refl (good (false ∷ true ∷ []) refl));
  more = λ h. (let heavy = h.weighs in omega arith);
  kept_too = λ h. both_ways (apart example_kept example_kept) refl (h.disjoint 0 3 [] (omega arith) (omega arith));
}
