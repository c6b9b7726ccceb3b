-- An outcome that leaves nothing open holds the right list of its prefix.
use Rattle.std.proofs.Common.{◌≡◌, ℕ, ◌<◌, ◌≤◌, Bool, true, ℤ, List, [], ◌++◌, length, get_or, append-nil, sym, ap, subst, ◌∙◌, arith, All, AllPairs, IsPermutation, IsSorted}
use Rattle.std.specs.List.{list_any}
use Rattle.std.proofs.lemmas.List.Sorted.{All-permutation}
use Rattle.std.proofs.lemmas.List.Folds.{Any-from_list_any}
use Rattle.std.proofs.lemmas.List.{get_or_default}
use Rattle.sat_terms.specs.Assignments.{assignment_of, lies_in}
use Rattle.sat_terms.specs.Cubes.{IsCube, rises_above, apart, within}
use Rattle.sat_terms.specs.CubeOrder.{cube_order}
use Rattle.sat_terms.specs.RightList.{IsWanted, IsRightList}
use Rattle.sat_terms.proofs.Inside.{inside-from_within}
use Rattle.search_region.specs.Cubes.{hits}
use Rattle.search_region.proofs.Counts.{any_hit, hit_any, hits_permuted, apart_from_counts, counts_from_apart}
use Rattle.search_region.proofs.Right.{rises_from_sorted}
use Rattle.prefix_jobs.specs.declared.outcome.Outcome.{Outcome}
use Rattle.prefix_jobs.specs.Outcomes.{open_parts, FitsPrefix}

module _ (f : List (List ℤ)) (p : List ℕ) (q : List ℤ) (o : Outcome) (cubes : List (List ℤ)) (cube : IsCube p q) (fits : FitsPrefix f p q o) (none : open_parts o ≡ []) (perm : IsPermutation o.cubes cubes) (sorted : IsSorted cube_order cubes) where
  alone : o.cubes ++ open_parts o ≡ o.cubes
  alone = ap (λ x. o.cubes ++ x) none ∙ append-nil o.cubes

  over_found : All (IsCube p) o.cubes
  over_found = subst (All (IsCube p)) alone fits.over

  over : All (IsCube p) cubes
  over = All-permutation (IsCube p) o.cubes cubes perm over_found

  rising : All (λ c. rises_above 0 c ≡ true) cubes
  rising k d inside = (over k d inside).rising

  apart_found : AllPairs (λ c d. apart c d ≡ true) o.cubes
  apart_found = subst (AllPairs (λ c d. apart c d ≡ true)) alone fits.disjoint

  few : (t : ℕ → Bool) → hits t cubes ≤ 1
  few t = let same = hits_permuted t o.cubes cubes perm in let one = counts_from_apart t o.cubes (λ k d inside. (over_found k d inside).rising) apart_found in omega arith

  disjoint : AllPairs (λ c d. apart c d ≡ true) cubes
  disjoint = apart_from_counts cubes rising few

  within_given : All (λ c. within c q ≡ true) o.cubes
  within_given = subst (All (λ c. within c q ≡ true)) alone fits.inside

  -- an assignment lies in one of the cubes sorted where it lies in one of those found
  same_any : (a : List Bool) (these those : List (List ℤ)) → hits (assignment_of p a) those ≡ hits (assignment_of p a) these → list_any (lies_in p a) these ≡ true → list_any (lies_in p a) those ≡ true
  same_any a these those same h =
      let some = any_hit (assignment_of p a) these h in hit_any (assignment_of p a) those (omega arith)

  given : (a : List Bool) → list_any (lies_in p a) o.cubes ≡ true → lies_in p a q ≡ true
  given a h =
      let place = Any-from_list_any (lies_in p a) o.cubes h in
      let inside : place.0 < length o.cubes = place.2 in
      let lies : lies_in p a (get_or o.cubes place.0 []) ≡ true = ap (lies_in p a) (get_or_default o.cubes place.0 [] place.1 inside ∙ place.3) ∙ place.4 in
      inside-from_within (get_or o.cubes place.0 []) q (within_given place.0 [] inside) (assignment_of p a) lies

  wanted_from_any : (a : List Bool) → length a ≡ length p → list_any (lies_in p a) cubes ≡ true → IsWanted f p q a
  wanted_from_any a long h =
      let found = same_any a cubes o.cubes (sym (hits_permuted (assignment_of p a) o.cubes cubes perm)) h in
      record { given = given a found; good = fits.good a long found }

  any_from_wanted : (a : List Bool) → length a ≡ length p → IsWanted f p q a → list_any (lies_in p a) cubes ≡ true
  any_from_wanted a long w =
      let found = ap (list_any (lies_in p a)) (sym alone) ∙ fits.cover a long w.given w.good in
      same_any a o.cubes cubes (hits_permuted (assignment_of p a) o.cubes cubes perm) found

  pub nothing_open_is_right : IsRightList f p q cubes
  nothing_open_is_right = record {
    over = over;
    rising = rises_from_sorted cubes rising disjoint sorted;
    disjoint = disjoint;
    exact = λ a long. (wanted_from_any a long, any_from_wanted a long);
  }
