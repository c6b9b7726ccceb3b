-- From counts of each assignment to cubes that are apart and within.
use Rattle.std.proofs.Common.{not, filter, subst, append-nil, Some, None, ◌≡◌, ℕ, ◌-◌, ◌<◌, ◌≤◌, ◌^◌, Bool, true, ℤ, List, [], ◌∷◌, ◌++◌, length, get_or, map, refl, sym, ap, ◌∙◌, inl, inr, arith}
use Rattle.std.specs.List.{All, list_any}
use Rattle.std.specs.List.Sorted.{IsStrictlyIncreasing}
use Rattle.std.proofs.lemmas.Bool.{or_cases, or_left, or_right, cases_Bool}
use Rattle.std.proofs.lemmas.List.Elements.{All-head, All-tail, All-nil, All-cons, All-append, All-filter}
use Rattle.sat_terms.specs.Truth.{holds}
use Rattle.sat_terms.specs.Assignments.{assignment_of, lies_in}
use Rattle.sat_terms.specs.Cubes.{within, IsCube, is_among}
use Rattle.sat_terms.proofs.Disjoint.{lies_in-map}
use Rattle.sat_terms.proofs.Inside.{within-from_inside}
use Rattle.search_region.specs.Cubes.{hit, hits}
use Rattle.search_region.proofs.Hits.{hits-append}
use Rattle.search_region.proofs.Fits.{hit_small}
use Rattle.search_region.proofs.Counts.{any_hit, hit_any, one_hit, apart_from_counts}
use Rattle.search_region.proofs.Right.{is_good_from_good}
use Rattle.search_region.specs.Trail.{Item}
use Rattle.search_job.specs.Weights.{FitsWeighed}
use Rattle.search_job.specs.Give.{GivesCubes}
use Rattle.search_job.specs.Open.{Exposes}
use Rattle.search_job.proofs.Cubes.{named_above}
use Rattle.prefix_jobs.specs.declared.outcome.Outcome.{Outcome}
use Rattle.prefix_jobs.specs.Outcomes.{open_parts, FitsPrefix}

-- a model that is counted gives its projected assignment a cube
projected_hit : (p : List ℕ) (m : ℕ → Bool) (a : List Bool) → map m p ≡ a → (cubes : List (List ℤ)) → All (IsCube p) cubes → list_any (holds m) cubes ≡ true → list_any (lies_in p a) cubes ≡ true
projected_hit p m a e [] all h = h
projected_hit p m a e (c ∷ cubes) all h =
    elim (or_cases (holds m c) (list_any (holds m) cubes) h) [
      | inl here ↦ or_left (lies_in p a c) (list_any (lies_in p a) cubes) (ap (λ x. lies_in p x c) (sym e) ∙ lies_in-map m p c (All-head (IsCube p) c cubes all).over ∙ here)
      | inr rest ↦ or_right (lies_in p a c) (list_any (lies_in p a) cubes) (projected_hit p m a e cubes (All-tail (IsCube p) c cubes all) rest)
    ]

pub fits_from_counts : (f : List (List ℤ)) (p : List ℕ) (q : List ℤ) (o : Outcome) → IsStrictlyIncreasing p → IsCube p q → All (IsCube p) (o.cubes ++ open_parts o) → FitsWeighed f (is_among p) (length p) q o.cubes (open_parts o) o.leaves → length o.rest < 2 ^ 32 - 1 → FitsPrefix f p q o
fits_from_counts f p q o up cube over h few = record {
  over = over;
  disjoint = apart_from_counts (o.cubes ++ open_parts o) (λ k d inside. (over k d inside).rising) (λ t. let most = counted t in let small = hit_small t q in omega arith);
  inside = λ k d place. within-from_inside (get_or (o.cubes ++ open_parts o) k d) q (over k d place).rising (named_above 0 q cube.rising)
      (λ t held. let some = one_hit t (o.cubes ++ open_parts o) k d place held in let most = counted t in there t (omega arith));
  good = λ a long some. is_good_from_good f p a up long (h.fits.good (assignment_of p a) (any_hit (assignment_of p a) o.cubes some));
  cover = λ a long lies good. projected_hit p good.model a good.projects (o.cubes ++ open_parts o) over (hit_any good.model (o.cubes ++ open_parts o)
      (let covered = h.fits.cover good.model good.meets in
      let both = hits-append good.model o.cubes (open_parts o) in
      let held : hit good.model q ≡ 1 = rw (sym (lies_in-map good.model p q cube.over) ∙ ap (λ x. lies_in p x q) good.projects ∙ lies) refl in
      omega arith));
  weighs = h.weighs;
  few = few;
}
  where
    counted : (t : ℕ → Bool) → hits t (o.cubes ++ open_parts o) ≤ hit t q
    counted t = let both = hits-append t o.cubes (open_parts o) in let bound = h.fits.bound t in omega arith

    there : (t : ℕ → Bool) → 0 < hit t q → holds t q ≡ true
    there t some = elim (cases_Bool (holds t q)) [
      | inl held ↦ held
      | inr free ↦ let none : hit t q ≡ 0 = rw free refl in absurd (omega arith)
    ]

-- what a job gives away, with the prefix that it keeps, is an outcome that fits
pub give_fits_prefix : (f : List (List ℤ)) (p : List ℕ) (base : ℕ) (count : ℕ → ℕ) (q : List ℤ) (trail : List Item) (found : List (List ℤ)) (leaves : ℕ) (given kept : List ℤ) (gone : ℕ) → IsStrictlyIncreasing p → IsCube p q → All (IsCube p) found → GivesCubes f p (length p) base count q trail found leaves given kept gone →
    FitsPrefix f p q (record { cubes = filter (λ c. not (within c kept)) found; rest = given ∷ []; kept = Some kept; leaves = gone })
give_fits_prefix f p base count q trail found leaves given kept gone up cube over gives =
    fits_from_counts f p q (record { cubes = filter (λ c. not (within c kept)) found; rest = given ∷ []; kept = Some kept; leaves = gone }) up cube
    (All-append (IsCube p) (filter (λ c. not (within c kept)) found) (given ∷ kept ∷ []) (All-filter (λ c. not (within c kept)) (IsCube p) found over)
    (All-cons (IsCube p) given (kept ∷ []) gives.given_is (All-cons (IsCube p) kept [] gives.kept_is (All-nil (IsCube p)))))
    gives.fits (omega arith)

-- and so is what a job ends with
pub expose_fits_prefix : (f : List (List ℤ)) (p : List ℕ) (q : List ℤ) (found left : List (List ℤ)) (leaves : ℕ) → IsStrictlyIncreasing p → IsCube p q → All (IsCube p) found → Exposes f p (length p) q found left leaves → length left < 2 ^ 32 - 1 →
    FitsPrefix f p q (record { cubes = found; rest = left; kept = None; leaves = leaves })
expose_fits_prefix f p q found left leaves up cube over exposes few =
    fits_from_counts f p q (record { cubes = found; rest = left; kept = None; leaves = leaves }) up cube
    (subst (λ x. All (IsCube p) (found ++ x)) (sym (append-nil left)) (All-append (IsCube p) found left over exposes.over))
    (subst (λ x. FitsWeighed f (is_among p) (length p) q found x leaves) (sym (append-nil left)) exposes.fits) few
