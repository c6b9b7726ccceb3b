-- Where nothing is pending, what is published is the right list.
use Rattle.std.proofs.Common.{◌≡◌, ℕ, ◌<◌, Bool, true, ℤ, List, [], ◌++◌, map, length, get_or, None, refl, sym, ap, ◌∙◌, append-nil, arith}
use Rattle.std.proofs.lemmas.List.{length-map}
use Rattle.std.specs.List.{list_any}
use Rattle.std.specs.List.Sorted.{IsPermutation, IsSorted}
use Rattle.sat_terms.specs.Assignments.{assignment_of, lies_in}
use Rattle.sat_terms.specs.Cubes.{IsCube, within}
use Rattle.sat_terms.specs.CubeOrder.{cube_order}
use Rattle.sat_terms.specs.RightList.{IsRightList}
use Rattle.sat_terms.proofs.Disjoint.{lies_in-map}
use Rattle.sat_terms.proofs.Inside.{within-from_inside}
use Rattle.search_region.proofs.Counts.{one_hit, hit_any}
use Rattle.search_job.proofs.Cubes.{named_above}
use Rattle.prefix_jobs.specs.declared.outcome.Outcome.{Outcome}
use Rattle.prefix_jobs.specs.Outcomes.{FitsPrefix}
use Rattle.prefix_jobs.proofs.Whole.{nothing_open_is_right}
use Rattle.region_book.specs.Partition.{IsPartition}

-- the outcome of a search of everything
abbrev pub outcome_of_all : List (List ℤ) → Outcome
outcome_of_all published = record { cubes = published; rest = []; kept = None; leaves = 0 }

-- a cube whose assignments are all in the given literals is within these
pub inside_given : (p : List ℕ) (u : List ℤ) → IsCube p u → (c : List ℤ) → IsCube p c → ((a : List Bool) → length a ≡ length p → lies_in p a c ≡ true → lies_in p a u ≡ true) → within c u ≡ true
inside_given p u cube c shape inner =
    within-from_inside c u shape.rising (named_above 0 u cube.rising)
    (λ t held. sym (lies_in-map t p u cube.over) ∙ inner (map t p) (length-map p t) (lies_in-map t p c shape.over ∙ held))

module _ (f : List (List ℤ)) (p : List ℕ) (u : List ℤ) (published : List (List ℤ)) (cube : IsCube p u) (part : IsPartition f p u published []) where
  pub all_fits : FitsPrefix f p u (outcome_of_all published)
  all_fits = record {
    over = part.over;
    disjoint = part.disjoint;
    inside = λ k d place. inside_given p u cube (get_or (published ++ []) k d) (part.over k d place) (λ a long lies. (part.sound a long (some_published a (published ++ []) k d place lies refl)).given);
    good = λ a long some. (part.sound a long some).good;
    cover = λ a long lies good. part.cover a long (record { given = lies; good = good });
    weighs = omega arith;
    few = omega arith;
  }
    where
      some_published : (a : List Bool) (cs : List (List ℤ)) (k : ℕ) (d : List ℤ) → k < length cs → lies_in p a (get_or cs k d) ≡ true → cs ≡ published ++ [] → list_any (lies_in p a) published ≡ true
      some_published a cs k d place lies same =
          ap (list_any (lies_in p a)) (sym (append-nil published) ∙ sym same) ∙ hit_any (assignment_of p a) cs (one_hit (assignment_of p a) cs k d place lies)

pub nothing_pending_is_right : (f : List (List ℤ)) (p : List ℕ) (u : List ℤ) (published cubes : List (List ℤ)) → IsCube p u → IsPartition f p u published [] → IsPermutation published cubes → IsSorted cube_order cubes → IsRightList f p u cubes
nothing_pending_is_right f p u published cubes cube part perm sorted =
    nothing_open_is_right f p u (outcome_of_all published) cubes cube (all_fits f p u published cube part) refl perm sorted
