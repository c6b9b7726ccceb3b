-- The given literals as the one prefix are a partition.
use Rattle.std.proofs.Common.{◌≡◌, ℕ, true, false, ℤ, List, [], ◌∷◌, refl, arith}
use Rattle.std.specs.List.{list_any}
use Rattle.std.proofs.lemmas.Bool.{both_ways, or_left}
use Rattle.std.proofs.lemmas.List.Elements.{All-cons, All-nil}
use Rattle.sat_terms.specs.Assignments.{lies_in}
use Rattle.sat_terms.specs.Cubes.{IsCube, within}
use Rattle.sat_terms.proofs.Inside.{within-from_inside}
use Rattle.search_job.proofs.Cubes.{named_above}
use Rattle.region_book.specs.Partition.{IsPartition}

pub start_is_partition : (f : List (List ℤ)) (p : List ℕ) (u : List ℤ) → IsCube p u → IsPartition f p u [] (u ∷ [])
start_is_partition f p u cube = record {
  over = All-cons (IsCube p) u [] cube (All-nil (IsCube p));
  disjoint = λ i j d below inside. absurd (omega arith);
  sound = λ a long none. absurd (both_ways false refl none);
  cover = λ a long wanted. or_left (lies_in p a u) (list_any (lies_in p a) []) wanted.given;
  inside = All-cons (λ q. within q u ≡ true) u [] (within-from_inside u u cube.rising (named_above 0 u cube.rising) (λ t held. held)) (All-nil (λ q. within q u ≡ true));
}
