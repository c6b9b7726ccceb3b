-- What a job found and left open fits its prefix, and the leaves are paid for.
use Rattle.std.proofs.Common.{ℕ, ◌+◌, ◌≤◌, Bool, ℤ, List, [], arith}
use Rattle.search_region.specs.Trail.{Item}
use Rattle.search_region.specs.Region.{front, untried, left_open, Closed}
use Rattle.search_region.proofs.Fits.{running_fits, closed_fits}
use Rattle.search_job.specs.Weights.{weight, FitsWeighed}
use Rattle.search_job.specs.Working.{Working}
use Rattle.search_job.proofs.Weights.{weighs_all, weight_some, weights_push}

pub working_fits : (f : List (List ℤ)) (shown : ℕ → Bool) (n base : ℕ) (count : ℕ → ℕ) (q : List ℤ) (trail : List Item) (found : List (List ℤ)) (leaves : ℕ) → Working f shown n base count q trail found leaves → FitsWeighed f shown n q found (left_open shown base trail) leaves
working_fits f shown n base count q trail found leaves w = record {
  fits = running_fits f shown base q trail found w.running;
  weighs = (let all = weighs_all shown n base q count (weight n (front shown trail)) leaves trail w.weights in
      let both = weights_push n (untried shown base trail) (front shown trail) in omega arith);
}

-- once it is closed, one leaf more is paid for
pub closed_fits_weighed : (f : List (List ℤ)) (shown : ℕ → Bool) (n base : ℕ) (count : ℕ → ℕ) (q : List ℤ) (trail : List Item) (found more : List (List ℤ)) (leaves then : ℕ) → Working f shown n base count q trail found leaves → Closed f shown q more → then ≤ leaves + 1 → FitsWeighed f shown n q more [] then
closed_fits_weighed f shown n base count q trail found more leaves then w closed most = record {
  fits = closed_fits f shown q more closed;
  weighs = (let all = weighs_all shown n base q count (weight n (front shown trail)) leaves trail w.weights in
      let some = weight_some n (front shown trail) in omega arith);
}
