use Rattle.std.proofs.Common.{arith}
use Rattle.search_region.proofs.Close.{closed_once, closed_good, in_prefix, hit_of_prefix}
use Rattle.search_region.proofs.laws.closed_is_exact.Goals as goal

pub returns : goal.returns
returns c = λ f shown p found h t. (
  closed_once f shown p found h t,
  (
    λ w. (let same = closed_good f shown p found h t w.0 in let one = hit_of_prefix t p w.1 in omega arith),
    λ some. (let g = h.good t some in let same = closed_good f shown p found h t g in (g, in_prefix t p (omega arith))),
  ),
)
