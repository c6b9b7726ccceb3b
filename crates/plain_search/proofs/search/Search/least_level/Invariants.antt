use Rattle.std.proofs.Common.{◌≡◌, ℕ, nat_le, ◌&&◌, take}
use Rattle.std.specs.List.{list_all}
use Rattle.sat_terms.specs.Cubes.{is_among}
use Rattle.search_region.specs.Model.{is_met}
use Rattle.plain_search.specs.Searching.{listed_trail}
use Rattle.plain_search.specs.Steps.{flips_within}
use Rattle.plain_search.proofs.search.Search.least_level.Given as goal

abbrev pub invariant-loop-place : goal.invariant-loop-place
invariant-loop-place l = (b : ℕ) → (flips_within l.subject l.self b
    && list_all (is_met (is_among l.subject.shown) b (listed_trail l.subject l.self)) (take l.place l.subject.formula.clauses))
    ≡ nat_le l.level b
