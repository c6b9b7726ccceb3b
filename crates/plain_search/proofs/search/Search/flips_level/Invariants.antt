use Rattle.std.proofs.Common.{◌≡◌, ℕ, nat_le, take}
use Rattle.sat_terms.specs.Cubes.{is_among}
use Rattle.search_region.specs.Model.{keeps_flips}
use Rattle.chrono_trail.specs.Pictures.{picture_of}
use Rattle.plain_search.proofs.search.Search.flips_level.Given as goal

abbrev pub invariant-loop-item : goal.invariant-loop-item
invariant-loop-item l = (b : ℕ) →
    keeps_flips (is_among l.subject.shown) b (picture_of l.subject.formula.clauses (take l.item-index l.self.trail.items)) ≡ nat_le l.level b
