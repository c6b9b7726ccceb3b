use Rattle.std.proofs.Common.{◌≡◌, ℕ, nat_le, take, List, ℤ}
use Rattle.search_region.specs.Model.{keeps_flips}
use Rattle.chrono_trail.specs.Pictures.{picture_of}
use Rattle.implicant_shrink.specs.Levels.{marked}
use Rattle.implicant_shrink.proofs.levels.greatest_flip.Given as goal

abbrev pub invariant-loop-item : goal.invariant-loop-item
invariant-loop-item l = (clauses : List (List ℤ)) (b : ℕ) →
    keeps_flips (marked l.shown) b (picture_of clauses (take l.item-index l.items)) ≡ nat_le l.level b
