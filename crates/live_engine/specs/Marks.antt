-- Literals that are marked at variables, as a walk over a trail leaves them.
use Rattle.std.specs.Prelude.{◌≡◌, ℕ, ◌≤◌, Bool, true, false, cond, List, slice_index_or, ℤ, Option, Some, None}
use Rattle.search_region.specs.Trail as picture
use Rattle.search_region.specs.ReadCube.{picked_literal}
use Rattle.search_job.specs.Same.{is_plain}
use Rattle.chrono_trail.specs.declared.item.Kind.{Kind}
use Rattle.chrono_trail.specs.declared.item.Kind.TheVariants.{Assumed, Decided, Flipped, Turned, Implied}
use Rattle.chrono_trail.specs.declared.item.Item.{Item}

-- At each variable up to n stands the literal that the trail has of it, if no clause implied it.
abbrev pub AreMarkedBy : ℕ → List (Option ℤ) → List picture.Item → Type 0
AreMarkedBy n marks trail = (v : ℕ) → v ≤ n →
    slice_index_or marks v None ≡ picked_literal is_plain trail v

-- So it is with some trail.
pub record AreMarks (n : ℕ) (marks : List (Option ℤ)) : Type 0 where
  pub trail : List picture.Item
  pub told : AreMarkedBy n marks trail

abbrev pub is_propagated : Kind → Bool
is_propagated Assumed = false
is_propagated Decided = false
is_propagated Flipped = false
is_propagated (Turned id) = false
is_propagated (Implied id) = true

-- The literal of an item that no clause implied.
abbrev pub plain_literal : Item → Option ℤ
plain_literal i = cond (is_propagated i.kind) None (Some i.lit)
