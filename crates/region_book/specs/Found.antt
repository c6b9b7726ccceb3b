-- Where the published cubes stand: each is named by its place, and kept there alone.
use Rattle.std.specs.Prelude.{ℕ, zero, suc, ◌≤◌, List, [], map, slice_index_or, ℤ, Option, Some, None}
use Rattle.std.specs.List.{All}
use Rattle.checkpoint.specs.declared.saved.Saved.{Saved}
use Rattle.cube_merge.specs.declared.name.CubeName.{CubeName}
use Rattle.region_book.specs.declared.event.Event.{Event}
use Rattle.region_book.specs.declared.event.Event.TheVariants.{Take, Report, Release}

-- The cubes that were saved, and those that an event brought.
abbrev pub saved_cubes : Option Saved → List (List ℤ)
saved_cubes None = []
saved_cubes (Some saved) = saved.cubes

abbrev pub brought_by : Event → List (List ℤ)
brought_by (Take k n) = []
brought_by (Report k n o) = o.cubes
brought_by (Release k n) = []

-- The cubes of a place: the saved ones have the place 0, and those of an event its own.
abbrev pub cubes_at : Option Saved → List Event → ℕ → List (List ℤ)
cubes_at saved events zero = saved_cubes saved
cubes_at saved events (suc j) = slice_index_or (map brought_by events) j []

-- The cube of a name; the empty one where none has it.
abbrev pub cube_at : Option Saved → List Event → CubeName → List ℤ
cube_at saved events a = slice_index_or (cubes_at saved events a.place) a.index []

abbrev pub named_cubes : Option Saved → List Event → List CubeName → List (List ℤ)
named_cubes saved events names = map (cube_at saved events) names

-- Each is of the saved cubes, or of one of so many events.
abbrev pub AreEntered : ℕ → List CubeName → Type 0
AreEntered m names = All (λ a. a.place ≤ m) names
