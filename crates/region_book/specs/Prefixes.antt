-- Where the pending prefixes stand: each is named by its number, and kept there alone.
use Rattle.std.specs.Prelude.{◌≡◌, ℕ, zero, suc, ◌<◌, List, [], ◌∷◌, ◌++◌, map, length, slice_index_or, ℤ, Option, Some, None}
use Rattle.std.specs.Option.{option_to_list}
use Rattle.sat_terms.specs.declared.subject.Subject.{Subject}
use Rattle.checkpoint.specs.declared.saved.Saved.{Saved}
use Rattle.prefix_jobs.specs.declared.number.Number.{Number}
use Rattle.region_book.specs.declared.event.Event.{Event}
use Rattle.region_book.specs.declared.event.Event.TheVariants.{Take, Report, Release}

-- The prefixes with which a book begins, and those that an event leaves.
abbrev pub first_prefixes : Subject → Option Saved → List (List ℤ)
first_prefixes subject None = subject.under ∷ []
first_prefixes subject (Some saved) = saved.pending

abbrev pub left_by : Event → List (List ℤ)
left_by (Take k n) = []
left_by (Report k n o) = o.rest ++ option_to_list o.kept
left_by (Release k n) = []

-- The prefixes of a place: those of the beginning have the place 0, those of an event its own.
abbrev pub prefixes_at : Subject → Option Saved → List Event → ℕ → List (List ℤ)
prefixes_at subject saved events zero = first_prefixes subject saved
prefixes_at subject saved events (suc j) = slice_index_or (map left_by events) j []

-- The prefix of a number; the empty one where no prefix has it.
abbrev pub prefix_at : Subject → Option Saved → List Event → Number → List ℤ
prefix_at subject saved events n =
    slice_index_or (prefixes_at subject saved events n.place) n.index []

-- The numbers of the place j name what the event leaves.
abbrev pub NamesLeft : (Number → List ℤ) → ℕ → Event → Type 0
NamesLeft prefix_of j e =
    (i : ℕ) → i < length (left_by e) →
    prefix_of (record { place = j; index = i }) ≡ slice_index_or (left_by e) i []
