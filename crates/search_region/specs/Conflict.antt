-- What a conflict is.
use Rattle.std.specs.Prelude.{ℕ, Bool, ℤ, List}
use Rattle.std.specs.List.{list_all}
use Rattle.search_region.specs.Trail.{Item, false_by}

-- Each literal of the clause is false by an item of level at most k.
abbrev pub is_false_upto : ℕ → List Item → List ℤ → Bool
is_false_upto k trail c = list_all (false_by k trail) c
