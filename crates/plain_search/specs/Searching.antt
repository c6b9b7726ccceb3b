-- What a search keeps, and what there is at the end.
use Rattle.std.specs.Prelude.{◌≡◌, ℕ, ◌<◌, Bool, List, [], map, MatchBool}
use Rattle.std.specs.List.{All}
use Rattle.sat_terms.specs.declared.subject.Subject.{Subject}
use Rattle.sat_terms.specs.Cubes.{IsCube, is_among, has_pair}
use Rattle.sat_terms.specs.Subjects.{IsSubject}
use Rattle.search_region.specs.Trail as picture
use Rattle.search_region.specs.Region.{Closed}
use Rattle.search_region.specs.Running.{Running}
use Rattle.search_region.specs.Work.{work}
use Rattle.chrono_trail.specs.Pictures.{picture_of}
use Rattle.plain_search.specs.declared.search.Search.{Search}
use Rattle.plain_search.specs.Walks.{HasReached}

-- The search's trail as the picture has it.
abbrev pub listed_trail : Subject → Search → List picture.Item
listed_trail s search = picture_of s.formula.clauses search.trail.items

-- What is left to do below the decisions of the trail. Each move leaves less.
abbrev pub work_left : Subject → Search → ℕ
work_left s search = work s.formula.variables (listed_trail s search)

-- The search of a subject runs, from nothing assigned and nothing found.
pub record IsListing (s : Subject) (search : Search) : Type 0 where
  pub subject : IsSubject s.formula.variables s.formula.clauses s.shown s.under
  pub running : Running s.formula.clauses (is_among s.shown) 0 [] (listed_trail s search)
      search.found.items
  pub current : search.trail.level ≡ picture.depth (listed_trail s search)
  pub variables : search.trail.variables ≡ s.formula.variables
  pub pairs : search.pairs.items ≡ map has_pair s.formula.clauses
  pub reached : HasReached search.trail.items s.shown search.reached
  pub cubes : All (IsCube s.shown) search.found.items

-- The search runs on, with less left to do.
pub record ListsOn (s : Subject) (old new : Search) : Type 0 where
  pub searching : IsListing s new
  pub less : work_left s new < work_left s old

-- The search is over.
pub record IsDone (s : Subject) (search : Search) : Type 0 where
  pub closed : Closed s.formula.clauses (is_among s.shown) [] search.found.items
  pub cubes : All (IsCube s.shown) search.found.items

-- A move was made, or the search is over.
abbrev pub Advances : Subject → Search → Search → Bool → Type 0
Advances s old new more = MatchBool more (ListsOn s old new) (IsDone s new)
