-- What each move of a search does.
use Rattle.std.specs.Prelude.{◌≡◌, ℕ, ◌-◌, ◌<◌, Bool, true, false, not, ◌&&◌, ◌||◌, nat_le, List, [], ◌∷◌, ◌++◌, filter, find, length, slice_index_or, ℤ, neg_ℤ, nat_abs, Option, Some, None, MatchBool}
use Rattle.std.specs.List.{All, list_all, list_any}
use Rattle.sat_terms.specs.declared.subject.Subject.{Subject}
use Rattle.sat_terms.specs.Cubes.{is_among}
use Rattle.search_region.specs.Trail as picture
use Rattle.search_region.specs.Model.{is_kept, is_met, keeps_flips}
use Rattle.search_region.specs.ReadCube.{read_cube}
use Rattle.chrono_trail.specs.declared.item.Kind.TheVariants.{Flipped}
use Rattle.chrono_trail.specs.declared.item.Item.{Item}
use Rattle.chrono_trail.specs.Items.{decides, is_upto}
use Rattle.chrono_trail.specs.Clauses.{IsAtRest, is_true, is_false_clause}
use Rattle.chrono_trail.specs.Pictures.{kind_of}
use Rattle.plain_search.specs.declared.search.Search.{Search}
use Rattle.plain_search.specs.declared.propagate.Propagated.{Propagated}
use Rattle.plain_search.specs.declared.propagate.Propagated.TheVariants.{Conflict, Moved, Quiet}
use Rattle.plain_search.specs.Walks.{AreSetUpto}
use Rattle.plain_search.specs.Searching.{listed_trail, work_left, IsListing, ListsOn}

-- Some clause is false.
pub record HasFalseClause (clauses : List (List ℤ)) (items : List Item) : Type 0 where
  pub place : ℕ
  pub inside : place < length clauses
  pub wrong : is_false_clause items (slice_index_or clauses place []) ≡ true

-- What a round of propagation came to: a false clause; some steps; or no clause that is false or
-- unit.
abbrev pub RoundCameTo : Subject → Search → Search → Propagated → Type 0
RoundCameTo s old new Conflict = HasFalseClause s.formula.clauses new.trail.items
RoundCameTo s old new Moved = work_left s new < work_left s old
RoundCameTo s old new Quiet = All (IsAtRest new.trail.items) s.formula.clauses

-- Each variable is set, and the trail is as before.
pub record HasAllSet (s : Subject) (old new : Search) : Type 0 where
  pub searching : IsListing s new
  pub trail : new.trail ≡ old.trail
  pub full : AreSetUpto new.trail.items s.formula.variables

-- A variable was decided, or each is set.
abbrev pub DecidesOrEnds : Subject → Search → Search → Bool → Type 0
DecidesOrEnds s old new more = MatchBool more (ListsOn s old new) (HasAllSet s old new)

-- The decision of this level was flipped: the levels from it on were taken back, and its negation
-- stands on the level below. The walk for a free variable starts again.
pub record Flips (old new : Search) (level : ℕ) : Type 0 where
  pub above : 0 < level
  pub decision : Item
  pub decided : find (decides level) old.trail.items ≡ Some decision
  pub items : new.trail.items ≡ filter (is_upto (level - 1)) old.trail.items
      ++ record { lit = neg_ℤ decision.lit; level = level - 1; kind = Flipped } ∷ []
  pub current : new.trail.level ≡ level - 1
  pub variables : new.trail.variables ≡ old.trail.variables
  pub pairs : new.pairs ≡ old.pairs
  pub found : new.found ≡ old.found
  pub shown_again : new.reached.shown ≡ 0
  pub again : new.reached.variable ≡ 0

-- A decision was flipped; at level 0 there was none.
abbrev pub FlipsOrEnds : Search → Search → ℕ → Bool → Type 0
FlipsOrEnds old new level more =
    MatchBool more (Flips old new level) ((level ≡ 0) × (new.found ≡ old.found))

-- Each clause has a true literal.
abbrev pub IsModel : Subject → Search → Type 0
IsModel s search = list_all (list_any (is_true search.trail.items)) s.formula.clauses ≡ true

-- There is a level, and it is at most b.
abbrev pub level_within : ℕ → Option ℕ → Bool
level_within b None = false
level_within b (Some level) = nat_le level b

-- The item is that of a shown literal that was flipped.
abbrev pub is_shown_flip : Subject → Item → Bool
is_shown_flip s i =
    picture.is_flipped (kind_of s.formula.clauses i.kind) && is_among s.shown (nat_abs i.lit)

-- Each shown flipped item is of level at most b.
abbrev pub flips_within : Subject → Search → ℕ → Bool
flips_within s search b = keeps_flips (is_among s.shown) b (listed_trail s search)

-- The item is hidden or of level at most b.
abbrev pub needs_within : Subject → ℕ → Item → Bool
needs_within s b i = not (is_among s.shown (nat_abs i.lit)) || nat_le i.level b

-- The literal is true, and hidden or of level at most b.
abbrev pub counts_within : Subject → Search → ℕ → ℤ → Bool
counts_within s search b = is_kept (is_among s.shown) b (listed_trail s search)

-- Some literal of the clause is so.
abbrev pub counts_any : Subject → Search → ℕ → List ℤ → Bool
counts_any s search b c = list_any (counts_within s search b) c

-- The least level of a model: that of no shown flipped item is above it, and each clause is met by
-- the hidden items and the shown ones up to it.
abbrev pub IsLeastLevel : Subject → Search → ℕ → Type 0
IsLeastLevel s search level = (b : ℕ) → (flips_within s search b
    && list_all (is_met (is_among s.shown) b (listed_trail s search)) s.formula.clauses)
    ≡ nat_le level b

-- The shown literals up to this level.
abbrev pub cube_within : Subject → Search → ℕ → List ℤ
cube_within s search level = read_cube (picture.upto level) (listed_trail s search) s.shown

-- The cube of the least level was found.
pub record FindsLeast (s : Subject) (old new : Search) (level : ℕ) : Type 0 where
  pub least : IsLeastLevel s old level
  pub found : new.found.items ≡ old.found.items ++ cube_within s old level ∷ []
  pub trail : new.trail ≡ old.trail
  pub pairs : new.pairs ≡ old.pairs
