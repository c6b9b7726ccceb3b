-- What contracts see of a propagator, and what it has done under a trail. Who stands above a
-- propagator knows these two notions by the laws of propagation alone, and unfolds neither.
use Rattle.std.specs.Prelude.{◌≡◌, ℕ, ◌+◌, ◌*◌, ◌<◌, ◌≤◌, Bool, true, false, List, [], ◌++◌, length, filter, take, slice_index_or, ℤ}
use Rattle.std.specs.List.{list_any}
use Rattle.chrono_trail.specs.declared.item.Item.{Item}
use Rattle.chrono_trail.specs.Items.{is_upto}
use Rattle.chrono_trail.specs.Trails.{TrailView, seen_back}
use Rattle.chrono_trail.specs.Clauses.{is_true, is_false}
use Rattle.watch_lists.specs.Views.{ListsView, Stands, lit_of, partner}
use Rattle.watch_lists.specs.Watching.{IsWatching}

-- A propagator for the variables 1 to `variables`, which knows the first `known` clauses of its
-- arena and has them in these lists. It can take up again at most `places` clauses without memory.
pub record PropagatorView : Type 0 where
  pub variables : ℕ
  pub known : ℕ
  pub places : ℕ
  pub lists : ListsView

-- There is a list for each literal, and there are two places for each clause.
pub record HasPlaces (variables places : ℕ) (lists : ListsView) : Type 0 where
  pub count : length lists.lists ≡ 2 * (variables + 1)
  pub room : 2 * places ≤ length lists.lits

-- It knows each of these clauses, and no other, and has them in its lists.
pub record HasListed (clauses : List (List ℤ)) (propagator : PropagatorView) : Type 0 where
  pub known : propagator.known ≡ length clauses
  pub watching : IsWatching propagator.lists clauses

-- The propagator watches these clauses.
unfoldable pub Watches : List (List ℤ) → PropagatorView → Type 0
Watches clauses propagator = HasListed clauses propagator

-- The literal is false by a marked item.
abbrev pub is_seen_false : TrailView → ℤ → Bool
is_seen_false trail l = is_false (take trail.seen trail.items) l

-- Where the literal l is false by a marked item, the literal m is not; and at level 0 it is true.
pub record IsEasedBy (trail : TrailView) (l m : ℤ) : Type 0 where
  pub not_both : is_seen_false trail l ≡ true → is_seen_false trail m ≡ false
  pub lowest : trail.level ≡ 0 → is_seen_false trail l ≡ true → is_true trail.items m ≡ true

-- Each watched literal is eased by the other one of its clause.
abbrev pub AreEased : ListsView → TrailView → Type 0
AreEased lists trail = (n : ℕ) → Stands lists n →
    IsEasedBy trail (lit_of lists n) (lit_of lists (partner n))

-- A literal of the clause is true at level 0, which no backtracking takes back.
abbrev pub is_held : List Item → List ℤ → Bool
is_held items c = list_any (is_true (filter (is_upto 0) items)) c

-- Each clause of no or one literal, which no list has, is held.
abbrev pub AreHeld : List (List ℤ) → List Item → Type 0
AreHeld clauses items = (id : ℕ) → id < length clauses →
    length (slice_index_or clauses id []) < 2 → is_held items (slice_index_or clauses id []) ≡ true

-- It watches the clauses, and has done what the marked items ask for.
pub record HasDone (clauses : List (List ℤ)) (propagator : PropagatorView)
    (trail : TrailView) : Type 0 where
  pub watches : HasListed clauses propagator
  pub marked : trail.seen ≤ length trail.items
  pub eased : AreEased propagator.lists trail
  pub held : 0 < trail.seen → AreHeld clauses trail.items

-- The propagator is settled with the trail.
unfoldable pub IsSettled : List (List ℤ) → PropagatorView → TrailView → Type 0
IsSettled clauses propagator trail = HasDone clauses propagator trail

-- It watches the clauses over which it is settled.
abbrev pub SettledWatches : Type 0
SettledWatches = (clauses : List (List ℤ)) (propagator : PropagatorView) (trail : TrailView) →
    IsSettled clauses propagator trail → Watches clauses propagator

-- It is settled with each trail of which no item is marked.
abbrev pub UnseenIsSettled : Type 0
UnseenIsSettled = (clauses : List (List ℤ)) (propagator : PropagatorView) (trail : TrailView) →
    Watches clauses propagator → trail.seen ≡ 0 → IsSettled clauses propagator trail

-- So it is once all items are taken off.
abbrev pub ClearingStaysSettled : Type 0
ClearingStaysSettled = (clauses : List (List ℤ)) (propagator : PropagatorView)
    (old new : TrailView) →
    IsSettled clauses propagator old → new.seen ≡ 0 → IsSettled clauses propagator new

-- Items that are appended, with or without a new level, leave it settled.
abbrev pub AppendingStaysSettled : Type 0
AppendingStaysSettled = (clauses : List (List ℤ)) (propagator : PropagatorView)
    (old new : TrailView) (more : List Item) →
    IsSettled clauses propagator old → new.variables ≡ old.variables →
    new.items ≡ old.items ++ more → old.level ≤ new.level → new.seen ≡ old.seen →
    IsSettled clauses propagator new

-- So do levels that are taken back.
abbrev pub BacktrackingStaysSettled : Type 0
BacktrackingStaysSettled = (clauses : List (List ℤ)) (propagator : PropagatorView)
    (old new : TrailView) (k : ℕ) →
    IsSettled clauses propagator old → new.variables ≡ old.variables →
    new.items ≡ filter (is_upto k) old.items → new.level ≡ k → new.seen ≡ seen_back k old →
    IsSettled clauses propagator new
