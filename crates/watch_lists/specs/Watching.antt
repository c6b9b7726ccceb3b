-- The watches of an arena's clauses.
use Rattle.std.specs.Prelude.{◌≡◌, ◌≢◌, ℕ, ◌+◌, ◌*◌, ◌/◌, ◌<◌, ◌≤◌, true, List, [], ◌∷◌, ◌++◌, length, slice_index_or, ℤ}
use Rattle.std.specs.List.{All}
use Rattle.sat_terms.specs.CubeOrder.{key}
use Rattle.sat_terms.specs.Cubes.{has_literal}
use Rattle.clause_arena.specs.Once.{HasEachOnce}
use Rattle.watch_lists.specs.Views.{ListsView, list_of, lit_of, Stands, IsFree, IsPlaced, moved, with_places, watched, partner, head_of, follower}

-- The two places from p on watch two literals of a clause.
pub record WatchesTwo (v : ListsView) (p : ℕ) (c : List ℤ) : Type 0 where
  pub first : Stands v p
  pub second : Stands v (p + 1)
  pub has_first : has_literal c (lit_of v p) ≡ true
  pub has_second : has_literal c (lit_of v (p + 1)) ≡ true
  pub differ : lit_of v p ≢ lit_of v (p + 1)

-- A clause of two or more literals is watched; one of fewer has its places in no list.
abbrev pub IsWatched : ListsView → ℕ → List ℤ → Type 0
IsWatched v p (a ∷ b ∷ c) = WatchesTwo v p (a ∷ b ∷ c)
IsWatched v p c = IsFree v p × IsFree v (p + 1)

-- Each clause is watched, and nothing else stands in a list. There may be more places.
pub record IsWatching (v : ListsView) (clauses : List (List ℤ)) : Type 0 where
  pub placed : IsPlaced v
  pub places : 2 * length clauses ≤ length v.lits
  pub watched : (id : ℕ) → id < length clauses → IsWatched v (2 * id) (slice_index_or clauses id [])
  pub idle : (n : ℕ) → 2 * length clauses ≤ n → IsFree v n

-- The clauses are watched after a watch moved to a literal of its clause that the other one doesn't
-- watch.
abbrev pub MovesKeepWatching : ListsView → List (List ℤ) → ℕ → ℤ → Type 0
MovesKeepWatching v clauses n l = IsWatching v clauses → Stands v n → key l < length v.lists →
    has_literal (slice_index_or clauses (n / 2) []) l ≡ true → l ≢ lit_of v (partner n) →
    IsPlaced (moved v n l) → IsWatching (moved v n l) clauses

-- The next clause on its two places, which are made where there are none.
abbrev pub attached : ℕ → List ℤ → ListsView → ListsView
attached id c v = watched (with_places (2 * id + 2) v) (2 * id) c

-- One clause more is watched once it is attached.
abbrev pub AttachingKeepsWatching : ListsView → List (List ℤ) → List ℤ → Type 0
AttachingKeepsWatching v clauses c = IsWatching v clauses → HasEachOnce c →
    All (λ l. key l < length v.lists) c → IsPlaced (attached (length clauses) c v) →
    IsWatching (attached (length clauses) c v) (clauses ++ c ∷ [])

-- A walk that stands at the place n of a list has the first of the later ones as its next, and they
-- stay, in their order, where n moves to another list.
pub record WalksOn (v : ListsView) (k : ℕ) (passed : List ℕ) (n : ℕ) (later : List ℕ) : Type 0 where
  pub next : follower (list_of v k) n ≡ head_of later
  pub stay : (l : ℤ) → key l ≢ k → list_of (moved v n l) k ≡ passed ++ later

abbrev pub WalkGivesEachOnce : ListsView → ℕ → List ℕ → ℕ → List ℕ → Type 0
WalkGivesEachOnce v k passed n later = IsPlaced v → list_of v k ≡ passed ++ n ∷ later →
    WalksOn v k passed n later
