-- The laws of the search: each move keeps what is running, and what is closed is exact.
use Rattle.std.specs.Prelude.{◌≡◌, ℕ, suc, ◌<◌, ◌≤◌, ◌↔◌, Bool, true, false, ℤ, nat_abs, List, [], ◌∷◌, ◌++◌}
use Rattle.std.specs.List.{All, list_all}
use Rattle.std.specs.List.Sorted.{IsStrictlyIncreasing, IsSorted, IsPermutation}
use Rattle.sat_terms.specs.Truth.{holds}
use Rattle.sat_terms.specs.Cubes.{IsCube, is_among}
use Rattle.sat_terms.specs.CubeOrder.{cube_order}
use Rattle.sat_terms.specs.RightList.{IsRightList}
use Rattle.search_region.specs.Trail.{Item, Decided, Implied, depth, is_assigned, is_reason, seen, turn_over}
use Rattle.search_region.specs.Steady.{Steady, Follows, IsFull}
use Rattle.search_region.specs.Cubes.{hits, Good, Fits}
use Rattle.search_region.specs.Region.{left_open, Closed}
use Rattle.search_region.specs.Running.{Running}
use Rattle.search_region.specs.Conflict.{is_false_upto}
use Rattle.search_region.specs.Model.{is_met, keeps_flips, reaches, are_named, CubeOf}

-- The search of everything starts with nothing on the trail and nothing found.
abbrev pub StartRuns : Type 0
StartRuns = (f : List (List ℤ)) (shown : ℕ → Bool) → Running f shown 0 [] [] []

-- A decision keeps the search running, a hidden one once each shown variable is assigned.
abbrev pub DecideKeepsRunning : Type 0
DecideKeepsRunning =
    (f : List (List ℤ)) (shown : ℕ → Bool) (base : ℕ) (p : List ℤ) (trail : List Item)
    (found : List (List ℤ)) (i : Item) →
    Running f shown base p trail found → i.kind ≡ Decided → i.level ≡ suc (depth trail) →
    0 < nat_abs i.lit → is_assigned (nat_abs i.lit) trail ≡ false →
    (seen shown i ≡ false → IsFull shown trail) →
    Running f shown base p (i ∷ trail) found

-- A literal that a clause implies keeps it running.
abbrev pub ImplyKeepsRunning : Type 0
ImplyKeepsRunning =
    (f : List (List ℤ)) (shown : ℕ → Bool) (base : ℕ) (p : List ℤ) (trail : List Item)
    (found : List (List ℤ)) (i : Item) (c : List ℤ) →
    Running f shown base p trail found → i.kind ≡ Implied c → i.level ≤ depth trail →
    0 < nat_abs i.lit → is_assigned (nat_abs i.lit) trail ≡ false →
    Follows f c → is_reason c i trail ≡ true →
    Running f shown base p (i ∷ trail) found

-- A conflict above the base keeps it running: the decision of the conflict's level, shown or
-- hidden, is turned over.
abbrev pub ConflictKeepsRunning : Type 0
ConflictKeepsRunning =
    (f : List (List ℤ)) (shown : ℕ → Bool) (base : ℕ) (p : List ℤ) (newer : List Item)
    (d : Item) (older : List Item) (found : List (List ℤ)) (c : List ℤ) →
    Running f shown base p (newer ++ d ∷ older) found → d.kind ≡ Decided →
    base < d.level → Follows f c → is_false_upto d.level (newer ++ d ∷ older) c ≡ true →
    Running f shown base p (turn_over newer d older) found

-- A found model keeps it running: its cube needs the shown items up to the level of d, and d is
-- turned over.
abbrev pub ModelKeepsRunning : Type 0
ModelKeepsRunning =
    (f : List (List ℤ)) (shown : ℕ → Bool) (base : ℕ) (p : List ℤ) (newer : List Item)
    (d : Item) (older : List Item) (found : List (List ℤ)) (c : List ℤ) →
    Running f shown base p (newer ++ d ∷ older) found → d.kind ≡ Decided →
    base < d.level → are_named f ≡ true →
    reaches shown d.level (newer ++ d ∷ older) ≡ true →
    keeps_flips shown d.level (newer ++ d ∷ older) ≡ true →
    list_all (is_met shown d.level (newer ++ d ∷ older)) f ≡ true →
    CubeOf shown d.level (newer ++ d ∷ older) c →
    Running f shown base p (turn_over newer d older) (found ++ c ∷ [])

-- A conflict at the base closes the search.
abbrev pub ConflictCloses : Type 0
ConflictCloses =
    (f : List (List ℤ)) (shown : ℕ → Bool) (base : ℕ) (p : List ℤ) (k : ℕ)
    (c : List ℤ) (trail : List Item) (found : List (List ℤ)) →
    Running f shown base p trail found → k ≤ base → Follows f c →
    is_false_upto k trail c ≡ true → Closed f shown p found

-- A model whose cube needs no level above the base closes it.
abbrev pub ModelCloses : Type 0
ModelCloses =
    (f : List (List ℤ)) (shown : ℕ → Bool) (base : ℕ) (p : List ℤ) (c : List ℤ)
    (trail : List Item) (found : List (List ℤ)) →
    Running f shown base p trail found → are_named f ≡ true →
    keeps_flips shown base trail ≡ true → list_all (is_met shown base trail) f ≡ true →
    CubeOf shown base trail c → Closed f shown p (found ++ c ∷ [])

-- A cube that meets each clause, with the hidden literals of the trail, holds good assignments
-- alone.
abbrev pub MetCubeIsGood : Type 0
MetCubeIsGood =
    (f : List (List ℤ)) (shown : ℕ → Bool) (b : ℕ) (trail : List Item) (c : List ℤ) →
    Steady f shown trail → are_named f ≡ true → list_all (is_met shown b trail) f ≡ true →
    CubeOf shown b trail c → (t : ℕ → Bool) → holds t c ≡ true → Good f shown t

-- A closed search of a prefix found each good assignment in it in exactly one cube, and no other in
-- any.
abbrev pub ClosedIsExact : Type 0
ClosedIsExact =
    (f : List (List ℤ)) (shown : ℕ → Bool) (p : List ℤ) (found : List (List ℤ)) →
    Closed f shown p found → (t : ℕ → Bool) →
    (hits t found ≤ 1) × ((Good f shown t × (holds t p ≡ true)) ↔ (0 < hits t found))

-- What a closed search of the given literals found is the right list, once it is sorted.
abbrev pub ClosedIsRight : Type 0
ClosedIsRight =
    (f : List (List ℤ)) (p : List ℕ) (u : List ℤ) (found cubes : List (List ℤ)) →
    IsStrictlyIncreasing p → IsCube p u → Closed f (is_among p) u found →
    All (IsCube p) found → IsPermutation found cubes → IsSorted cube_order cubes →
    IsRightList f p u cubes

-- While the search runs, the cubes found, the prefixes untried and the present prefix are apart and
-- hold every good assignment of p.
abbrev pub RunningFits : Type 0
RunningFits =
    (f : List (List ℤ)) (shown : ℕ → Bool) (base : ℕ) (p : List ℤ) (trail : List Item)
    (found : List (List ℤ)) →
    Running f shown base p trail found → Fits f shown p found (left_open shown base trail)

-- Once it is closed, the cubes found do so alone.
abbrev pub ClosedFits : Type 0
ClosedFits =
    (f : List (List ℤ)) (shown : ℕ → Bool) (p : List ℤ) (found : List (List ℤ)) →
    Closed f shown p found → Fits f shown p found []
