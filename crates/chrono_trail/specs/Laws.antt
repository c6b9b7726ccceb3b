-- The laws of trails: how decisions and levels lie, and what the picture says of clauses.
use Rattle.std.specs.Prelude.{◌≡◌, ℕ, ◌-◌, ◌<◌, ◌≤◌, true, false, ℤ, nat_abs, List, [], ◌∷◌, ◌++◌, length, filter, find, map, Some, None}
use Rattle.std.specs.List.{All, list_any, list_all, range_with_len}
use Rattle.sat_terms.specs.Literals.{IsLiteral, IsLiteralOf}
use Rattle.sat_terms.specs.Cubes.{has_pair}
use Rattle.search_region.specs.Trail.{back, is_reason}
use Rattle.chrono_trail.specs.declared.item.Item.{Item}
use Rattle.chrono_trail.specs.Items.{item_of, is_decision, decides, is_upto, depth_from, are_distinct, are_inside}
use Rattle.chrono_trail.specs.Trails.{IsTrail}
use Rattle.chrono_trail.specs.Clauses.{IsAtRest, IsReason}
use Rattle.chrono_trail.specs.Pictures.{pictured, picture_of, Splits}

-- Just one of the items is a decision of level k: none before it is one, and none after it.
pub record HasOneDecision (items : List Item) (k : ℕ) : Type 0 where
  pub before : List Item
  pub decision : Item
  pub after : List Item
  pub parts : items ≡ before ++ decision ∷ after
  pub opens : decides k decision ≡ true
  pub none_before : list_any (decides k) before ≡ false
  pub none_after : list_any (decides k) after ≡ false

-- Each level from 1 to the current one has one decision.
abbrev pub EachLevelHasOneDecision : Type 0
EachLevelHasOneDecision = (n : ℕ) (items : List Item) (level k : ℕ) → IsTrail n items level →
    0 < k → k ≤ level → HasOneDecision items k

-- The levels of the decisions, the oldest first.
abbrev pub decision_levels : List Item → List ℕ
decision_levels items = map (λ i. i.level) (filter (λ i. is_decision i.kind) items)

-- The levels of the decisions are 1, 2 and so on to the current one, in this order.
abbrev pub DecisionsRise : Type 0
DecisionsRise = (n : ℕ) (items : List Item) (level : ℕ) → IsTrail n items level →
    decision_levels items ≡ range_with_len 1 level

-- No item is above the level that is current where it stands: that of the last decision up to it,
-- or 0.
abbrev pub NoneAboveItsPlace : Type 0
NoneAboveItsPlace = (n : ℕ) (before : List Item) (i : Item) (after : List Item) (level : ℕ) →
    IsTrail n (before ++ i ∷ after) level → i.level ≤ depth_from 0 (before ++ i ∷ [])

-- No item is above the current level.
abbrev pub NoneAboveTheCurrent : Type 0
NoneAboveTheCurrent = (n : ℕ) (items : List Item) (level : ℕ) → IsTrail n items level →
    list_all (is_upto level) items ≡ true

-- The items up to a level k make a trail, of which k is the current level.
abbrev pub LowItemsStay : Type 0
LowItemsStay = (n : ℕ) (items : List Item) (level k : ℕ) → IsTrail n items level → k ≤ level →
    IsTrail n (filter (is_upto k) items) k

-- The decision of a level from 1 to the current one can be found.
abbrev pub DecisionsAreFound : Type 0
DecisionsAreFound = (n : ℕ) (items : List Item) (level k : ℕ) → IsTrail n items level →
    0 < k → k ≤ level → (d : Item) × (find (decides k) items ≡ Some d)

-- The decision of a level splits the items, and the picture with them.
abbrev pub DecisionsSplitThePicture : Type 0
DecisionsSplitThePicture = (clauses : List (List ℤ)) (items : List Item) (k : ℕ) (d : Item) →
    find (decides k) items ≡ Some d → Splits clauses items k d

-- Its variable is one of the trail's.
abbrev pub DecisionsAreWithin : Type 0
DecisionsAreWithin = (n : ℕ) (items : List Item) (level k : ℕ) (d : Item) →
    IsTrail n items level → find (decides k) items ≡ Some d → IsLiteralOf n d.lit

-- Once its level is taken back, the variable of a decision is unassigned.
abbrev pub BacktrackingFreesTheDecision : Type 0
BacktrackingFreesTheDecision = (n : ℕ) (items : List Item) (level k : ℕ) (d : Item) →
    IsTrail n items level → 0 < k → find (decides k) items ≡ Some d →
    item_of (filter (is_upto (k - 1)) items) (nat_abs d.lit) ≡ None

-- Items that follow are newer in the picture.
abbrev pub AppendedItemsAreNewer : Type 0
AppendedItemsAreNewer = (clauses : List (List ℤ)) (xs ys : List Item) →
    picture_of clauses (xs ++ ys) ≡ picture_of clauses ys ++ picture_of clauses xs

-- Levels that are taken back are taken back in the picture.
abbrev pub BacktrackingIsPictured : Type 0
BacktrackingIsPictured = (clauses : List (List ℤ)) (k : ℕ) (items : List Item) →
    picture_of clauses (filter (is_upto k) items) ≡ back k (picture_of clauses items)

-- Clauses that join behind those that the items name change nothing in the picture.
abbrev pub MoreClausesKeepThePicture : Type 0
MoreClausesKeepThePicture = (clauses more : List (List ℤ)) (items : List Item) →
    are_inside (length clauses) items ≡ true →
    picture_of (clauses ++ more) items ≡ picture_of clauses items

-- Where no two items are of one variable, a clause with a literal and its negation is neither false
-- nor unit.
abbrev pub PairsAreAtRest : Type 0
PairsAreAtRest = (items : List Item) (c : List ℤ) → are_distinct items ≡ true → All IsLiteral c →
    has_pair c ≡ true → IsAtRest items c

-- A reason is one in the picture of the search too.
abbrev pub ReasonsStandInThePicture : Type 0
ReasonsStandInThePicture = (clauses : List (List ℤ)) (older : List Item) (i : Item) (c : List ℤ) →
    IsReason older i c → is_reason c (pictured clauses i) (picture_of clauses older) ≡ true
