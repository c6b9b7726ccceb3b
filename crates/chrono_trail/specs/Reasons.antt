-- Items that stand by a clause, and the clauses that are their reasons.
use Rattle.std.specs.Prelude.{◌≡◌, ℕ, ◌<◌, true, List, [], ◌∷◌, ◌++◌, length, filter, slice_index_or, ℤ, Some}
use Rattle.search_region.specs.Trail.{is_reason}
use Rattle.chrono_trail.specs.declared.item.Item.{Item}
use Rattle.chrono_trail.specs.Items.{reason_id, are_inside, is_upto}
use Rattle.chrono_trail.specs.Clauses.{IsReason}
use Rattle.chrono_trail.specs.Pictures.{pictured, picture_of}

-- The clause of this number is there, and is a reason for the item under the older ones.
pub record IsReasonAt (clauses : List (List ℤ)) (older : List Item) (i : Item)
    (id : ℕ) : Type 0 where
  pub inside : id < length clauses
  pub reason : IsReason older i (slice_index_or clauses id [])

-- Where the item stands by a clause, this is a reason for it.
abbrev pub HasReason : List (List ℤ) → List Item → Item → Type 0
HasReason clauses older i = (id : ℕ) → reason_id i.kind ≡ Some id → IsReasonAt clauses older i id

-- Each of the later items has its reason, under the older ones and the later ones before it.
abbrev pub HaveReasons : List (List ℤ) → List Item → List Item → Type 0
HaveReasons clauses older [] = Unit {0}
HaveReasons clauses older (i ∷ later) =
    HasReason clauses older i × HaveReasons clauses (older ++ i ∷ []) later

-- Each item of a trail has its reason: each literal of the clause that it stands by is its own, or
-- false by an older item of at most its level.
abbrev pub AreReasoned : List (List ℤ) → List Item → Type 0
AreReasoned clauses items = HaveReasons clauses [] items

-- An appended item with its reason, or one that stands by none, leaves each with its reason.
abbrev pub AppendingKeepsReasons : Type 0
AppendingKeepsReasons = (clauses : List (List ℤ)) (items : List Item) (e : Item) →
    AreReasoned clauses items → HasReason clauses items e → AreReasoned clauses (items ++ e ∷ [])

-- So does taking levels back.
abbrev pub BacktrackingKeepsReasons : Type 0
BacktrackingKeepsReasons = (clauses : List (List ℤ)) (k : ℕ) (items : List Item) →
    AreReasoned clauses items → AreReasoned clauses (filter (is_upto k) items)

-- So do clauses that join behind the others.
abbrev pub MoreClausesKeepReasons : Type 0
MoreClausesKeepReasons = (clauses more : List (List ℤ)) (items : List Item) →
    AreReasoned clauses items → AreReasoned (clauses ++ more) items

-- Items with reasons name only clauses that are there.
abbrev pub ReasonsAreInside : Type 0
ReasonsAreInside = (clauses : List (List ℤ)) (items : List Item) → AreReasoned clauses items →
    are_inside (length clauses) items ≡ true

-- The reason of an item is one in the picture.
abbrev pub ReasonsArePictured : Type 0
ReasonsArePictured = (clauses : List (List ℤ)) (before : List Item) (i : Item) (after : List Item)
    (id : ℕ) → AreReasoned clauses (before ++ i ∷ after) → reason_id i.kind ≡ Some id →
    is_reason (slice_index_or clauses id []) (pictured clauses i) (picture_of clauses before) ≡ true
