-- The law of a lemma that asserts a literal.
use Rattle.std.specs.Prelude.{◌≡◌, ℕ, ◌-◌, ◌<◌, true, filter, List, ℤ, Some}
use Rattle.search_region.specs.Trail.{back, is_reason}
use Rattle.chrono_trail.specs.declared.item.Item.{Item}
use Rattle.chrono_trail.specs.Items.{is_upto}
use Rattle.chrono_trail.specs.Trails.{IsTrail}
use Rattle.chrono_trail.specs.Clauses.{IsReason}
use Rattle.chrono_trail.specs.Pictures.{pictured, picture_of}
use Rattle.conflict_analysis.specs.Lemmas.{IsLearnt}

-- Where the other literals of a lemma are of a level below that of its conflict, it is a reason for
-- the literal that it asserts, on their level, under what stays of the trail once that level is
-- taken back.
abbrev pub AssertingLemmaIsReason : Type 0
AssertingLemmaIsReason = (clauses : List (List ℤ)) (n : ℕ) (items : List Item) (level id : ℕ)
    (lits : List ℤ) (k r : ℕ) (x : ℤ) (i : Item) →
    IsTrail n items level → IsLearnt clauses n items id lits k r (Some x) → r < k →
    i.lit ≡ x → i.level ≡ r → IsReason (filter (is_upto (k - 1)) items) i lits

-- So it is in the picture.
abbrev pub AssertingLemmaIsPictured : Type 0
AssertingLemmaIsPictured = (clauses : List (List ℤ)) (n : ℕ) (items : List Item) (level id : ℕ)
    (lits : List ℤ) (k r : ℕ) (x : ℤ) (i : Item) →
    IsTrail n items level → IsLearnt clauses n items id lits k r (Some x) → r < k →
    i.lit ≡ x → i.level ≡ r →
    is_reason lits (pictured clauses i) (back (k - 1) (picture_of clauses items)) ≡ true
