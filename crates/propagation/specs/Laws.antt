-- The laws of propagation: what implies a literal.
use Rattle.std.specs.Prelude.{◌≡◌, ℕ, true, List, [], slice_index_or, ℤ}
use Rattle.chrono_trail.specs.declared.item.Kind.TheVariants.{Implied}
use Rattle.chrono_trail.specs.declared.item.Item.{Item}
use Rattle.chrono_trail.specs.Items.{are_distinct}
use Rattle.chrono_trail.specs.Clauses.{IsReason}
use Rattle.chrono_trail.specs.Reasons.{AreReasoned}
use Rattle.propagation.specs.Steps.{IsImplied, Propagates}

-- The clause that an implied item names is a reason for it.
abbrev pub ImpliedItemsHaveReasons : Type 0
ImpliedItemsHaveReasons = (clauses : List (List ℤ)) (older : List Item) (i : Item) (id : ℕ) →
    are_distinct older ≡ true → IsImplied clauses older i → i.kind ≡ Implied id →
    IsReason older i (slice_index_or clauses id [])

-- Propagation leaves each item with its reason, and gives the appended ones theirs.
abbrev pub PropagationKeepsReasons : Type 0
PropagationKeepsReasons = (clauses : List (List ℤ)) (old new : List Item) →
    are_distinct new ≡ true → Propagates clauses old new → AreReasoned clauses old →
    AreReasoned clauses new
