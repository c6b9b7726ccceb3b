-- The seat of a pass between two turns.
use Rattle.std.specs.Prelude.{◌≡◌, ℕ, [], ◌∷◌, Option, None, false}
use Rattle.atomic_table.specs.declared.shared.Seat.{Seat}
use Rattle.turn_cell.specs.declared.rule.Claim.{Claim}
use Rattle.turn_cell.specs.declared.rule.View.{View}
use Rattle.turn_cell.specs.Rule.{entries_of}
use Rattle.turn_cell.specs.Steps.{first_claim}
use Rattle.turn_cell.specs.Passes.{PassView}

-- what a pass claims
abbrev pub claim_of : {E F : Type 0} → PassView E F → Claim E
claim_of p = record { pass = p.number; seen = p.seen; own = p.own }

module _ {T E F : Type 0} where
  -- what the seat of the pass n knows
  abbrev pub pass_view : ℕ → Seat (Option T) (View E F) → PassView E F
  pass_view n seat = record {
    table = seat.table_id;
    number = n;
    seen = (first_claim seat.me.0.claims).seen;
    own = (first_claim seat.me.0.claims).own;
    fixed = seat.me.0.fixed;
  }

  -- the seat of the pass n has no slot, no ticket and no turn, and makes one claim
  pub record IsIdleSeat (pass_of : E → ℕ) (n : ℕ) (seat : Seat (Option T) (View E F)) : Type 0 where
    pub holds_nothing : seat.me.1 ≡ []
    pub no_ticket : seat.me.0.ticket ≡ None
    pub no_turn : seat.me.0.turn ≡ false
    pub one_claim : seat.me.0.claims ≡ claim_of (pass_view n seat) ∷ []
    pub own : (pass_view n seat).own ≡ entries_of pass_of n (pass_view n seat).seen
