-- What each step makes of a seat's view, and what it tells.
use Rattle.std.specs.Prelude.{◌≡◌, ℕ, ◌+◌, ◌^◌, ◌<◌, List, [], ◌∷◌, ◌++◌, All, Contains, drop, length, Option, Some, None, true, false}
use Rattle.atomic_table.specs.Table.{Me, Step}
use Rattle.atomic_table.specs.Seated.{TableId}
use Rattle.atomic_table.specs.declared.shared.Seat.{Seat}
use Rattle.turn_cell.specs.declared.rule.Claim.{Claim}
use Rattle.turn_cell.specs.declared.rule.View.{View}
use Rattle.turn_cell.specs.Rule.{IsTrueOf, new_claim}

-- three words and one slot
pub record IsSized (z : TableId) : Type 0 where
  pub words : z.words ≡ 3
  pub slots : z.slots ≡ 1

-- the seat is of the same table, under the same number
pub record IsSameSeat {S V : Type 0} (s t : Seat S V) : Type 0 where
  pub table : t.table_id ≡ s.table_id
  pub number : t.id ≡ s.id

module _ {E : Type 0} where
  -- the claim after a turn that found `found` and left `journal`
  abbrev pub claim_after : List E → List E → Claim E → Claim E
  claim_after found journal c =
      record c { seen = journal; own = c.own ++ drop (length found) journal }

  -- the claims after that turn, of which the first is the seat's own
  abbrev pub claims_after : List E → List E → List (Claim E) → List (Claim E)
  claims_after found journal [] = []
  claims_after found journal (c ∷ cs) = claim_after found journal c ∷ cs

  -- the first claim, which is the only one of a pass
  abbrev pub first_claim : List (Claim E) → Claim E
  first_claim [] = new_claim 0
  first_claim (c ∷ cs) = c

module _ {E F : Type 0} where
  -- the view with the ticket t
  abbrev pub with_ticket : ℕ → View E F → View E F
  with_ticket t v = record v { ticket = Some t }

  -- the view with the turn, which found this journal
  abbrev pub with_turn : List E → View E F → View E F
  with_turn journal v = record v { turn = true; found = journal }

  -- the view once the journal is this one
  abbrev pub with_journal : List E → View E F → View E F
  with_journal journal v =
      record v { found = journal; claims = claims_after v.found journal v.claims }

  -- the view after its turn
  abbrev pub without_turn : View E F → View E F
  without_turn v = record v { ticket = None; turn = false }

  -- the first seat's view, once it made one more pass
  abbrev pub with_next_number : View E F → View E F
  with_next_number v = record v { made = v.made + 1 }

  -- the view of that pass, whose number is next and which has seen nothing
  abbrev pub new_view : View E F → View E F
  new_view v = record {
    ticket = None;
    turn = false;
    found = [];
    claims = new_claim v.made ∷ [];
    fixed = v.fixed;
    made = 0;
  }

  -- the claims of the other view stand in front
  abbrev pub with_claims : View E F → View E F → View E F
  with_claims v w = record v { claims = w.claims ++ v.claims }

-- what a step on a word tells: the step, what the seat had, the number found, and what it has now
abbrev pub Told : (T E F : Type 0) → Type 1
Told T E F = Step (Option T) → Me (Option T) (View E F) → ℕ → Me (Option T) (View E F) → Type 0

module _ {T E F : Type 0} where
  -- the number found is the ticket
  abbrev pub DrawsTicket : Told T E F
  DrawsTicket st m n m' = m' ≡ (with_ticket n m.0, m.1)

  -- the turn is over, and the slot is given back
  abbrev pub PassesOn : Told T E F
  PassesOn st m n m' = m' ≡ (without_turn m.0, [])

module _ {T E F : Type 0} (journal : T → List E) where
  -- the journal is that of the value in the slot
  abbrev pub EntersJournal : Told T E F
  EntersJournal st m n m' = (y : T) → m.1 ≡ (0, Some y) ∷ [] →
      m' ≡ (with_journal (journal y) m.0, m.1)

module _ {T E F : Type 0} (journal : T → List E) (pass_of : E → ℕ) (fixed : T → F) where
  -- all that the view claims is true of the value x
  pub record Suits (v : View E F) (x : T) : Type 0 where
    pub known : (c : Claim E) → Contains v.claims c → IsTrueOf pass_of (journal x) c
    pub same : (f : F) → v.fixed ≡ Some f → fixed x ≡ f

  -- the slot is taken, with a value that suits
  pub record TakesTurn (m m' : Me (Option T) (View E F)) : Type 0 where
    pub value : T
    pub taken : m' ≡ (with_turn (journal value) m.0, (0, Some value) ∷ m.1)
    pub suits : Suits m.0 value

  -- the turn is taken exactly where the number found is the ticket
  pub record LooksForTurn (st : Step (Option T)) (m : Me (Option T) (View E F)) (n : ℕ)
      (m' : Me (Option T) (View E F)) : Type 0 where
    pub served : (t : ℕ) → m.0.ticket ≡ Some t → n ≡ t → TakesTurn m m'
    pub waits : (t : ℕ) → m.0.ticket ≡ Some t → ¬ (n ≡ t) → m' ≡ m

module _ {T E F : Type 0} where
  -- the seat holds a value in its slot
  pub record HoldsValue (m : Me (Option T) (View E F)) : Type 0 where
    pub value : T
    pub slot : m.1 ≡ (0, Some value) ∷ []

module _ {T E F : Type 0} (journal : T → List E) where
  -- the seat has a ticket and the turn, and the value that it found is out of the slot
  pub record HasEntered (found : T) (m m' : Me (Option T) (View E F)) : Type 0 where
    pub ticket : ℕ
    pub now : m' ≡ (with_turn (journal found) (with_ticket ticket m.0), (0, None) ∷ [])

  -- the seat holds the value whose journal it knows, and which has what it knows to stay the same
  pub record HoldsKnown (fixed : T → F) (m : Me (Option T) (View E F)) : Type 0 where
    pub value : T
    pub slot : m.1 ≡ (0, Some value) ∷ []
    pub whole : journal value ≡ m.0.found
    pub same : Some (fixed value) ≡ m.0.fixed

module _ {T E F : Type 0} (journal : T → List E) (pass_of : E → ℕ) where
  -- the value's journal is what the view's seat found and so many entries more, of its pass
  pub record HasGrown (v : View E F) (count : ℕ) (y : T) : Type 0 where
    pub added : List E
    pub grows : journal y ≡ v.found ++ added
    pub fits : length (journal y) < 2 ^ 64
    pub counted : length added ≡ count
    pub numbers : All (λ e. pass_of e ≡ (first_claim v.claims).pass) added

  -- the seat holds such a value
  pub record HoldsGrown (m : Me (Option T) (View E F)) (count : ℕ) : Type 0 where
    pub value : T
    pub slot : m.1 ≡ (0, Some value) ∷ []
    pub grown : HasGrown m.0 count value
