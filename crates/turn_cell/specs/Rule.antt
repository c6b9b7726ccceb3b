-- The rule of the table: the tickets, the place of the value, and one journal, of which each pass
-- knows a beginning and its own entries.
use Rattle.std.specs.Prelude.{◌≡◌, ◌⊎◌, ℕ, ◌+◌, ◌%◌, ◌^◌, ◌<◌, ◌≤◌, ◌==◌, Bool, true, false, List, [], ◌∷◌, All, Contains, filter, length, Option, Some, None}
use mathlib.Core.Option.{some, none}
use mathlib.Core.Option as maybe
use mathlib.Core.List.{IsPrefix}
use lib.ListN.{get_elem?}
use Rattle.atomic_table.specs.Table.{State}
use Rattle.turn_cell.specs.declared.rule.Claim.{Claim}
use Rattle.turn_cell.specs.declared.rule.View.{View}

-- f of each element, added up
abbrev pub total : {A : Type 0} → (A → ℕ) → List A → ℕ
total f [] = 0
total f (x ∷ xs) = f x + total f xs

abbrev pub as_number : Bool → ℕ
as_number true = 1
as_number false = 0

-- one where there is a ticket
abbrev pub ticket_count : Option ℕ → ℕ
ticket_count None = 0
ticket_count (Some t) = 1

-- how many of the claims are of the pass n
abbrev pub claim_count : {E : Type 0} → ℕ → List (Claim E) → ℕ
claim_count n claims = total (λ c. as_number (c.pass == n)) claims

-- the claim of a pass that has seen nothing
abbrev pub new_claim : {E : Type 0} → ℕ → Claim E
new_claim n = record { pass = n; seen = []; own = [] }

module _ {E : Type 0} (pass_of : E → ℕ) where
  -- the entries of the pass n, in their order
  abbrev pub entries_of : ℕ → List E → List E
  entries_of n journal = filter (λ e. pass_of e == n) journal

  -- the journal begins with what the pass has seen, and the pass's own entries are all that the
  -- journal has of its number
  pub record IsTrueOf (journal : List E) (c : Claim E) : Type 0 where
    pub begins : IsPrefix c.seen journal
    pub own : c.own ≡ entries_of c.pass journal

-- the ticket t is one of the `out` ones from `served` on, counted with wrapping
pub record IsOut (served out t : ℕ) : Type 0 where
  pub distance : ℕ
  pub near : distance < out
  pub is : t ≡ (served + distance) % 2 ^ 64

module _ {E F : Type 0} where
  -- a view that was joined into another
  abbrev pub spent_view : View E F
  spent_view = record {
    ticket = None;
    turn = false;
    found = [];
    claims = [];
    fixed = None;
    made = 0;
  }

  -- the first seat's view
  abbrev pub first_view : F → View E F
  first_view start = record {
    ticket = None;
    turn = false;
    found = [];
    claims = new_claim 0 ∷ [];
    fixed = Some start;
    made = 1;
  }

  -- the tickets out are those from `served` on, `out` of them, and no two seats have the same
  pub record IsQueue (served out : ℕ) (views : List (View E F)) : Type 0 where
    pub counted : total (λ v. ticket_count v.ticket) views ≡ out
    pub inside : (i t : ℕ) (v : View E F) → get_elem? views i ≡ some v → v.ticket ≡ Some t →
        IsOut served out t
    pub apart : (i j t : ℕ) (v w : View E F) → get_elem? views i ≡ some v →
        get_elem? views j ≡ some w → v.ticket ≡ Some t → w.ticket ≡ Some t → i ≡ j

  -- Each number below `made` is that of just one claim in all views, and no other number is. The
  -- first seat, while it has a claim, knows `made`.
  pub record IsRoll (made passes : ℕ) (views : List (View E F)) : Type 0 where
    pub once : (n : ℕ) → n < made → total (λ v. claim_count n v.claims) views ≡ 1
    pub never : (n : ℕ) → made ≤ n → total (λ v. claim_count n v.claims) views ≡ 0
    pub all : total (λ v. length v.claims) views ≡ made
    pub within : made ≤ passes
    pub few : passes ≤ 64
    pub first : (v : View E F) → get_elem? views 0 ≡ some v → 0 < length v.claims → v.made ≡ made

module _ {T E F : Type 0} where
  -- the slot is out with a seat that has the turn
  pub record IsLent (home : maybe.Option (Option T)) (views : List (View E F)) : Type 0 where
    pub out : home ≡ none
    pub seat : ℕ
    pub view : View E F
    pub at : get_elem? views seat ≡ some view
    pub turn : view.turn ≡ true

  -- the view's seat has the turn: its ticket is served, the slot is out, and it found the present
  -- journal
  pub record HasTurn (served : ℕ) (present : List E) (home : maybe.Option (Option T))
      (v : View E F) : Type 0 where
    pub ticket : v.ticket ≡ Some served
    pub out : home ≡ none
    pub found : v.found ≡ present

module _ {T E F : Type 0} (journal : T → List E) (pass_of : E → ℕ) (fixed : T → F) where
  -- What holds of a seat with the view v. A spent view has no claims, no ticket and no turn, so
  -- that nothing is asked of it.
  pub record FitsSeat (served : ℕ) (present : List E) (home : maybe.Option (Option T)) (start : F)
      (v : View E F) : Type 0 where
    pub seated : (t : ℕ) → v.ticket ≡ Some t → 0 < length v.claims
    pub lent : v.turn ≡ true → HasTurn served present home v
    pub known : (c : Claim E) → Contains v.claims c → IsTrueOf pass_of present c
    pub same : 0 < length v.claims → v.fixed ≡ Some start

  -- the slot at home has a value with the present journal
  pub record IsHome (home : maybe.Option (Option T)) (present : List E) (start : F) : Type 0 where
    pub value : T
    pub there : home ≡ some (Some value)
    pub whole : journal value ≡ present
    pub same : fixed value ≡ start

  -- The present list is what the seat with the turn has found, and the journal of the value at home
  -- where no seat has the turn.
  pub record KeepsJournal (start : F) (passes : ℕ) (s : State (Option T) (View E F)) : Type 0 where
    pub served : ℕ
    pub out : ℕ
    pub made : ℕ
    pub present : List E
    pub home : maybe.Option (Option T)
    pub words : s.words ≡ (served + out) % 2 ^ 64 ∷ served ∷ length present ∷ []
    pub homes : s.homes ≡ home ∷ []
    pub served_small : served < 2 ^ 64
    pub present_small : length present < 2 ^ 64
    pub queue : IsQueue served out s.views
    pub place : IsHome home present start ⊎ IsLent home s.views
    pub each : (i : ℕ) (v : View E F) → get_elem? s.views i ≡ some v →
        FitsSeat served present home start v
    pub roll : IsRoll made passes s.views
    pub entered : All (λ e. pass_of e < made) present
