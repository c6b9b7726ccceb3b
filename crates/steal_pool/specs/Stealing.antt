-- Where a thief steals, and what a steal does to its passes.
use Rattle.std.specs.Prelude.{◌≡◌, ℕ, List, [], ◌∷◌, map, slice_get, slice_set, Some}
use Rattle.atomic_blocks.specs.Lent.{RowsId}
use Rattle.crossbeam_deque.specs.Handles.{view, stealer_deque}
use Rattle.prefix_jobs.specs.declared.number.Token.{Token}
use Rattle.steal_pool.specs.declared.other.Other.{Other}

-- a deque that is stolen from, and what the thief's pass knows of it
pub record Visit (V : Type 0) : Type 0 where
  pub deque : RowsId
  pub hand : V

module _ {V P : Type 0} where
  abbrev pub visit_of : Other V P → Visit V
  visit_of o = record { deque = (stealer_deque o.deque).0; hand = view o.pass }

  abbrev pub visits_of : List (Other V P) → List (Visit V)
  visits_of others = map visit_of others

-- at one of the visits this token was taken, and the others stayed
pub record StealsFrom {V : Type 0} (then : V → List Token → V → Type 0) (t : Token)
    (olds news : List (Visit V)) : Type 0 where
  pub place : ℕ
  pub visit : Visit V
  pub hand : V
  pub was : slice_get olds place ≡ Some visit
  pub now : news ≡ slice_set olds place (record visit { hand = hand })
  pub took : then visit.hand (t ∷ []) hand
