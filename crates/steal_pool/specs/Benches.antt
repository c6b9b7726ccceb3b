-- What contracts see of a bench.
use Rattle.std.specs.Prelude.{◌≡◌, ℕ, ◌+◌, ◌<◌, ◌≤◌, List, [], ◌∷◌, ◌++◌, length, map, take, drop, get_or}
use Rattle.std.specs.List.{All}
use Rattle.std.specs.declared.alloc.Global.{Global}
use Rattle.atomic_blocks.specs.Lent.{RowsId}
use Rattle.crossbeam_deque.specs.declared.handles.Worker.{Worker}
use Rattle.crossbeam_deque.specs.Handles.{worker_deque, worker_flavor, worker_view, worker_capacity, worker_index}
use Rattle.prefix_jobs.specs.declared.number.Token.{Token}
use Rattle.steal_pool.specs.declared.rule.Hand.{Hand}
use Rattle.steal_pool.specs.declared.rule.Fair.{Fair}
use Rattle.steal_pool.specs.declared.other.Other.{Other}
use Rattle.steal_pool.specs.Rule.{empty_hand, hand_with_put, hand_with_taken}
use Rattle.steal_pool.specs.Stealing.{Visit, visits_of, StealsFrom}

-- its deque, for how many tokens there is room for sure, what it has put there and taken, and where
-- it steals
pub record BenchView : Type 0 where
  pub deque : RowsId
  pub sure : ℕ
  pub hand : Hand
  pub visits : List (Visit Hand)

abbrev pub bench_view : ℕ → Worker Token Global Hand Fair → List (Other Hand Fair) → BenchView
bench_view sure deque others = record {
  deque = (worker_deque deque).0;
  sure = sure;
  hand = worker_view deque;
  visits = visits_of others;
}

-- the owner works at the newest end, and there was room for so many tokens from the start
pub record IsStocked (sure : ℕ) (deque : Worker Token Global Hand Fair) : Type 0 where
  pub newest : worker_flavor deque ≡ 1
  pub some : 1 ≤ sure
  pub room : sure ≤ worker_capacity deque
  pub index : worker_index deque ≤ length (worker_view deque).put

-- the bench once its owner put a token, and once its owner took one
abbrev pub bench_with_put : BenchView → Token → BenchView
bench_with_put b t = record b { hand = hand_with_put b.hand (t ∷ []) }

abbrev pub bench_with_taken : BenchView → Token → BenchView
bench_with_taken b t = record b { hand = hand_with_taken b.hand (t ∷ []) }

-- the bench once its worker stole this token from another
pub record IsStolen (old new : BenchView) (t : Token) : Type 0 where
  pub same : new ≡ record old { visits = new.visits }
  pub steals : StealsFrom (λ v xs w. w ≡ hand_with_taken v xs) t old.visits new.visits

-- nothing was put or taken, and the worker steals nowhere
pub record IsAlone (b : BenchView) : Type 0 where
  pub some : 1 ≤ b.sure
  pub hand : b.hand ≡ empty_hand
  pub visits : b.visits ≡ []

-- a pass at this deque that has taken nothing
abbrev pub new_visit : RowsId → Visit Hand
new_visit d = record { deque = d; hand = empty_hand }

abbrev pub deques_of : List BenchView → List RowsId
deques_of bs = map (λ b. b.deque) bs

-- a pass at each deque after the place k, and then at each before it
abbrev pub visits_others : ℕ → List RowsId → List (Visit Hand)
visits_others k ds = map new_visit (drop (k + 1) ds ++ take k ds)

-- Nothing was put or taken, and from each bench its worker steals at all others.
pub record IsPool (bs : List BenchView) : Type 0 where
  pub some : All (λ b. 1 ≤ b.sure) bs
  pub empty : All (λ b. b.hand ≡ empty_hand) bs
  pub visits : (k : ℕ) (d : BenchView) → k < length bs →
      (get_or bs k d).visits ≡ visits_others k (deques_of bs)
