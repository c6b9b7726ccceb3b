use Rattle.std.proofs.Common.{◌≡◌, ℕ, ◌<◌, ◌≤◌, get_or}
use Rattle.std.specs.List.{All}
use Rattle.steal_pool.specs.Rule.{empty_hand}
use Rattle.steal_pool.specs.Benches.{deques_of, visits_others}
use Rattle.steal_pool.proofs.pool.visit_each_other.Given as goal

abbrev pub invariant-loop-thief : goal.invariant-loop-thief
invariant-loop-thief l = record {
  some : All (λ b. 1 ≤ b.sure) l.benches;
  empty : All (λ b. b.hand ≡ empty_hand) l.benches;
  visits : (k : ℕ) (d : _) → k < l.thief →
      (get_or l.benches k d).visits ≡ visits_others k (deques_of l.benches);
}
