use Rattle.std.proofs.Common.{rules, ◌≡◌, ◌≤◌}
use Rattle.std.proofs.lemmas.List.Elements.{All-set}
use Rattle.steal_pool.specs.Rule.{empty_hand}
use Rattle.steal_pool.specs.Benches.{BenchView}
use Rattle.steal_pool.proofs.Pools.{seated}
use Rattle.steal_pool.proofs.pool.visit_each_other.Goals as goal

pub loop-thief-preserved : goal.loop-thief-preserved
loop-thief-preserved c = record {
  some = All-set (λ (b : BenchView). 1 ≤ b.sure) _ _ _ (search rules) (search rules);
  empty = All-set (λ (b : BenchView). b.hand ≡ empty_hand) _ _ _ (search rules) (search rules);
  visits = seated c.invite_others.new.benches c.loop-thief.thief c.visit.new.self
      c.index-benches-thief.result c.visit.new.self.visits (search rules) (search rules)
      (search rules) (search rules);
}
