use Rattle.std.proofs.Common.{◌≡◌, ◌≤◌, true, take}
use Rattle.std.specs.List.{list_all}
use Rattle.chrono_trail.specs.Items.{is_upto}
use Rattle.projected_decide.proofs.Moving.{is_back}
use Rattle.projected_decide.proofs.order.Order.put_back_above.Given as goal

abbrev pub invariant-loop-item : goal.invariant-loop-item
invariant-loop-item l = record {
  same : l.self ≡ record l.initial.self { from = l.self.from };
  lower : l.self.from ≤ l.initial.self.from;
  back : list_all (is_back (is_upto l.level) l.self.from l.initial.self.order) (take l.item-index l.item-items) ≡ true;
}
