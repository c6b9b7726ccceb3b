use Rattle.std.proofs.Common.{◌≡◌, ℕ, cond, None, length, take, get_or}
use Rattle.chrono_trail.specs.Items.{goes}
use Rattle.chrono_trail.proofs.trail.free.Given as goal

abbrev pub invariant-loop-item : goal.invariant-loop-item
invariant-loop-item l = record {
  long : length l.given ≡ length l.initial.given;
  places : (v : ℕ) → get_or l.given v None ≡ cond (goes l.least (take l.item-index l.items) v) None (get_or l.initial.given v None);
}
