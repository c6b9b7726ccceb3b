use Rattle.std.proofs.Common.{◌≡◌, length}
use Rattle.live_engine.specs.Values.{AreCopied}
use Rattle.live_engine.proofs.finding.copy_values.Given as goal

abbrev pub invariant-loop-place : goal.invariant-loop-place
invariant-loop-place l = record {
  long : length l.values.items ≡ length l.initial.values.items;
  copied : AreCopied l.items l.place l.values.items;
}
