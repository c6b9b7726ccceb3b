use Rattle.std.proofs.Common.{◌≡◌}
use Rattle.std.specs.Io.KnownBytes.{Keeps}
use Rattle.fault_io.proofs.std_source.StdSourceSource.take.Given as goal

abbrev pub invariant-loop : goal.invariant-loop
invariant-loop g l = record {
  kept : Keeps (g.R.Read.remaining l.initial.self.reader) (g.R.Read.remaining l.self.reader);
  faults : l.self.faults ≡ l.initial.self.faults;
}
