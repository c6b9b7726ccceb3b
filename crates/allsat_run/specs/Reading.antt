-- How a run ends that gets no input.
use Rattle.std.specs.Prelude.{ℕ, List, Option}
use Rattle.fault_io.specs.Bytes.{Consumes}
use Rattle.fault_io.specs.Sources.{SourceView}
use Rattle.dimacs_front.specs.Answers.{IsOpenLine, IsAskedFor}
use Rattle.allsat_run.specs.declared.status.Status.{Status}
use Rattle.allsat_run.specs.declared.status.Status.TheVariants.{InputRefused, ReadFault, OutOfMemory}
use Rattle.allsat_run.specs.Run.{IsRefusedText, CountsReadFault}

-- what the status says of the bytes taken: they are refused, or the line behind them was being read
abbrev pub SaysUnread : Option (List ℕ) → Option (List ℕ) → List ℕ → Status → Type 0
SaysUnread had left taken (InputRefused refused) = IsRefusedText had left taken refused
SaysUnread had left taken (ReadFault line) = IsOpenLine taken line
SaysUnread had left taken OutOfMemory = Unit {0}
SaysUnread had left taken status = ⊥

-- some bytes were taken, none of them in vain, and the status is right for them
pub record EndsUnread (old new : SourceView) (status : Status) : Type 0 where
  pub taken : List ℕ
  pub consumed : Consumes old.left new.left taken
  pub asked : IsAskedFor taken
  pub counted : CountsReadFault old.faults new.faults status
  pub says : SaysUnread old.left new.left taken status
