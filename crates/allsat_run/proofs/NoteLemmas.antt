-- A line that was handed to the notes is there, or a front of it where they failed.
use Rattle.std.proofs.Common.{◌≡◌, ℕ, List, Result, Ok, Err, ◌⊎◌, inl, inr, refl}
use Rattle.fault_io.specs.Sinks.{SinkView, TakesBytes, TakesFront, TakesWhole}
use Rattle.allsat_run.specs.declared.status.Status.{Status}
use Rattle.allsat_run.specs.declared.status.Status.TheVariants.{Finished, WordsRefused, InputRefused, BudgetSpent, OutOfMemory, ReadFault, WriteFault, CheckedNo}
use Rattle.allsat_run.specs.Run.{Notes}
use Rattle.allsat_run.specs.Status.{note_of}

pub there_or_front : {T E : Type 0} (old new : SinkView) (text : List ℕ) (result : Result T E) →
    TakesWhole old new text result → TakesBytes old new text ⊎ TakesFront old new text
there_or_front old new text (Ok r) taken = inl taken
there_or_front old new text (Err e) front = inr front

-- a run that is not finished puts its line
pub noted : {N : Type 0} (sink : N → SinkView) (notes notes' : N) (status : Status) → ¬ (status ≡ Finished) →
    TakesBytes (sink notes) (sink notes') (note_of status) ⊎ TakesFront (sink notes) (sink notes') (note_of status) →
    Notes sink notes notes' status
noted sink notes notes' Finished unfinished put = absurd (unfinished refl)
noted sink notes notes' WordsRefused unfinished put = put
noted sink notes notes' (InputRefused refused) unfinished put = put
noted sink notes notes' BudgetSpent unfinished put = put
noted sink notes notes' OutOfMemory unfinished put = put
noted sink notes notes' (ReadFault line) unfinished put = put
noted sink notes notes' WriteFault unfinished put = put
noted sink notes notes' (CheckedNo v) unfinished put = put
