-- What a run of the check answers.
use Rattle.std.specs.Prelude.{◌≡◌, ◌≢◌, ◌⊎◌, ℕ, List, Option, Some, None, Result, Ok, Err, ℤ}
use Rattle.fault_io.specs.Bytes.{Consumes}
use Rattle.fault_io.specs.Faults.{Rose}
use Rattle.fault_io.specs.Sources.{SourceView}
use Rattle.fault_io.specs.Sinks.{SinkView, TakesFront}
use Rattle.cube_check.specs.declared.met.Met.{Met}
use Rattle.cube_check.specs.declared.verdict.Verdict.{Verdict}
use Rattle.cube_check.specs.declared.verdict.Verdict.TheVariants.{Right, NotMet, Overlap}
use Rattle.cube_check.specs.Verdicts.{IsVerdict}
use Rattle.cube_check.specs.VerdictTexts.{verdict_text}
use Rattle.dimacs_front.specs.Whole.{reads}
use Rattle.dimacs_front.specs.Answers.{IsInput, IsWithinLimits, IsMetOf, IsAskedFor}
use Rattle.dimacs_front.specs.declared.input.Input.{Input}
use Rattle.dimacs_front.specs.declared.refused.TextRefused.{TextRefused}
use Rattle.dimacs_front.specs.declared.refused.TextRefused.TheVariants.{NoMetText}
use Rattle.region_book.specs.Arranged.{ArrangedView}
use Rattle.allsat_run.specs.declared.status.Status.{Status}
use Rattle.allsat_run.specs.declared.status.Status.TheVariants.{Finished, InputRefused, OutOfMemory, WriteFault, CheckedNo}
use Rattle.allsat_run.specs.Run.{IsWritten, IsRefusedText, CountsReadFault, SaysAlone}

-- the status of a check with this verdict
abbrev pub status_of : Verdict → Status
status_of Right = Finished
status_of (NotMet i j) = CheckedNo (NotMet i j)
status_of (Overlap i j) = CheckedNo (Overlap i j)

-- all the bytes taken say a met text, and this is the verdict on its met lines
pub record Judges (left : Option (List ℕ)) (taken : List ℕ) (v : Verdict) : Type 0 where
  pub input : Input
  pub text : IsInput left taken input
  pub limits : IsWithinLimits input
  pub of : IsMetOf input.subject.formula.variables input.subject.shown input.subject.under input.met
  pub met : List Met
  pub named : input.met ≡ Some met
  pub verdict : IsVerdict input.subject.formula.clauses met v

-- all the bytes taken say an input that is no met text
pub record IsNoMet (left : Option (List ℕ)) (taken : List ℕ) (refused : TextRefused) : Type 0 where
  pub input : Input
  pub text : IsInput left taken input
  pub plain : input.met ≡ None
  pub named : refused ≡ NoMetText 1

-- how a check ends on an input
abbrev pub EndsMet : List (List ℤ) → Option (List Met) → Status → Type 0
EndsMet f None status = status ≡ InputRefused (NoMetText 1)
EndsMet f (Some met) status = (v : Verdict) × IsVerdict f met v × (status ≡ status_of v)

-- and on a text that says this, where no stream fails and there is memory
abbrev pub EndsCheck : Result Input TextRefused → Status → Type 0
EndsCheck (Ok input) status = EndsMet input.subject.formula.clauses input.met status
EndsCheck (Err refused) status = status ≡ InputRefused refused

-- the line of the verdict is written, or a front of it is out and then the output failed
abbrev pub WritesVerdict : SinkView → SinkView → Verdict → Status → Type 0
WritesVerdict before now v status =
    ((status ≡ WriteFault) × TakesFront before now (verdict_text v))
    ⊎ ((status ≡ status_of v) × IsWritten before now (verdict_text v))

-- there is a verdict on these met lines, which is written
pub record ChecksMet (f : List (List ℤ)) (met : List Met) (before now : SinkView)
    (status : Status) : Type 0 where
  pub verdict : Verdict
  pub is : IsVerdict f met verdict
  pub written : WritesVerdict before now verdict status

-- what a check of an input comes to: a text that is no met text is refused, and want of memory and
-- a refusal leave the output as it was
abbrev pub ChecksLines : {K : Type 0} (sink : K → SinkView) → List (List ℤ) → Option (List Met) →
    K → K → Status → Type 0
ChecksLines sink f None out out' status = (status ≡ InputRefused (NoMetText 1)) × (out' ≡ out)
ChecksLines sink f (Some met) out out' status =
    ChecksMet f met (sink out) (sink out') status ⊎ ((status ≡ OutOfMemory) × (out' ≡ out))

abbrev pub ChecksInput : {K : Type 0} (sink : K → SinkView) → Input → K → K → Status → Type 0
ChecksInput sink input out out' status =
    ChecksLines sink input.subject.formula.clauses input.met out out' status

module _ {S K : Type 0} (source : S → SourceView) (sink : K → SinkView) where
  -- what the status says: with a verdict its line is written, or a front of it before a write
  -- fault; else nothing is
  abbrev pub SaysCheck : S → S → List ℕ → K → K → Status → Type 0
  SaysCheck input input' taken out out' Finished =
      Judges (source input').left taken Right
      × IsWritten (sink out) (sink out') (verdict_text Right)
  SaysCheck input input' taken out out' (CheckedNo v) =
      (v ≢ Right) × Judges (source input').left taken v
      × IsWritten (sink out) (sink out') (verdict_text v)
  SaysCheck input input' taken out out' WriteFault =
      (v : Verdict) × Judges (source input').left taken v
      × TakesFront (sink out) (sink out') (verdict_text v)
  SaysCheck input input' taken out out' (InputRefused refused) =
      (IsRefusedText (source input).left (source input').left taken refused
      ⊎ IsNoMet (source input').left taken refused) × (out' ≡ out)
  SaysCheck input input' taken out out' status =
      SaysAlone source sink input input' taken status × (out' ≡ out)

  -- some bytes were taken, none of them in vain, and the status is right for them; there is no book
  pub record AnswersCheck (input input' : S) (out out' : K) (status : Status)
      (book : Option ArrangedView) : Type 0 where
    pub taken : List ℕ
    pub consumed : Consumes (source input).left (source input').left taken
    pub asked : IsAskedFor taken
    pub counted : CountsReadFault (source input).faults (source input').faults status
    pub says : SaysCheck input input' taken out out' status
    pub alone : book ≡ None

  -- neither stream failed: the check ends as the text says, or there was no memory
  abbrev pub CompletesCheck : S → S → K → K → Status → Type 0
  CompletesCheck input input' out out' status =
      (text : List ℕ) → (source input).left ≡ Some text →
      ¬ Rose (source input).faults (source input').faults →
      ¬ Rose (sink out).faults (sink out').faults →
      EndsCheck (reads text) status ⊎ (status ≡ OutOfMemory)
