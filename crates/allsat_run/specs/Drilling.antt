-- What a run of the drill answers, and what a run answers by the command of its words.
use Rattle.std.specs.Prelude.{◌≡◌, ◌↔◌, ◌⊎◌, ℕ, ◌<◌, Bool, true, nat_abs, Option, Some, None, List, [], ◌∷◌, ℤ}
use Rattle.sat_terms.specs.Assignments.{IsGood, lies_in}
use Rattle.sat_terms.specs.Cubes.{has_literal, is_among}
use Rattle.fault_io.specs.Faults.{Rose}
use Rattle.fault_io.specs.Sources.{SourceView}
use Rattle.fault_io.specs.Sinks.{SinkView, TakesFront}
use Rattle.checkpoint.specs.SavedText.{saved_text}
use Rattle.command_words.specs.declared.command.Command.{Command}
use Rattle.command_words.specs.declared.command.Command.TheVariants.{Enumerate, Check, Drill}
use Rattle.dimacs_front.specs.declared.input.Input.{Input}
use Rattle.drill.specs.Drills.{drill}
use Rattle.drill.specs.Summaries.{fixed_literals, summary}
use Rattle.region_book.specs.Machine.{Pending}
use Rattle.region_book.specs.Machine.{prefixes_of}
use Rattle.region_book.specs.Arranged.{ArrangedView}
use Rattle.allsat_run.specs.declared.status.Status.{Status}
use Rattle.allsat_run.specs.declared.status.Status.TheVariants.{Finished, OutOfMemory, WriteFault}
use Rattle.allsat_run.specs.Checking.{AnswersCheck, CompletesCheck}
use Rattle.allsat_run.specs.Run.{IsBookOf, SaysOfBook, IsWritten, Writes, Answers, Completes}

-- the drill of a size, as an input
abbrev pub drill_input : ℕ → Input
drill_input size = record { subject = drill size; saved = None; met = None }

-- the summary of what is published, or the saved text where something is pending
abbrev pub drill_text_with : List Pending → ArrangedView → List ℕ
drill_text_with [] a = summary (fixed_literals a.published)
drill_text_with (q ∷ qs) a = saved_text a.book.subject a.published (prefixes_of a.pending)

unfoldable pub drill_text : ArrangedView → List ℕ
drill_text a = drill_text_with a.pending a

-- the drill's text is written, or a front of it is out and then the output failed
abbrev pub WritesDrill : SinkView → SinkView → Status → ArrangedView → Status → Type 0
WritesDrill before now status a status' =
    ((status' ≡ WriteFault) × TakesFront before now (drill_text a))
    ⊎ ((status' ≡ status) × IsWritten before now (drill_text a))

-- a literal of a shown variable is one of these exactly if it is true in every good assignment of
-- the drill
abbrev pub AreFixed : ℕ → List ℤ → Type 0
AreFixed size lits =
    (l : ℤ) → 0 < nat_abs l → is_among (drill size).shown (nat_abs l) ≡ true →
    (has_literal lits l ≡ true) ↔
    ((a : List Bool) → IsGood (drill size).formula.clauses (drill size).shown a →
    lies_in (drill size).shown a (l ∷ []) ≡ true)

-- the run ended with a book of the drill, and its text is written
pub record EndsDrill (size : ℕ) (before now : SinkView) (status : Status) (a : ArrangedView) :
    Type 0 where
  pub book : IsBookOf (drill_input size) a
  pub says : SaysOfBook None status a
  pub fixed : a.pending ≡ [] → AreFixed size (fixed_literals a.published)
  pub written : Writes before now status (drill_text a)

module _ {K : Type 0} (sink : K → SinkView) where
  -- what status and book say of a drill's output; without a book there was no memory for one
  abbrev pub SaysDrill : ℕ → K → K → Status → Option ArrangedView → Type 0
  SaysDrill size out out' status (Some a) = EndsDrill size (sink out) (sink out') status a
  SaysDrill size out out' status None = (status ≡ OutOfMemory) × (out' ≡ out)

  -- the output did not fail: the drill finished, or there was no memory
  abbrev pub CompletesDrill : K → K → Status → Type 0
  CompletesDrill out out' status = ¬ Rose (sink out).faults (sink out').faults →
      (status ≡ Finished) ⊎ (status ≡ OutOfMemory)

module _ {S K : Type 0} (source : S → SourceView) (sink : K → SinkView) where
  -- what a run answers; a drill leaves the input as it was
  abbrev pub AnswersCommand : Option Command → S → S → K → K → Status → Option ArrangedView →
      Type 0
  AnswersCommand None input input' out out' status book =
      Answers source sink input input' 1 None out out' status book
  AnswersCommand (Some (Enumerate workers budget)) input input' out out' status book =
      Answers source sink input input' workers budget out out' status book
  AnswersCommand (Some Check) input input' out out' status book =
      AnswersCheck source sink input input' out out' status book
  AnswersCommand (Some (Drill size workers)) input input' out out' status book =
      (input' ≡ input) × SaysDrill sink size out out' status book

  -- how a run ends where no stream fails
  abbrev pub CompletesCommand : Option Command → S → S → K → K → Status → Type 0
  CompletesCommand None input input' out out' status = Unit {0}
  CompletesCommand (Some (Enumerate workers budget)) input input' out out' status =
      Completes source sink input input' budget out out' status
  CompletesCommand (Some Check) input input' out out' status =
      CompletesCheck source sink input input' out out' status
  CompletesCommand (Some (Drill size workers)) input input' out out' status =
      CompletesDrill sink out out' status
