-- What a run answers, by what it took from its input and put into its output.
use Rattle.std.specs.Prelude.{◌≡◌, ◌≢◌, ◌⊎◌, ℕ, ◌<◌, ◌^◌, true, length, Option, Some, None, Result, Ok, Err, List, [], ◌∷◌}
use Rattle.fault_io.specs.Bytes.{Consumes, Appends}
use Rattle.fault_io.specs.Faults.{Rose}
use Rattle.fault_io.specs.Sources.{SourceView}
use Rattle.fault_io.specs.Sinks.{SinkView, TakesBytes, TakesFront}
use Rattle.checkpoint.specs.SavedText.{saved_text}
use Rattle.cube_text.specs.Listing.{listing}
use Rattle.dimacs_front.specs.Whole.{reads}
use Rattle.dimacs_front.specs.Answers.{IsInput, IsWithinLimits, IsRefused, IsOpenLine, IsAskedFor, TellsText}
use Rattle.dimacs_front.specs.declared.input.Input.{Input}
use Rattle.dimacs_front.specs.declared.refused.TextRefused.{TextRefused}
use Rattle.dimacs_front.specs.declared.refused.ReadRefused.TheVariants.{Text}
use Rattle.region_book.specs.Machine.{Pending}
use Rattle.region_book.specs.Machine.{prefixes_of, AreLegal}
use Rattle.region_book.specs.Starts.{start_of}
use Rattle.region_book.specs.Books.{state_of}
use Rattle.region_book.specs.Arranged.{ArrangedView, IsArranged}
use Rattle.region_book.specs.Laws.{BeginsWhole, IsWhole}
use Rattle.worker_loop.specs.Sweeps.{AreUnheld, IsAllowed, is_spent}
use Rattle.allsat_run.specs.declared.status.Status.{Status}
use Rattle.allsat_run.specs.declared.status.Status.TheVariants.{Finished, WordsRefused, InputRefused, BudgetSpent, OutOfMemory, ReadFault, WriteFault}
use Rattle.allsat_run.specs.Status.{note_of}

-- A book of an input within the limits: its events were legal from the start that the input gives,
-- its lists are what they made, in order, and nobody holds a prefix. If the input begins with a
-- partition, and a plain text always does, the book is one.
pub record IsBookOf (input : Input) (a : ArrangedView) : Type 0 where
  pub limits : IsWithinLimits input
  pub subject : a.book.subject ≡ input.subject
  pub saved : a.book.saved ≡ input.saved
  pub legal : AreLegal input.subject.formula.clauses input.subject.shown 1 a.book.journal
      (start_of input.subject input.saved)
  pub arranged : IsArranged a
  pub unheld : AreUnheld a.pending
  pub whole : BeginsWhole input.subject input.saved →
      IsWhole input.subject (state_of a.book).spent a.published (prefixes_of a.pending)

-- One worker spends no more leaves than are allowed. Of more workers each may be at a leaf when the
-- budget is spent.
abbrev pub StaysWithin : ℕ → Option ℕ → ArrangedView → Type 0
StaysWithin workers budget a = workers ≡ 1 → IsAllowed budget (state_of a.book).spent

-- what the status says of the book
abbrev pub SaysOfBook : Option ℕ → Status → ArrangedView → Type 0
SaysOfBook budget Finished a = a.pending ≡ []
SaysOfBook budget BudgetSpent a =
    (a.pending ≢ []) × (is_spent budget (state_of a.book).spent ≡ true)
SaysOfBook budget OutOfMemory a = a.pending ≢ []
SaysOfBook budget WriteFault a = Unit {0}
SaysOfBook budget status a = ⊥

-- the listing of what is published, or the saved text where something is pending
abbrev pub text_with : List Pending → ArrangedView → List ℕ
text_with [] a = listing a.published
text_with (q ∷ qs) a = saved_text a.book.subject a.published (prefixes_of a.pending)

abbrev pub book_text : ArrangedView → List ℕ
book_text a = text_with a.pending a

-- the text is out, whole, the output did not fail, and it is finished
pub record IsWritten (before now : SinkView) (text : List ℕ) : Type 0 where
  pub appended : Appends before.held now.held text
  pub stands : now.faults ≡ before.faults
  pub ended : now.finished ≡ true

-- the text is written; at a write fault a front of it is out, and then the output failed
abbrev pub Writes : SinkView → SinkView → Status → List ℕ → Type 0
Writes before now WriteFault text = TakesFront before now text
Writes before now status text = IsWritten before now text

-- all the bytes taken say an input, the run ended with a book of it, and its text is written
pub record EndsWith (left : Option (List ℕ)) (taken : List ℕ) (workers : ℕ) (budget : Option ℕ)
    (before now : SinkView) (status : Status) (a : ArrangedView) : Type 0 where
  pub input : Input
  pub text : IsInput left taken input
  pub book : IsBookOf input a
  pub within : StaysWithin workers budget a
  pub says : SaysOfBook budget status a
  pub written : Writes before now status (book_text a)

-- the bytes taken are refused, and all the bytes that the input had are, where it tells them
pub record IsRefusedText (had left : Option (List ℕ)) (taken : List ℕ) (refused : TextRefused) :
    Type 0 where
  pub by_taken : IsRefused left taken refused
  pub by_all : TellsText had (Err (Text refused))

-- the input failed where the status is a read fault, and else it did not
abbrev pub CountsReadFault : ℕ → ℕ → Status → Type 0
CountsReadFault before now (ReadFault line) = Rose before now
CountsReadFault before now status = now ≡ before

-- a budget is given, and for an input that begins with a partition it is less than the number of
-- assignments of the shown variables
abbrev pub IsTooSmall : Option ℕ → Input → Type 0
IsTooSmall None input = ⊥
IsTooSmall (Some budget) input =
    BeginsWhole input.subject input.saved → budget < 2 ^ length input.subject.shown

-- how a run ends on a text that says this, where no stream fails and there is memory
abbrev pub EndsBy : Option ℕ → Result Input TextRefused → Status → Type 0
EndsBy budget (Ok input) status =
    (status ≡ Finished) ⊎ ((status ≡ BudgetSpent) × IsTooSmall budget input)
EndsBy budget (Err refused) status = status ≡ InputRefused refused

-- A source and a sink with what they show, of which each is given as it was and as it is.
module _ {S K : Type 0} (source : S → SourceView) (sink : K → SinkView) where
  -- what the status says where there is no book: nothing is written; for refused words the input
  -- is as it was, too
  abbrev pub SaysAlone : S → S → List ℕ → Status → Type 0
  SaysAlone input input' taken WordsRefused = (taken ≡ []) × (input' ≡ input)
  SaysAlone input input' taken (InputRefused refused) =
      IsRefusedText (source input).left (source input').left taken refused
  SaysAlone input input' taken (ReadFault line) = IsOpenLine taken line
  SaysAlone input input' taken OutOfMemory = Unit {0}
  SaysAlone input input' taken status = ⊥

  -- what status and book say of the bytes taken and of the output
  abbrev pub Says :
      S → S → List ℕ → ℕ → Option ℕ → K → K → Status → Option ArrangedView → Type 0
  Says input input' taken workers budget out out' status (Some a) =
      EndsWith (source input').left taken workers budget (sink out) (sink out') status a
  Says input input' taken workers budget out out' status None =
      SaysAlone input input' taken status × (out' ≡ out)

  -- some bytes were taken, none of them in vain, and status and book are right for them
  pub record Answers (input input' : S) (workers : ℕ) (budget : Option ℕ) (out out' : K)
      (status : Status) (book : Option ArrangedView) : Type 0 where
    pub taken : List ℕ
    pub consumed : Consumes (source input).left (source input').left taken
    pub asked : IsAskedFor taken
    pub counted : CountsReadFault (source input).faults (source input').faults status
    pub says : Says input input' taken workers budget out out' status book

  -- neither stream failed: the run ends as the text says, or there was no memory
  abbrev pub Completes : S → S → Option ℕ → K → K → Status → Type 0
  Completes input input' budget out out' status =
      (text : List ℕ) → (source input).left ≡ Some text →
      ¬ Rose (source input).faults (source input').faults →
      ¬ Rose (sink out).faults (sink out').faults →
      EndsBy budget (reads text) status ⊎ (status ≡ OutOfMemory)

module _ {K : Type 0} (sink : K → SinkView) where
  -- the line of the status is on the notes, or a front of it is and then they failed; a finished
  -- run leaves them as they were
  abbrev pub Notes : K → K → Status → Type 0
  Notes notes notes' Finished = notes' ≡ notes
  Notes notes notes' status =
      TakesBytes (sink notes) (sink notes') (note_of status) ⊎
      TakesFront (sink notes) (sink notes') (note_of status)
