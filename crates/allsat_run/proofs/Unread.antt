-- A run that gets no input ends as it promises.
use Rattle.std.proofs.Common.{◌≡◌, ◌≢◌, ◌⊎◌, ℕ, List, Option, Some, None, Err, refl, sym, subst, inl, inr}
use Rattle.fault_io.specs.Faults.{Rose}
use Rattle.fault_io.specs.Sources.{SourceView}
use Rattle.fault_io.specs.Sinks.{SinkView}
use Rattle.dimacs_front.specs.declared.refused.TextRefused.{TextRefused}
use Rattle.dimacs_front.specs.declared.refused.ReadRefused.TheVariants.{Text}
use Rattle.dimacs_front.specs.Answers.{TellsText}
use Rattle.dimacs_front.specs.Whole.{reads}
use Rattle.region_book.specs.Arranged.{ArrangedView}
use Rattle.allsat_run.specs.declared.status.Status.{Status}
use Rattle.allsat_run.specs.declared.status.Status.TheVariants.{Finished, WordsRefused, InputRefused, BudgetSpent, OutOfMemory, ReadFault, WriteFault, CheckedNo}
use Rattle.allsat_run.specs.Run.{CountsReadFault, SaysAlone, Says, Answers, EndsBy, Completes}
use Rattle.allsat_run.specs.Checking.{SaysCheck, AnswersCheck, EndsCheck, CompletesCheck}
use Rattle.allsat_run.specs.Reading.{SaysUnread, EndsUnread}

unread_words : (had left : Option (List ℕ)) (taken : List ℕ) (status : Status) → SaysUnread had left taken status → status ≢ WordsRefused
unread_words had left taken WordsRefused h e = h
unread_words had left taken (InputRefused r) h e = cc
unread_words had left taken (ReadFault line) h e = cc
unread_words had left taken OutOfMemory h e = cc
unread_words had left taken Finished h e = h
unread_words had left taken BudgetSpent h e = h
unread_words had left taken WriteFault h e = h
unread_words had left taken (CheckedNo v) h e = h

pub no_words : (old new : SourceView) (status : Status) → EndsUnread old new status → status ≢ WordsRefused
no_words old new status ends = unread_words old.left new.left ends.taken status ends.says

-- where the input tells its bytes, and did not fail, they are refused, or there was no memory
pub refused_or_memory : (old new : SourceView) (status : Status) (text : List ℕ) → EndsUnread old new status → old.left ≡ Some text → ¬ Rose old.faults new.faults →
    ((r : TextRefused) × (reads text ≡ Err r) × (status ≡ InputRefused r)) ⊎ (status ≡ OutOfMemory)
refused_or_memory old new status text ends is calm = cases status ends.says ends.counted
  where
    cases : (s : Status) → SaysUnread old.left new.left ends.taken s → CountsReadFault old.faults new.faults s →
        ((r : TextRefused) × (reads text ≡ Err r) × (s ≡ InputRefused r)) ⊎ (s ≡ OutOfMemory)
    cases (InputRefused r) h counted = inl (r, subst (λ left. TellsText left (Err (Text r))) is h.by_all, refl)
    cases (ReadFault line) h counted = absurd (calm counted)
    cases OutOfMemory h counted = inr refl
    cases WordsRefused h counted = absurd h
    cases Finished h counted = absurd h
    cases BudgetSpent h counted = absurd h
    cases WriteFault h counted = absurd h
    cases (CheckedNo v) h counted = absurd h

module _ {S K : Type 0} (source : S → SourceView) (sink : K → SinkView) (input input' : S) (out : K) where
  alone : (taken : List ℕ) (status : Status) → SaysUnread (source input).left (source input').left taken status → SaysAlone source sink input input' taken status
  alone taken (InputRefused r) h = h
  alone taken (ReadFault line) h = h
  alone taken OutOfMemory h = h
  alone taken WordsRefused h = absurd h
  alone taken Finished h = h
  alone taken BudgetSpent h = h
  alone taken WriteFault h = h
  alone taken (CheckedNo v) h = h

  pub answers_unread : (workers : ℕ) (budget : Option ℕ) (status : Status) (book : Option ArrangedView) → EndsUnread (source input) (source input') status → book ≡ None →
      Answers source sink input input' workers budget out out status book
  answers_unread workers budget status book ends none = record {
    taken = ends.taken;
    consumed = ends.consumed;
    asked = ends.asked;
    counted = ends.counted;
    says = subst (λ b. Says source sink input input' ends.taken workers budget out out status b) (sym none) (alone ends.taken status ends.says, refl);
  }

  says_check : (taken : List ℕ) (status : Status) → SaysUnread (source input).left (source input').left taken status → SaysCheck source sink input input' taken out out status
  says_check taken (InputRefused r) h = (inl h, refl)
  says_check taken (ReadFault line) h = (h, refl)
  says_check taken OutOfMemory h = (h, refl)
  says_check taken WordsRefused h = absurd h
  says_check taken Finished h = absurd h
  says_check taken BudgetSpent h = absurd h
  says_check taken WriteFault h = absurd h
  says_check taken (CheckedNo v) h = absurd h

  pub check_unread : (status : Status) (book : Option ArrangedView) → EndsUnread (source input) (source input') status → book ≡ None →
      AnswersCheck source sink input input' out out status book
  check_unread status book ends none = record {
    taken = ends.taken;
    consumed = ends.consumed;
    asked = ends.asked;
    counted = ends.counted;
    says = says_check ends.taken status ends.says;
    alone = none;
  }

  pub completes_unread : (budget : Option ℕ) (status : Status) → EndsUnread (source input) (source input') status → Completes source sink input input' budget out out status
  completes_unread budget status ends text is calm calm_out =
      elim (refused_or_memory (source input) (source input') status text ends is calm) [
        | inl refused ↦ inl (subst (λ x. EndsBy budget x status) (sym refused.1) refused.2)
        | inr memory ↦ inr memory
      ]

  pub check_completes_unread : (status : Status) → EndsUnread (source input) (source input') status → CompletesCheck source sink input input' out out status
  check_completes_unread status ends text is calm calm_out =
      elim (refused_or_memory (source input) (source input') status text ends is calm) [
        | inl refused ↦ inl (subst (λ x. EndsCheck x status) (sym refused.1) refused.2)
        | inr memory ↦ inr memory
      ]
