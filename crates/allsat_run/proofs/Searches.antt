-- What a sweep of a new book comes to is what the run promises of its book.
use Rattle.std.proofs.Common.{◌≡◌, ◌≢◌, ◌≤◌, Result, Ok, Err, is_ok, IfOk, ℕ, suc, true, false, List, [], ◌∷◌, length, ℤ, Option, Some, None, refl, sym, ap, subst, ◌∙◌, arith, leb-true}
use Rattle.std.proofs.lemmas.Bool.{both_ways}
use Rattle.std.proofs.lemmas.List.Elements.{All-nil, All-cons}
use Rattle.std.proofs.lemmas.List.Sorted.{All-permutation, length_permutation}
use Rattle.std.specs.List.Sorted.{IsPermutation}
use Rattle.sat_terms.specs.declared.subject.Subject.{Subject}
use Rattle.checkpoint.specs.declared.saved.Saved.{Saved}
use Rattle.dimacs_front.specs.Answers.{IsWithinLimits, IsSavedOf}
use Rattle.dimacs_front.specs.declared.input.Input.{Input}
use Rattle.live_engine.specs.Engines.{EngineView}
use Rattle.region_book.specs.Machine.{Pending}
use Rattle.region_book.specs.Machine.{numbered, prefixes_of, AreLegal}
use Rattle.region_book.specs.Starts.{start_of, AreSavedLines, CanBegin}
use Rattle.region_book.specs.Books.{BookView, state_of}
use Rattle.region_book.specs.Arranged.{ArrangedView, IsArranged}
use Rattle.region_book.specs.Journalled.{BookBasis, basis_of}
use Rattle.region_ledger.specs.Hands.{LedgerView}
use Rattle.region_book.specs.Laws.{BeginsWhole, IsWhole}
use Rattle.region_book.proofs.Arranging.{arranged_is_whole, pending_weighs}
use Rattle.worker_loop.specs.Sweeps.{AreUnheld, IsBetweenJobs, GrowsFrom, IsAllowed, is_spent, EndsSweep}
use Rattle.worker_loop.specs.declared.sweeping.Swept.{Swept}
use Rattle.worker_loop.specs.declared.sweeping.Swept.TheVariants.{Finished as Swept_all, BudgetSpent as Swept_some}
use Rattle.allsat_run.specs.declared.status.Status.{Status}
use Rattle.allsat_run.specs.declared.status.Status.TheVariants.{Finished, WordsRefused, InputRefused, BudgetSpent, OutOfMemory, ReadFault, WriteFault, CheckedNo}
use Rattle.allsat_run.specs.Run.{IsBookOf, IsTooSmall, SaysOfBook}
use Rattle.allsat_run.specs.Searches.{Searches, EndsSearch, EndsShared, CanEnd}

-- a new book
abbrev pub new_book : Subject → Option Saved → BookView
new_book s saved = record { subject = s; saved = saved; passes = 1; journal = [] }

numbered_unheld : (j i : ℕ) (cs : List (List ℤ)) → AreUnheld (numbered j i cs)
numbered_unheld j i [] = All-nil (λ q. q.holder ≡ None)
numbered_unheld j i (c ∷ cs) = All-cons (λ q. q.holder ≡ None) (record { number = record { place = j; index = i }; prefix = c; holder = None }) (numbered j (suc i) cs) refl (numbered_unheld j (suc i) cs)

start_unheld : (s : Subject) (saved : Option Saved) → AreUnheld (start_of s saved).pending
start_unheld s None = numbered_unheld 0 0 (s.under ∷ [])
start_unheld s (Some saved) = numbered_unheld 0 0 saved.pending

start_allowed : (budget : Option ℕ) (s : Subject) (saved : Option Saved) → IsAllowed budget (start_of s saved).spent
start_allowed None s saved = tt
start_allowed (Some budget) s None = omega arith
start_allowed (Some budget) s (Some saved) = omega arith

pub begins_between : (s : Subject) (saved : Option Saved) (book : BookView) (e : EngineView) → book ≡ new_book s saved → e.job ≡ None → e.subject ≡ s → IsBetweenJobs book e
begins_between s saved book e new idle of = subst (λ b. IsBetweenJobs b e) (sym new) (record { unheld = start_unheld s saved; idle = idle; same = of })

pub new_is_allowed : (budget : Option ℕ) (s : Subject) (saved : Option Saved) (book : BookView) → book ≡ new_book s saved → IsAllowed budget (state_of book).spent
new_is_allowed budget s saved book new = subst (λ b. IsAllowed budget (state_of b).spent) (sym new) (start_allowed budget s saved)

-- an input that was read gives a book
saved_lines : (p : List ℕ) (u : List ℤ) (saved : Option Saved) → IsSavedOf p u saved → (lines : Saved) → saved ≡ Some lines → AreSavedLines p lines
saved_lines p u None of lines e = (let bad : None ≡ Some lines = e in absurd cc)
saved_lines p u (Some read) of lines e =
    let given : Some read ≡ Some lines = e in
    let same : read ≡ lines = cc in
    subst (AreSavedLines p) same (record { cubes = of.cubes.over; pending = of.pending.over; few = of.few })

pub can_begin : (input : Input) (passes : ℕ) → IsWithinLimits input → IsSavedOf input.subject.shown input.subject.under input.saved → 1 ≤ passes → passes ≤ 16 → CanBegin input.subject input.saved passes
can_begin input passes limits of some few = record {
  subject_is = limits.subject;
  saved_is = saved_lines input.subject.shown input.subject.under input.saved of;
  some = some;
  most = few;
}

-- the book of a search that has ended is one of the input
is_book_of : (input : Input) (old : BookView) (budget : Option ℕ) (status : Status) (a : ArrangedView) → IsWithinLimits input → EndsSearch old budget status a →
    a.book.subject ≡ input.subject → a.book.saved ≡ input.saved → IsBookOf input a
is_book_of input old budget status a limits ends subject saved = record {
  limits = limits;
  subject = subject;
  saved = saved;
  legal = legal_for a.book.subject input.subject a.book.saved input.saved subject saved ends.legal;
  arranged = ends.arranged;
  unheld = ends.unheld;
  whole = λ begins. whole_for a.book.subject input.subject subject (arranged_is_whole a ends.begins ends.arranged ends.legal (begins_for a.book.subject input.subject a.book.saved input.saved subject saved begins));
}
  where
    legal_for : (s r : Subject) (saved read : Option Saved) → s ≡ r → saved ≡ read → AreLegal s.formula.clauses s.shown 1 a.book.journal (start_of s saved) → AreLegal r.formula.clauses r.shown 1 a.book.journal (start_of r read)
    legal_for s r saved read one two legal =
        subst (λ x. AreLegal r.formula.clauses r.shown 1 a.book.journal (start_of r x)) two
        (subst (λ (x : Subject). AreLegal x.formula.clauses x.shown 1 a.book.journal (start_of x saved)) one legal)

    begins_for : (s r : Subject) (saved read : Option Saved) → s ≡ r → saved ≡ read → BeginsWhole r read → BeginsWhole s saved
    begins_for s r saved read one two begins = subst (λ x. BeginsWhole s x) (sym two) (subst (λ x. BeginsWhole x read) (sym one) begins)

    whole_for : (s r : Subject) → s ≡ r → IsWhole s (state_of a.book).spent a.published (prefixes_of a.pending) → IsWhole r (state_of a.book).spent a.published (prefixes_of a.pending)
    whole_for s r one whole = subst (λ x. IsWhole x (state_of a.book).spent a.published (prefixes_of a.pending)) one whole

-- a budget that is spent while something is pending is less than the space
spent_is_too_small : (input : Input) (budget : Option ℕ) (a : ArrangedView) → IsBookOf input a → a.pending ≢ [] → is_spent budget (state_of a.book).spent ≡ true → IsTooSmall budget input
spent_is_too_small input None a of some spent = both_ways false refl spent
spent_is_too_small input (Some budget) a of some spent =
    λ begins.
    let paid = (of.whole begins).paid in
    let left = pending_weighs (length input.subject.shown) a.pending some in
    let all = leb-true budget (state_of a.book).spent spent in
    omega arith

-- what the search of a book comes to that was swept last
pub ends_search : (old last : BookView) (budget : Option ℕ) (e : EngineView) (status : Status) (a : ArrangedView) → GrowsFrom old last → IsBetweenJobs last e → CanBegin last.subject last.saved last.passes →
    a.book ≡ last → IsArranged a → AreLegal last.subject.formula.clauses last.subject.shown 1 last.journal (start_of last.subject last.saved) →
    (IsAllowed budget (state_of old).spent → IsAllowed budget (state_of last).spent) → SaysOfBook budget status a → status ≢ WriteFault → EndsSearch old budget status a
ends_search old last budget e status a grows between can same arranged legal allowed says unwritten = record {
  subject = ap (λ (b : BookView). b.subject) same ∙ grows.subject;
  saved = ap (λ (b : BookView). b.saved) same ∙ grows.saved;
  begins = subst (λ (b : BookView). CanBegin b.subject b.saved b.passes) (sym same) can;
  legal = subst (λ (b : BookView). AreLegal b.subject.formula.clauses b.subject.shown 1 b.journal (start_of b.subject b.saved)) (sym same) legal;
  arranged = arranged;
  unheld = All-permutation (λ q. q.holder ≡ None) (state_of a.book).pending a.pending arranged.pending (subst (λ b. AreUnheld (state_of b).pending) (sym same) between.unheld);
  allowed = λ before. subst (λ b. IsAllowed budget (state_of b).spent) (sym same) (allowed before);
  says = says;
  unwritten = unwritten;
}

-- so the search of a book is one of its input
pub searches_of : (input : Input) (old : BookView) (budget : Option ℕ) (status : Status) (a : ArrangedView) → IsWithinLimits input → EndsSearch old budget status a →
    old.subject ≡ input.subject → old.saved ≡ input.saved → Searches input budget status a
searches_of input old budget status a limits ends subject saved =
    let of = is_book_of input old budget status a limits ends (ends.subject ∙ subject) (ends.saved ∙ saved) in
    record { book = of; says = ends.says; ends = can_end status of ends.says ends.unwritten }
  where
    can_end : (status : Status) → IsBookOf input a → SaysOfBook budget status a → status ≢ WriteFault → CanEnd budget input status
    can_end Finished of says unwritten = tt
    can_end BudgetSpent of says unwritten = spent_is_too_small input budget a of says.0 says.1
    can_end OutOfMemory of says unwritten = tt
    can_end WordsRefused of says unwritten = says
    can_end (InputRefused r) of says unwritten = says
    can_end (ReadFault line) of says unwritten = says
    can_end (CheckedNo verdict) of says unwritten = says
    can_end WriteFault of says unwritten = absurd (unwritten refl)

-- and so is that of a ledger whose book was a new one of the input
pub shared_searches : (input : Input) (l : LedgerView) (book : BookView) (passes : ℕ) (budget : Option ℕ) (status : Status) (a : ArrangedView) → IsWithinLimits input → EndsShared l budget status a →
    l.fixed ≡ basis_of book → basis_of book ≡ (input.subject, input.saved, passes) → Searches input budget status a
shared_searches input l book passes budget status a limits ends one two =
    let basis : basis_of ends.closed ≡ (input.subject, input.saved, passes) = ends.basis ∙ one ∙ two in
    searches_of input ends.closed budget status a limits ends.ends (ap (λ (b : BookBasis). b.0) basis) (ap (λ (b : BookBasis). b.1) basis)

-- nobody holds a prefix of a new book
pub new_is_unheld : (s : Subject) (saved : Option Saved) (passes : ℕ) (book : BookView) → book ≡ record { subject = s; saved = saved; passes = passes; journal = [] } → AreUnheld (state_of book).pending
new_is_unheld s saved passes book new = subst (λ b. AreUnheld (state_of b).pending) (sym new) (start_unheld s saved)

-- ---- how the sweep ended

none_left : (ps qs : List Pending) → IsPermutation ps qs → ps ≡ [] → qs ≡ []
none_left ps [] perm none = refl
none_left ps (q ∷ qs) perm none =
    let long = length_permutation ps (q ∷ qs) perm in
    let short : length ps ≡ 0 = ap length none in
    absurd (omega arith)

ends_spent : {E : Type 0} (budget : Option ℕ) (last : BookView) (r : Result Swept E) (ps : List Pending) → IsPermutation (state_of last).pending ps → ps ≢ [] →
    IfOk r (EndsSweep budget last) → true ≡ is_ok r → is_spent budget (state_of last).spent ≡ true
ends_spent budget last (Ok Swept_all) ps perm some ends ok = absurd (some (none_left (state_of last).pending ps perm ends))
ends_spent budget last (Ok Swept_some) ps perm some ends ok = ends.1
ends_spent budget last (Err e) ps perm some ends ok = absurd (both_ways false refl (sym ok))

pub is_spent_book : {E : Type 0} (budget : Option ℕ) (last : BookView) (r : Result Swept E) (a : ArrangedView) → a.book ≡ last → IsArranged a → a.pending ≢ [] →
    IfOk r (EndsSweep budget last) → true ≡ is_ok r → is_spent budget (state_of a.book).spent ≡ true
is_spent_book budget last r a same arranged some ends ok =
    ap (λ b. is_spent budget (state_of b).spent) same
    ∙ ends_spent budget last r a.pending (subst (λ b. IsPermutation (state_of b).pending a.pending) same arranged.pending) some ends ok
