-- A turn of a pass at the ledger's book: what it may do there, and what it holds afterwards.
use Rattle.std.proofs.Common.{◌≡◌, ◌≢◌, ℕ, suc, ◌<◌, nat_eq, List, [], ◌++◌, filter, length, ℤ, Option, Some, None, Result, Ok, Err, IfOk, IfErr, refl, sym, ap, ap₂, subst, ◌∙◌}
use Rattle.std.specs.List.{find}
use Rattle.std.specs.declared.alloc.AllocError.{AllocError}
use Rattle.std.proofs.lemmas.List.Elements.{filter-append}
use Rattle.turn_cell.specs.Rule.{entries_of}
use Rattle.turn_cell.specs.Passes.{IsPassOf, TookTurn}
use Rattle.turn_cell.proofs.Lists.{entries_all, All-Has}
use Rattle.sat_terms.specs.Cubes.{IsCube}
use Rattle.prefix_jobs.specs.declared.number.Number.{Number}
use Rattle.prefix_jobs.specs.declared.outcome.Outcome.{Outcome}
use Rattle.region_book.specs.declared.answers.Taken.{Taken}
use Rattle.region_book.specs.declared.answers.Taken.TheVariants.{Held, Gone}
use Rattle.region_book.specs.declared.answers.Reported.{Reported}
use Rattle.region_book.specs.declared.event.Event.{Event}
use Rattle.region_book.specs.declared.event.Event.TheVariants.{Take, Report, Release}
use Rattle.region_book.specs.Machine.{BookState, has_number, is_free, is_held_by, held_by, edit_first, let_go, taken_out, kept_part, step, FitsFound, AreLegal, pass_of}
use Rattle.region_book.specs.Pages.{prefix_of}
use Rattle.region_book.specs.Starts.{start_of}
use Rattle.region_book.specs.Books.{BookView, state_of, replay, with_event}
use Rattle.region_book.specs.Journalled.{BookBasis, journal_of, basis_of}
use Rattle.region_book.proofs.Owned.{after_event, held_since, found_held, held_out, held_taken, held_reported}
use Rattle.region_book.proofs.Prefixes.{found_over, book_over}
use Rattle.region_ledger.specs.Hands.{LedgerView, HandView, subject_of, saved_lines_of, held, IsHandOf, holding}
use Rattle.region_ledger.specs.Calls.{IsLegalBook, IsDueBook, TakeDoes, TakeAnyDoes, ReportDoes, prefix_taken, holding_any}

-- ---- the book that is found

abbrev state_on : BookBasis → List Event → BookState
state_on basis events = replay basis.0 basis.1 events

abbrev HasCube : List ℕ → Option (Number × List ℤ) → Type 0
HasCube p None = Unit {0}
HasCube p (Some (n, c)) = IsCube p c

module _ (l : LedgerView) (p : HandView) (hand : IsHandOf l p) (x : BookView) (due : IsDueBook l p x) where
  -- it has the pass hold what the pass knows
  pub due_held : held_by p.number (state_of x).pending ≡ held l p
  due_held =
      let more = due.begins.0 in
      let whole : p.seen ++ more ≡ x.journal = due.begins.1 in
      let same : filter (λ e. nat_eq (pass_of e) p.number) (p.seen ++ more) ≡ filter (λ e. nat_eq (pass_of e) p.number) p.seen =
      ap (filter (λ e. nat_eq (pass_of e) p.number)) whole ∙ due.own ∙ hand.own in
      ap₂ (λ basis events. held_by p.number (state_on basis events).pending) due.same (sym whole)
      ∙ held_since p.number p.seen more (start_of (subject_of l) (saved_lines_of l)) same

  -- and is for it
  pub due_pass : p.number < x.passes
  due_pass = subst (λ (basis : BookBasis). p.number < basis.2) (sym due.same) hand.number

  pub due_found : (n : Number) → find (is_held_by p.number n) (state_of x).pending ≡ find (has_number n) (held l p)
  due_found n = found_held p.number n (state_of x).pending ∙ ap (find (has_number n)) due_held

  pub due_fits : (n : Number) (o : Outcome) → FitsFound (subject_of l).formula.clauses (subject_of l).shown (find (has_number n) (held l p)) o →
      FitsFound x.subject.formula.clauses x.subject.shown (find (is_held_by p.number n) (state_of x).pending) o
  due_fits n o fits =
      subst (λ (basis : BookBasis). FitsFound basis.0.formula.clauses basis.0.shown (find (is_held_by p.number n) (state_of x).pending) o) (sym due.same)
      (subst (λ q. FitsFound (subject_of l).formula.clauses (subject_of l).shown q o) (sym (due_found n)) fits)

  pub due_some : (n : Number) → find (has_number n) (held l p) ≢ None → find (is_held_by p.number n) (state_of x).pending ≢ None
  due_some n some = λ none. some (sym (due_found n) ∙ none)

-- ---- the pass after its turn

module _ {A : Type 0} (does : BookView → ℕ → BookView → A → Type 0) (l : LedgerView) (p q : HandView) (answer : A)
    (hand : IsHandOf l p) (turn : TookTurn journal_of pass_of basis_of does l p q answer) where
  left_basis : basis_of turn.left ≡ l.fixed
  left_basis = turn.entered.same ∙ turn.due.same

  own_after : q.own ≡ entries_of pass_of q.number q.seen
  own_after =
      let added = turn.entered.added in
      let new : entries_of pass_of p.number added ≡ added = entries_all pass_of p.number added (λ e has. All-Has (λ x. pass_of x ≡ p.number) added turn.entered.number e has) in
      let all : entries_of pass_of p.number turn.left.journal ≡ p.own ++ added =
      ap (entries_of pass_of p.number) turn.entered.grows ∙ filter-append (λ e. nat_eq (pass_of e) p.number) turn.found.journal added
      ∙ ap₂ (λ x y. x ++ y) turn.due.own new in
      turn.seen.own ∙ sym all ∙ ap₂ (λ n events. entries_of pass_of n events) (sym turn.seen.number) (sym turn.seen.seen)

  pub hand_after : IsPassOf l q → IsLegalBook turn.left → IsHandOf l q
  hand_after pass is = record {
    pass = pass;
    number = subst (λ n. n < l.fixed.2) (sym turn.seen.number) hand.number;
    own = own_after;
    legal = subst (λ (events : List Event). AreLegal (subject_of l).formula.clauses (subject_of l).shown 1 events (start_of (subject_of l) (saved_lines_of l))) (sym turn.seen.seen)
        (subst (λ (basis : BookBasis). AreLegal basis.0.formula.clauses basis.0.shown 1 turn.left.journal (start_of basis.0 basis.1)) left_basis is.legal);
  }

  -- what it holds is what the book that it left has it hold
  held_after : held l q ≡ held_by p.number (state_of turn.left).pending
  held_after =
      ap₂ (λ n events. held_by n (state_on l.fixed events).pending) turn.seen.number turn.seen.seen
      ∙ ap (λ basis. held_by p.number (state_on basis turn.left.journal).pending) (sym left_basis)

  held_before : held_by p.number (state_of turn.found).pending ≡ held l p
  held_before = due_held l p hand turn.found turn.due

  pub held_same : turn.left ≡ turn.found → held l q ≡ held l p
  held_same same = held_after ∙ ap (λ (b : BookView). held_by p.number (state_of b).pending) same ∙ held_before

  held_event : (e : Event) → turn.left ≡ with_event e turn.found →
      held l q ≡ held_by p.number (step (suc (length turn.found.journal)) e (state_of turn.found)).pending
  held_event e is = held_after ∙ ap (λ (s : BookState). held_by p.number s.pending) (after_event turn.found turn.left e is)

  -- after a take, where it held nothing
  held_take : (n : Number) (c : List ℤ) → held l p ≡ [] → turn.left ≡ with_event (Take p.number n) turn.found → prefix_of (find (is_free n) (state_of turn.found).pending) ≡ Some c →
      held l q ≡ holding p.number n (Some c)
  held_take n c none is found = held_event (Take p.number n) is ∙ held_taken p.number n c (state_of turn.found).pending (held_before ∙ none) found

  pub held_by_take : (n : Number) (r : Result Taken AllocError) → TakeDoes p.number n r turn.found turn.left → IfOk r (λ taken. held l p ≡ [] → held l q ≡ holding p.number n (prefix_taken taken))
  held_by_take n (Ok (Held c)) did = λ none. held_take n c none did.0 did.1
  held_by_take n (Ok Gone) did = λ none. held_same did.0 ∙ none
  held_by_take n (Err e) did = tt

  pub held_by_take_any : (r : Result (Option (Number × List ℤ)) AllocError) → TakeAnyDoes p.number r turn.found turn.left → IfOk r (λ taken. held l p ≡ [] → held l q ≡ holding_any p.number taken)
  held_by_take_any (Ok (Some (n, c))) did = λ none. held_take n c none did.1.0 did.1.1
  held_by_take_any (Ok None) did = λ none. held_same did.0 ∙ none
  held_by_take_any (Err e) did = tt

  pub same_by_take : (n : Number) (r : Result Taken AllocError) → TakeDoes p.number n r turn.found turn.left → IfErr r (λ _. held l q ≡ held l p)
  same_by_take n (Ok taken) did = tt
  same_by_take n (Err e) did = held_same did

  pub same_by_take_any : (r : Result (Option (Number × List ℤ)) AllocError) → TakeAnyDoes p.number r turn.found turn.left → IfErr r (λ _. held l q ≡ held l p)
  same_by_take_any (Ok taken) did = tt
  same_by_take_any (Err e) did = held_same did

  -- after a report
  pub held_by_report : (n : Number) (o : Outcome) (r : Result Reported (Outcome × AllocError)) → FitsFound (subject_of l).formula.clauses (subject_of l).shown (find (has_number n) (held l p)) o →
      ReportDoes p.number n o r turn.found turn.left →
      IfOk r (λ said. held l q ≡ edit_first (has_number n) taken_out (held l p) ++ kept_part said.place (length o.rest) p.number o.kept)
  held_by_report n o (Ok said) fits did =
      let s = state_of turn.found in
      let place : said.place ≡ suc (length turn.found.journal) = ap (λ (x : Reported). x.place) did.answers in
      held_event (Report p.number n o) did.event
      ∙ held_reported p.number turn.found.subject.formula.clauses turn.found.subject.shown (suc (length turn.found.journal)) n o (find (is_held_by p.number n) s.pending) s (due_fits l p hand turn.found turn.due n o fits)
      ∙ ap₂ (λ hs j. edit_first (has_number n) taken_out hs ++ kept_part j (length o.rest) p.number o.kept) held_before (sym place)
  held_by_report n o (Err refused) fits did = tt

  pub same_by_report : (n : Number) (o : Outcome) (r : Result Reported (Outcome × AllocError)) → ReportDoes p.number n o r turn.found turn.left → IfErr r (λ _. held l q ≡ held l p)
  same_by_report n o (Ok said) did = tt
  same_by_report n o (Err refused) did = held_same did.0

  -- after a release
  pub held_by_release : (n : Number) → turn.left ≡ with_event (Release p.number n) turn.found → held l q ≡ edit_first (has_number n) taken_out (held l p)
  held_by_release n is =
      held_event (Release p.number n) is ∙ held_out p.number n let_go (λ r. refl) (state_of turn.found).pending
      ∙ ap (edit_first (has_number n) taken_out) held_before

  -- ---- what it takes is a cube

  taken_cube : IsLegalBook turn.found → (n : Number) (c : List ℤ) → prefix_of (find (is_free n) (state_of turn.found).pending) ≡ Some c → IsCube (subject_of l).shown c
  taken_cube was n c found =
      let b = turn.found in
      subst (λ (basis : BookBasis). IsCube basis.0.shown c) turn.due.same
      (found_over b.subject.formula.clauses b.subject.shown (is_free n) c (state_of b).pending (book_over b.subject b.saved b.passes b.journal was.begins was.legal) found)

  pub cube_by_take : IsLegalBook turn.found → (n : Number) (r : Result Taken AllocError) → TakeDoes p.number n r turn.found turn.left → IfOk r (λ taken. (c : List ℤ) → prefix_taken taken ≡ Some c → IsCube (subject_of l).shown c)
  cube_by_take was n (Ok (Held d)) did = λ c same. taken_cube was n c (did.1 ∙ same)
  cube_by_take was n (Ok Gone) did = λ c same. absurd (let bad : None ≡ Some c = same in cc)
  cube_by_take was n (Err e) did = tt

  pub cube_by_take_any : IsLegalBook turn.found → (r : Result (Option (Number × List ℤ)) AllocError) → TakeAnyDoes p.number r turn.found turn.left →
      IfOk r (λ taken. (n : Number) (c : List ℤ) → taken ≡ Some (n, c) → IsCube (subject_of l).shown c)
  cube_by_take_any was (Ok (Some (m, d))) did = λ n c same. subst (HasCube (subject_of l).shown) same (taken_cube was m d did.1.1)
  cube_by_take_any was (Ok None) did = λ n c same. subst (HasCube (subject_of l).shown) same tt
  cube_by_take_any was (Err e) did = tt
