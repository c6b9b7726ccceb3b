-- A book after one event more.
use Rattle.std.proofs.Common.{◌≡◌, ◌≢◌, ℕ, suc, ◌+◌, ◌<◌, ◌^◌, Bool, true, false, not, is_some, is_none, is_lt, List, [], ◌∷◌, ◌++◌, filter, map, length, get_or, ℤ, Option, Some, None, Result, Ok, Err, IfOk, IfErr, refl, sym, ap, ap₂, subst, subst₂, ◌∙◌, inl, inr, arith, lit<}
use Rattle.std.specs.declared.alloc.AllocError.{AllocError}
use Rattle.std.specs.List.{All, find, list_any}
use Rattle.std.proofs.lemmas.Bool.{both_ways, cases_Bool}
use Rattle.std.proofs.lemmas.List.{length-map, get_or-map}
use Rattle.std.proofs.lemmas.List.Elements.{All-head}
use Rattle.prefix_jobs.specs.declared.number.Number.{Number}
use Rattle.prefix_jobs.specs.declared.outcome.Outcome.{Outcome}
use Rattle.region_book.specs.declared.answers.Taken.{Taken}
use Rattle.region_book.specs.declared.answers.Taken.TheVariants.{Held, Gone}
use Rattle.region_book.specs.declared.answers.Reported.{Reported}
use Rattle.region_book.specs.declared.event.Event.TheVariants.{Take, Report}
use Rattle.sat_terms.specs.declared.subject.Subject.{Subject}
use Rattle.checkpoint.specs.declared.saved.Saved.{Saved}
use Rattle.region_book.specs.declared.event.Event.{Event}
use Rattle.region_book.specs.declared.pages.Pages.{Pages}
use Rattle.region_book.specs.Machine.{Pending}
use Rattle.region_book.specs.Machine.{BookState, prefixes_of, is_free, is_held_by, FitsFound, step, steps_from, numbered, IsLegalAt, AreLegal}
use Rattle.std.specs.List.Sorted.{IsPermutation, IsSorted}
use Rattle.std.proofs.lemmas.List.Sorted.{IsPermutation-append_left, IsPermutation-map, IsPermutation-trans}
use Rattle.sat_terms.specs.CubeOrder.{cube_order}
use Rattle.region_book.specs.Arranged.{prefix_order, KeepsArranged}
use Rattle.cube_merge.specs.Names.{name_order, names_from}
use Rattle.cube_merge.specs.declared.name.CubeName.{CubeName}
use Rattle.cube_merge.specs.Parts.{all_names}
use Rattle.region_book.specs.declared.slot.Slot.{Slot}
use Rattle.region_book.specs.declared.slot.Standing.TheVariants.{Free}
use Rattle.region_book.specs.Found.{saved_cubes, brought_by, cube_at, named_cubes}
use Rattle.region_book.specs.Prefixes.{first_prefixes, prefix_at}
use Rattle.region_book.specs.Slots.{is_live, is_held_slot, live_of, pending_of}
use Rattle.region_book.proofs.Named.{named_more, names_name}
use Rattle.region_book.proofs.Left.{older_live, names_left, first_live}
use Rattle.region_book.proofs.Live.{none_live, mirrors_held}
use Rattle.region_book.proofs.Paged.{book_state}
use Rattle.region_book.specs.Pages.{state_with, IsSameState, state_of_pages, ArePages, BeginsWith, IsSame, Enters, TakesPrefix, IsHeldIn, Reports, prefix_of, report_answer}
use Rattle.region_book.specs.Starts.{start_of, CanBegin}
use Rattle.region_book.specs.Books.{BookView, book_view, replay, with_event, state_of, IsBook, MakesReport}

pub length-numbered : (j i : ℕ) (cs : List (List ℤ)) → length (numbered j i cs) ≡ length cs
length-numbered j i [] = refl
length-numbered j i (c ∷ cs) = ap suc (length-numbered j (suc i) cs)

steps-append : (j m : ℕ) (events : List Event) (e : Event) (s : BookState) → m ≡ length events + j → steps_from j (events ++ e ∷ []) s ≡ step m e (steps_from j events s)
steps-append j m [] e s same = let here : j ≡ m = omega arith in ap (λ x. step x e s) here
steps-append j m (d ∷ events) e s same = steps-append (suc j) m events e (step j d s) (omega arith)

module _ (f : List (List ℤ)) (p : List ℕ) where
  legal-append : (j : ℕ) (events : List Event) (e : Event) (s : BookState) → AreLegal f p j events s → IsLegalAt f p e (steps_from j events s) → AreLegal f p j (events ++ e ∷ []) s
  legal-append j [] e s old new = (new, tt)
  legal-append j (d ∷ events) e s (now, rest) new = (now, legal-append (suc j) events e (step j d s) rest new)

abbrev pub view_with : Subject → Option Saved → ℕ → List Event → BookView
view_with subject saved passes journal = record { subject = subject; saved = saved; passes = passes; journal = journal }

pub state_same : (subject : Subject) (saved : Option Saved) (old new : Pages) → IsSame old new → state_of_pages subject saved new ≡ state_of_pages subject saved old
state_same subject saved old new same =
    ap₂ (λ events names. state_with (prefix_at subject saved events) (named_cubes saved events (all_names names)) new) same.journal same.published
    ∙ ap₂ (λ slots spent. book_state (named_cubes saved old.journal.items (all_names old.published)) (live_of (prefix_at subject saved old.journal.items) slots) spent) same.slots same.spent

module _ (subject : Subject) (saved : Option Saved) (passes : ℕ) (old new : Pages) (book : IsBook subject saved passes old) where
  pub same_book : IsSame old new → IsBook subject saved passes new
  same_book same = record {
    begins = book.begins;
    state = subst₂ (λ events state. IsSameState (replay subject saved events) state) (sym same.journal) (sym (state_same subject saved old new same)) book.state;
    parts = ap length same.published ∙ book.parts;
    legal = subst (λ x. AreLegal subject.formula.clauses subject.shown 1 x (start_of subject saved)) (sym same.journal) book.legal;
    kept = same.pages;
  }

  -- the events until now
  abbrev events : List Event
  events = old.journal.items

  abbrev made : BookState
  made = replay subject saved events

  -- what they made, on the pages
  made_is : made ≡ state_with (prefix_at subject saved events) made.published old
  made_is = ap₂ (λ ps spent. book_state made.published ps spent) book.state.pending book.state.spent

  module _ (e : Event) (enters : Enters e old new) where
    -- what one more makes
    made_more : replay subject saved new.journal.items ≡ state_with (prefix_at subject saved (events ++ e ∷ [])) (made.published ++ brought_by e) new
    made_more =
        ap (replay subject saved) enters.journal
        ∙ steps-append 1 (suc (length events)) events e (start_of subject saved) (omega arith)
        ∙ ap (step (suc (length events)) e) made_is
        ∙ ap (λ ps. step (suc (length events)) e (book_state made.published ps old.spent)) (sym (older_live subject saved events e old.slots.slots.items book.kept.placed))
        ∙ sym (enters.state (prefix_at subject saved (events ++ e ∷ [])) made.published (names_left subject saved events e))

    -- and the cubes that the pages name
    named_now : IsPermutation (made.published ++ brought_by e) (named_cubes saved (events ++ e ∷ []) (all_names new.published))
    named_now =
        IsPermutation-trans (made.published ++ brought_by e) (named_cubes saved events (all_names old.published) ++ brought_by e) (named_cubes saved (events ++ e ∷ []) (all_names new.published))
        (IsPermutation-append_left (brought_by e) made.published (named_cubes saved events (all_names old.published)) book.state.published)
        (subst (λ x. IsPermutation x (named_cubes saved (events ++ e ∷ []) (all_names new.published))) (named_more saved events e (all_names old.published) book.kept.entered)
        (IsPermutation-map (cube_at saved (events ++ e ∷ [])) (all_names old.published ++ names_from (suc (length events)) 0 (length (brought_by e))) (all_names new.published) enters.published))

    pub entered_book : IsLegalAt subject.formula.clauses subject.shown e made → IsBook subject saved passes new
    entered_book legal = record {
      begins = book.begins;
      state = subst₂ IsSameState (sym made_more) (ap (λ x. state_with (prefix_at subject saved x) (named_cubes saved x (all_names new.published)) new) (sym enters.journal))
          (record { published = named_now; pending = refl; spent = refl });
      parts = enters.parts ∙ book.parts;
      legal = subst (λ x. AreLegal subject.formula.clauses subject.shown 1 x (start_of subject saved)) (sym enters.journal)
          (legal-append subject.formula.clauses subject.shown 1 events e (start_of subject saved) book.legal legal);
      kept = enters.pages;
    }

  pub same_view : IsSame old new → book_view subject saved passes new ≡ book_view subject saved passes old
  same_view same = ap (view_with subject saved passes) same.journal

  pub entered_view : (e : Event) → Enters e old new → book_view subject saved passes new ≡ with_event e (book_view subject saved passes old)
  entered_view e enters = ap (view_with subject saved passes) enters.journal

  -- a take, whatever it answers
  pub taken_book : (k : ℕ) (n : Number) (r : Result Taken AllocError) → IfOk r (λ taken. TakesPrefix subject saved old new k n taken) → IfErr r (λ _. IsSame old new) → IsBook subject saved passes new
  taken_book k n (Ok (Held c)) takes none = entered_book (Take k n) takes.0 (subst (λ ps. find (is_free n) ps ≢ None) (sym book.state.pending) (found_is_free (find (is_free n) (state_of_pages subject saved old).pending) takes.1))
    where
      found_is_free : (o : Option Pending) → prefix_of o ≡ Some c → o ≢ None
      found_is_free None e = absurd (let bad : None ≡ Some c = e in cc)
      found_is_free (Some q) e = λ none. (let bad : Some q ≡ None = none in cc)
  taken_book k n (Ok Gone) takes none = subst (IsBook subject saved passes) (sym takes.0) book
  taken_book k n (Err e) takes same = same_book same

  -- a report, whatever it answers
  module _ (k : ℕ) (n : Number) (o : Outcome) (fits : FitsFound subject.formula.clauses subject.shown (find (is_held_by k n) made.pending) o) where
    pub reported_book : (r : Result Reported (Outcome × AllocError)) → IfOk r (λ answer. Reports old new k n o answer) → IfErr r (λ _. new ≡ old) → IsBook subject saved passes new
    reported_book (Ok answer) reports none = entered_book (Report k n o) reports.enters fits
    reported_book (Err e) reports same = subst (IsBook subject saved passes) (sym same) book

    pub makes_report : (answer : Reported) → Reports old new k n o answer → MakesReport (book_view subject saved passes old) (book_view subject saved passes new) k n o answer
    makes_report answer reports = record {
      event = entered_view (Report k n o) reports.enters;
      answers = reports.answers ∙ ap (report_answer (suc (length events)) o) (sym (entered_book (Report k n o) reports.enters fits).state.spent);
    }

    pub refused_view : new ≡ old → book_view subject saved passes new ≡ book_view subject saved passes old
    refused_view same = ap (book_view subject saved passes) same

-- ---- at the start

pub few_start : (subject : Subject) (saved : Option Saved) (passes : ℕ) → CanBegin subject saved passes → length (start_of subject saved).pending < 2 ^ 32
few_start subject None passes can = lit< tt
few_start subject (Some lines) passes can = let few = (can.saved_is lines refl).few in let long = length-numbered 0 0 lines.pending in omega arith

pub new_book : (subject : Subject) (saved : Option Saved) (passes : ℕ) (pages : Pages) → CanBegin subject saved passes → pages.journal.items ≡ [] → length pages.published ≡ passes + 1 → IsSameState (start_of subject saved) (state_of_pages subject saved pages) → ArePages pages → IsBook subject saved passes pages
new_book subject saved passes pages can none parts begun are = record {
  begins = can;
  state = subst (λ x. IsSameState (replay subject saved x) (state_of_pages subject saved pages)) (sym none) begun;
  parts = parts;
  legal = subst (λ x. AreLegal subject.formula.clauses subject.shown 1 x (start_of subject saved)) (sym none) tt;
  kept = are;
}

-- what it begins with
start_lists : (subject : Subject) (saved : Option Saved) → book_state (saved_cubes saved) (numbered 0 0 (first_prefixes subject saved)) 0 ≡ start_of subject saved
start_lists subject None = refl
start_lists subject (Some lines) = refl

pub begun_state : (subject : Subject) (saved : Option Saved) (passes : ℕ) (pages : Pages) → BeginsWith passes (length (saved_cubes saved)) (length (first_prefixes subject saved)) pages → IsSameState (start_of subject saved) (state_of_pages subject saved pages)
begun_state subject saved passes pages begins = subst (λ s. IsSameState s (state_of_pages subject saved pages)) (start_lists subject saved) (record {
  published = subst₂ (λ cubes events. IsPermutation cubes (named_cubes saved events (all_names pages.published))) (names_name saved [] 0 0 [] (saved_cubes saved) refl refl) (sym begins.journal)
      (IsPermutation-map (cube_at saved []) (names_from 0 0 (length (saved_cubes saved))) (all_names pages.published) begins.published);
  pending = sym (ap₂ (λ events slots. live_of (prefix_at subject saved events) slots) begins.journal begins.slots ∙ first_live subject saved);
  spent = sym begins.spent;
})

-- where none is held and none is free, none is pending
pub none_pending : (ps : List Pending) → All (λ q. is_none q.holder ≡ false) ps → All (λ q. is_some q.holder ≡ false) ps → ps ≡ []
none_pending [] held free = refl
none_pending (q ∷ ps) held free = absurd (both (is_some q.holder) (All-head (λ r. is_none r.holder ≡ false) q ps held) (All-head (λ r. is_some r.holder ≡ false) q ps free))
  where
    both : (b : Bool) → not b ≡ false → b ≡ false → ⊥
    both true h g = both_ways true g refl
    both false h g = both_ways true h refl

-- ---- in order

pub named_sorted : (saved : Option Saved) (events : List Event) (names : List CubeName) → IsSorted (name_order (cube_at saved events)) names → IsSorted cube_order (named_cubes saved events names)
named_sorted saved events names sorted k d low high =
    let f = cube_at saved events in
    let a : CubeName = record { place = 0; index = 0 } in
    let long = length-map names f in
    ap₂ (λ x y. is_lt (cube_order x y)) (get_or-map f names (k + 1) a d (omega arith)) (get_or-map f names k a d (omega arith)) ∙ sorted k a low (omega arith)

pub pending_sorted : (prefixes : Number → List ℤ) (slots : List Slot) → IsSorted (name_order (λ s. prefixes s.number)) slots → IsSorted prefix_order (map (pending_of prefixes) slots)
pending_sorted prefixes slots sorted k d low high =
    let f = pending_of prefixes in
    let a : Slot = record { number = d.number; standing = Free } in
    let long = length-map slots f in
    ap₂ (λ x y. is_lt (prefix_order x y)) (get_or-map f slots (k + 1) a d (omega arith)) (get_or-map f slots k a d (omega arith)) ∙ sorted k a low (omega arith)

pub arranges : (subject : Subject) (saved : Option Saved) (passes : ℕ) (old : Pages) (names : List CubeName) (slots : List Slot) → IsBook subject saved passes old →
    IsPermutation (all_names old.published) names → IsSorted (name_order (cube_at saved old.journal.items)) names →
    IsPermutation (filter is_live old.slots.slots.items) slots → IsSorted (name_order (λ s. prefix_at subject saved old.journal.items s.number)) slots →
    KeepsArranged subject saved passes old.journal.items names slots old.spent
arranges subject saved passes old names slots book same_names names_sorted same_slots slots_sorted = record {
  arranged = record {
    published = IsPermutation-trans (replay subject saved old.journal.items).published (named_cubes saved old.journal.items (all_names old.published)) (named_cubes saved old.journal.items names) book.state.published
        (IsPermutation-map (cube_at saved old.journal.items) (all_names old.published) names same_names);
    pending = subst (λ x. IsPermutation x (map (pending_of (prefix_at subject saved old.journal.items)) slots)) (sym book.state.pending)
        (IsPermutation-map (pending_of (prefix_at subject saved old.journal.items)) (filter is_live old.slots.slots.items) slots same_slots);
    published_sorted = named_sorted saved old.journal.items names names_sorted;
    pending_sorted = pending_sorted (prefix_at subject saved old.journal.items) slots slots_sorted;
  };
  legal = book.legal;
  spends = sym book.state.spent;
}

-- where one passes, one is found
pub some_found : (test : Pending → Bool) (ps : List Pending) → list_any test ps ≡ true → find test ps ≢ None
some_found test [] h none = both_ways false refl h
some_found test (q ∷ ps) h none = elim (cases_Bool (test q)) [
  | inl e ↦ (let bad : Some q ≡ None = rw e at none in cc)
  | inr e ↦ some_found test ps (rw e at h) (rw e at none)
]

-- what the pass holds, some slot says
pub held_in : (k : ℕ) (n : Number) (subject : Subject) (saved : Option Saved) (passes : ℕ) (pages : Pages) (v : BookView) → book_view subject saved passes pages ≡ v → IsBook subject saved passes pages →
    find (is_held_by k n) (state_of v).pending ≢ None → IsHeldIn k n pages
held_in k n subject saved passes pages v view book some none =
    subst (λ (x : BookView). find (is_held_by k n) (state_of x).pending ≢ None) (sym view) some
    (ap (find (is_held_by k n)) book.state.pending
    ∙ none_live (prefix_at subject saved pages.journal.items) (is_held_slot k n) (is_held_by k n) (mirrors_held (prefix_at subject saved pages.journal.items) k n) pages.slots.slots.items none)

-- the prefix of a slot
pub prefix_read : (prefixes : Number → List ℤ) (slots : List Slot) (i : ℕ) (slot : Slot) → slot ≡ get_or slots i slot → i < length slots → prefixes slot.number ≡ get_or (prefixes_of (map (pending_of prefixes) slots)) i []
prefix_read prefixes slots i slot here inside =
    let long = length-map slots (pending_of prefixes) in
    sym (get_or-map (λ (q : Pending). q.prefix) (map (pending_of prefixes) slots) i (pending_of prefixes slot) [] (omega arith)
    ∙ ap (λ (q : Pending). q.prefix) (get_or-map (pending_of prefixes) slots i slot (pending_of prefixes slot) inside)
    ∙ ap (λ (s : Slot). prefixes s.number) (sym here))

-- an outcome that fits is of a prefix that was found
pub fits_some : (f : List (List ℤ)) (p : List ℕ) (found : Option Pending) (o : Outcome) → FitsFound f p found o → found ≢ None
fits_some f p None o fits = absurd fits
fits_some f p (Some q) o fits = λ none. (let bad : Some q ≡ None = none in cc)
