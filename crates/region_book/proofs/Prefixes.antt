-- What is pending in a book are cubes over its shown variables.
use Rattle.std.proofs.Common.{◌≡◌, ℕ, suc, ◌+◌, Bool, List, [], ◌∷◌, ◌++◌, length, length-append, ℤ, Option, Some, None, option_to_list, refl, subst, inl, inr, arith}
use Rattle.std.specs.List.{All, find}
use Rattle.std.proofs.lemmas.Bool.{cases_Bool}
use Rattle.std.proofs.lemmas.List.{get_or-append-add, get_or_append_left}
use Rattle.std.proofs.lemmas.List.Elements.{All-nil, All-cons, All-head, All-tail, All-append}
use Rattle.sat_terms.specs.Cubes.{IsCube}
use Rattle.sat_terms.specs.declared.subject.Subject.{Subject}
use Rattle.checkpoint.specs.declared.saved.Saved.{Saved}
use Rattle.prefix_jobs.specs.declared.number.Number.{Number}
use Rattle.prefix_jobs.specs.declared.outcome.Outcome.{Outcome}
use Rattle.prefix_jobs.specs.Outcomes.{open_parts}
use Rattle.region_book.specs.declared.event.Event.{Event}
use Rattle.region_book.specs.declared.event.Event.TheVariants.{Take, Report, Release}
use Rattle.region_book.specs.Machine.{Pending}
use Rattle.region_book.specs.Machine.{BookState, is_held_by, is_free, edit_first, taken_by, let_go, taken_out, numbered, kept_part, parts_of, reported, step, steps_from, FitsFound, IsLegalAt, AreLegal}
use Rattle.region_book.specs.Pages.{prefix_of}
use Rattle.region_book.specs.Starts.{start_of, CanBegin}

All_front : {X : Type 0} (P : X → Type 0) (xs ys : List X) → All P (xs ++ ys) → All P xs
All_front P xs ys all k d inside =
    let long = length-append xs ys in
    subst P (get_or_append_left xs ys d k inside) (all k d (omega arith))

All_back : {X : Type 0} (P : X → Type 0) (xs ys : List X) → All P (xs ++ ys) → All P ys
All_back P xs ys all k d inside =
    let long = length-append xs ys in
    subst P (get_or-append-add xs ys k d) (all (length xs + k) d (omega arith))

module _ (f : List (List ℤ)) (p : List ℕ) where
  abbrev IsOver : Pending → Type 0
  IsOver q = IsCube p q.prefix

  edited_over : (test : Pending → Bool) (change : Pending → List Pending) → ((q : Pending) → IsOver q → All IsOver (change q)) → (ps : List Pending) → All IsOver ps → All IsOver (edit_first test change ps)
  edited_over test change keeps [] all = All-nil IsOver
  edited_over test change keeps (q ∷ ps) all = elim (cases_Bool (test q)) [
    | inl e ↦ rw e (All-append IsOver (change q) ps (keeps q (All-head IsOver q ps all)) (All-tail IsOver q ps all))
    | inr e ↦ rw e (All-cons IsOver q (edit_first test change ps) (All-head IsOver q ps all) (edited_over test change keeps ps (All-tail IsOver q ps all)))
  ]

  numbered_over : (j i : ℕ) (cs : List (List ℤ)) → All (IsCube p) cs → All IsOver (numbered j i cs)
  numbered_over j i [] all = All-nil IsOver
  numbered_over j i (c ∷ cs) all = All-cons IsOver _ (numbered j (suc i) cs) (All-head (IsCube p) c cs all) (numbered_over j (suc i) cs (All-tail (IsCube p) c cs all))

  kept_over : (j i k : ℕ) (kept : Option (List ℤ)) → All (IsCube p) (option_to_list kept) → All IsOver (kept_part j i k kept)
  kept_over j i k None all = All-nil IsOver
  kept_over j i k (Some c) all = All-cons IsOver _ [] (All-head (IsCube p) c [] all) (All-nil IsOver)

  parts_over : (j k : ℕ) (o : Outcome) → All (IsCube p) (open_parts o) → All IsOver (parts_of j k o)
  parts_over j k o all =
      All-append IsOver (numbered j 0 o.rest) (kept_part j (length o.rest) k o.kept)
      (numbered_over j 0 o.rest (All_front (IsCube p) o.rest (option_to_list o.kept) all))
      (kept_over j (length o.rest) k o.kept (All_back (IsCube p) o.rest (option_to_list o.kept) all))

  reported_over : (j k : ℕ) (n : Number) (o : Outcome) (found : Option Pending) (s : BookState) → FitsFound f p found o → All IsOver s.pending → All IsOver (reported j k n o found s).pending
  reported_over j k n o None s fits all = absurd fits
  reported_over j k n o (Some q) s fits all =
      All-append IsOver (edit_first (is_held_by k n) taken_out s.pending) (parts_of j k o)
      (edited_over (is_held_by k n) taken_out (λ r here. All-nil IsOver) s.pending all)
      (parts_over j k o (All_back (IsCube p) o.cubes (open_parts o) fits.over))

  step_over : (j : ℕ) (e : Event) (s : BookState) → IsLegalAt f p e s → All IsOver s.pending → All IsOver (step j e s).pending
  step_over j (Take k n) s legal all = edited_over (is_free n) (taken_by k) (λ q here. All-cons IsOver (record q { holder = Some k }) [] here (All-nil IsOver)) s.pending all
  step_over j (Report k n o) s legal all = reported_over j k n o (find (is_held_by k n) s.pending) s legal all
  step_over j (Release k n) s legal all = edited_over (is_held_by k n) let_go (λ q here. All-cons IsOver (record q { holder = None }) [] here (All-nil IsOver)) s.pending all

  steps_over : (j : ℕ) (events : List Event) (s : BookState) → AreLegal f p j events s → All IsOver s.pending → All IsOver (steps_from j events s).pending
  steps_over j [] s legal all = all
  steps_over j (e ∷ events) s (now, rest) all = steps_over (suc j) events (step j e s) rest (step_over j e s now all)

  pub found_over : (test : Pending → Bool) (c : List ℤ) (ps : List Pending) → All IsOver ps → prefix_of (find test ps) ≡ Some c → IsCube p c
  found_over test c [] all found = absurd (let bad : None ≡ Some c = found in cc)
  found_over test c (q ∷ ps) all found = elim (cases_Bool (test q)) [
    | inl e ↦
        let same : Some q.prefix ≡ Some c = rw e at found in
        let one : q.prefix ≡ c = cc in
        subst (IsCube p) one (All-head IsOver q ps all)
    | inr e ↦ found_over test c ps (All-tail IsOver q ps all) (rw e at found)
  ]

start_over : (subject : Subject) (saved : Option Saved) (passes : ℕ) → CanBegin subject saved passes → All (λ q. IsCube subject.shown q.prefix) (start_of subject saved).pending
start_over subject None passes can = numbered_over subject.formula.clauses subject.shown 0 0 (subject.under ∷ []) (All-cons (IsCube subject.shown) subject.under [] can.subject_is.under (All-nil (IsCube subject.shown)))
start_over subject (Some lines) passes can = numbered_over subject.formula.clauses subject.shown 0 0 lines.pending (can.saved_is lines refl).pending

pub book_over : (subject : Subject) (saved : Option Saved) (passes : ℕ) (journal : List Event) → CanBegin subject saved passes →
    AreLegal subject.formula.clauses subject.shown 1 journal (start_of subject saved) →
    All (λ q. IsCube subject.shown q.prefix) (steps_from 1 journal (start_of subject saved)).pending
book_over subject saved passes journal can legal = steps_over subject.formula.clauses subject.shown 1 journal (start_of subject saved) legal (start_over subject saved passes can)
