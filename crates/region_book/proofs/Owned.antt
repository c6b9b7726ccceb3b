-- What one pass holds: after events of others, and after each of its own.
use Rattle.std.proofs.Common.{◌≡◌, ℕ, suc, ◌+◌, Bool, true, is_none, nat_eq, List, [], ◌∷◌, ◌++◌, filter, length, length-append, ℤ, Option, Some, None, refl, sym, ap, ap₂, ◌∙◌, inl, inr, arith}
use Rattle.std.specs.List.{find}
use Rattle.std.proofs.lemmas.Bool.{cases_Bool, and_parts, eqb-true}
use Rattle.std.proofs.lemmas.Cmp.{nat_eq_equiv}
use Rattle.std.proofs.lemmas.List.{nil_from_length}
use Rattle.std.proofs.lemmas.List.Elements.{filter-append}
use Rattle.prefix_jobs.specs.declared.number.Number.{Number}
use Rattle.prefix_jobs.specs.declared.outcome.Outcome.{Outcome}
use Rattle.region_book.specs.declared.event.Event.{Event}
use Rattle.region_book.specs.Machine.{Pending}
use Rattle.region_book.specs.Machine.{BookState, has_number, is_pass, is_free, is_held_by, held_by, edit_first, taken_by, taken_out, numbered, kept_part, parts_of, reported, step, steps_from, FitsFound, pass_of}
use Rattle.region_book.specs.Pages.{prefix_of}
use Rattle.region_book.specs.Starts.{start_of}
use Rattle.region_book.specs.Books.{BookView, state_of, with_event}
use Rattle.region_book.proofs.Others.{numbered_is_free, others_keep}

-- ---- events one after another

pub steps_append : (j m : ℕ) (events more : List Event) (s : BookState) → m ≡ length events + j → steps_from j (events ++ more) s ≡ steps_from m more (steps_from j events s)
steps_append j m [] more s same = let here : j ≡ m = omega arith in ap (λ x. steps_from x more s) here
steps_append j m (d ∷ events) more s same = steps_append (suc j) m events more (step j d s) (omega arith)

pub after_event : (b new : BookView) (e : Event) → new ≡ with_event e b → state_of new ≡ step (suc (length b.journal)) e (state_of b)
after_event b new e is = ap state_of is ∙ steps_append 1 (suc (length b.journal)) b.journal (e ∷ []) (start_of b.subject b.saved) (omega arith)

-- ---- events of others

none_behind : (test : Event → Bool) (events more : List Event) → filter test (events ++ more) ≡ filter test events → filter test more ≡ []
none_behind test events more same =
    let long = length-append (filter test events) (filter test more) in
    let whole = ap length (sym (filter-append test events more) ∙ same) in
    nil_from_length (filter test more) (omega arith)

-- where the events behind those seen are of others, the pass holds what it held
pub held_since : (k : ℕ) (seen more : List Event) (s : BookState) → filter (λ e. nat_eq (pass_of e) k) (seen ++ more) ≡ filter (λ e. nat_eq (pass_of e) k) seen →
    held_by k (steps_from 1 (seen ++ more) s).pending ≡ held_by k (steps_from 1 seen s).pending
held_since k seen more s same =
    ap (λ (x : BookState). held_by k x.pending) (steps_append 1 (length seen + 1) seen more s refl)
    ∙ others_keep k (length seen + 1) more (steps_from 1 seen s) (none_behind (λ e. nat_eq (pass_of e) k) seen more same)

-- ---- its own events

abbrev number_of : ℕ → ℕ → Number
number_of j i = record { place = j; index = i }

module _ (k : ℕ) where
  -- the first one with a number that it holds is the first of what it holds with that number
  pub found_held : (n : Number) (ps : List Pending) → find (is_held_by k n) ps ≡ find (has_number n) (held_by k ps)
  found_held n [] = refl
  found_held n (q ∷ ps) = elim (cases_Bool (is_pass k q.holder)) [
    | inl held ↦ elim (cases_Bool (has_number n q)) [
      | inl e ↦ rw (held, e) refl
      | inr e ↦ rw (held, e) (found_held n ps)
    ]
    | inr other ↦ elim (cases_Bool (has_number n q)) [
      | inl e ↦ rw (other, e) (found_held n ps)
      | inr e ↦ rw (other, e) (found_held n ps)
    ]
  ]

  -- it is taken out of what the pass holds by an edit that gives the pass none
  pub held_out : (n : Number) (change : Pending → List Pending) → ((q : Pending) → held_by k (change q) ≡ []) → (ps : List Pending) →
      held_by k (edit_first (is_held_by k n) change ps) ≡ edit_first (has_number n) taken_out (held_by k ps)
  held_out n change none [] = refl
  held_out n change none (q ∷ ps) = elim (cases_Bool (is_pass k q.holder)) [
    | inl held ↦ elim (cases_Bool (has_number n q)) [
      | inl e ↦ rw (held, e) (filter-append (λ r. is_pass k r.holder) (change q) ps ∙ ap (λ x. x ++ held_by k ps) (none q))
      | inr e ↦ rw (held, e) (rw held (ap (λ x. q ∷ x) (held_out n change none ps)))
    ]
    | inr other ↦ elim (cases_Bool (has_number n q)) [
      | inl e ↦ rw (other, e) (rw other (held_out n change none ps))
      | inr e ↦ rw (other, e) (rw other (held_out n change none ps))
    ]
  ]

  same_number : (n : Number) (q : Pending) → has_number n q ≡ true → q.number ≡ n
  same_number n q h =
      let parts = and_parts (nat_eq q.number.place n.place) (nat_eq q.number.index n.index) h in
      ap₂ number_of (eqb-true q.number.place n.place parts.0) (eqb-true q.number.index n.index parts.1)

  abbrev held_as : Number → List ℤ → Pending
  held_as n c = record { number = n; prefix = c; holder = Some k }

  -- what it takes, where it held nothing, is all that it holds
  pub held_taken : (n : Number) (c : List ℤ) (ps : List Pending) → held_by k ps ≡ [] → prefix_of (find (is_free n) ps) ≡ Some c →
      held_by k (edit_first (is_free n) (taken_by k) ps) ≡ held_as n c ∷ []
  held_taken n c [] none found = absurd (let bad : None ≡ Some c = found in cc)
  held_taken n c (q ∷ ps) none found = elim (cases_Bool (is_pass k q.holder)) [
    | inl held ↦ absurd (let bad : q ∷ held_by k ps ≡ [] = rw held at none in cc)
    | inr other ↦
        let rest : held_by k ps ≡ [] = rw other at none in
        elim (cases_Bool (is_free n q)) [
          | inl e ↦
              let number : q.number ≡ n = same_number n q (and_parts (has_number n q) (is_none q.holder) e).0 in
              let same : Some q.prefix ≡ Some c = rw e at found in
              let prefix : q.prefix ≡ c = cc in
              rw (e, nat_eq_equiv.refl k) (ap₂ (λ m d. held_as m d ∷ held_by k ps) number prefix ∙ ap (λ x. held_as n c ∷ x) rest)
          | inr e ↦ rw e (rw other (held_taken n c ps rest (rw e at found)))
        ]
  ]

  held_kept : (j i : ℕ) (kept : Option (List ℤ)) → held_by k (kept_part j i k kept) ≡ kept_part j i k kept
  held_kept j i None = refl
  held_kept j i (Some c) = rw (nat_eq_equiv.refl k) refl

  held_parts : (j : ℕ) (o : Outcome) → held_by k (parts_of j k o) ≡ kept_part j (length o.rest) k o.kept
  held_parts j o =
      filter-append (λ r. is_pass k r.holder) (numbered j 0 o.rest) (kept_part j (length o.rest) k o.kept)
      ∙ ap (λ x. x ++ held_by k (kept_part j (length o.rest) k o.kept)) (numbered_is_free k j 0 o.rest)
      ∙ held_kept j (length o.rest) o.kept

  -- after a report it holds what it keeps in place of that prefix
  pub held_reported : (f : List (List ℤ)) (p : List ℕ) (j : ℕ) (n : Number) (o : Outcome) (found : Option Pending) (s : BookState) → FitsFound f p found o →
      held_by k (reported j k n o found s).pending ≡ edit_first (has_number n) taken_out (held_by k s.pending) ++ kept_part j (length o.rest) k o.kept
  held_reported f p j n o None s fits = absurd fits
  held_reported f p j n o (Some q) s fits =
      filter-append (λ r. is_pass k r.holder) (edit_first (is_held_by k n) taken_out s.pending) (parts_of j k o)
      ∙ ap₂ (λ x y. x ++ y) (held_out n taken_out (λ r. refl) s.pending) (held_parts j o)
