-- Events of other passes leave what a pass holds.
use Rattle.std.proofs.Common.{◌≡◌, ℕ, suc, Bool, true, false, cond, is_none, nat_eq, List, [], ◌∷◌, ◌++◌, filter, length, ℤ, Option, Some, None, refl, ap, ◌∙◌, inl, inr}
use Rattle.std.specs.List.{find}
use Rattle.std.proofs.lemmas.Bool.{cases_Bool, and_parts, both_ways, eqb-true}
use Rattle.std.proofs.lemmas.List.Elements.{filter-append}
use Rattle.prefix_jobs.specs.declared.number.Number.{Number}
use Rattle.prefix_jobs.specs.declared.outcome.Outcome.{Outcome}
use Rattle.region_book.specs.declared.event.Event.{Event}
use Rattle.region_book.specs.declared.event.Event.TheVariants.{Take, Report, Release}
use Rattle.region_book.specs.Machine.{Pending}
use Rattle.region_book.specs.Machine.{BookState, has_number, is_pass, is_free, is_held_by, held_by, edit_first, taken_by, let_go, taken_out, numbered, kept_part, parts_of, reported, step, steps_from, pass_of}

module _ (h : ℕ) where
  -- an edit of prefixes that the pass does not hold, and that gives it none
  pub same_held : (test : Pending → Bool) (change : Pending → List Pending) → ((q : Pending) → test q ≡ true → is_pass h q.holder ≡ false) → ((q : Pending) → held_by h (change q) ≡ []) → (ps : List Pending) → held_by h (edit_first test change ps) ≡ held_by h ps
  same_held test change away gives [] = refl
  same_held test change away gives (q ∷ ps) = elim (cases_Bool (test q)) [
    | inl e ↦ rw (e, away q e) (filter-append (λ r. is_pass h r.holder) (change q) ps ∙ ap (λ x. x ++ held_by h ps) (gives q))
    | inr e ↦ rw e (ap (λ x. cond (is_pass h q.holder) (q ∷ x) x) (same_held test change away gives ps))
  ]

  nobody_is_other : (o : Option ℕ) → is_none o ≡ true → is_pass h o ≡ false
  nobody_is_other None e = refl
  nobody_is_other (Some k) e = absurd (both_ways false refl e)

  pass_is_other : (k : ℕ) → nat_eq k h ≡ false → (o : Option ℕ) → is_pass k o ≡ true → is_pass h o ≡ false
  pass_is_other k other None e = refl
  pass_is_other k other (Some j) e = ap (λ x. nat_eq x h) (eqb-true j k e) ∙ other

  pub numbered_is_free : (j i : ℕ) (cs : List (List ℤ)) → held_by h (numbered j i cs) ≡ []
  numbered_is_free j i [] = refl
  numbered_is_free j i (c ∷ cs) = numbered_is_free j (suc i) cs

  kept_is_other : (j i k : ℕ) (kept : Option (List ℤ)) → nat_eq k h ≡ false → held_by h (kept_part j i k kept) ≡ []
  kept_is_other j i k None other = refl
  kept_is_other j i k (Some c) other = rw other refl

  parts_are_others : (j k : ℕ) (o : Outcome) → nat_eq k h ≡ false → held_by h (parts_of j k o) ≡ []
  parts_are_others j k o other =
      filter-append (λ r. is_pass h r.holder) (numbered j 0 o.rest) (kept_part j (length o.rest) k o.kept)
      ∙ ap (λ x. x ++ held_by h (kept_part j (length o.rest) k o.kept)) (numbered_is_free j 0 o.rest)
      ∙ kept_is_other j (length o.rest) k o.kept other

  reported_keeps : (j k : ℕ) (n : Number) (o : Outcome) (found : Option Pending) (s : BookState) → nat_eq k h ≡ false → held_by h (reported j k n o found s).pending ≡ held_by h s.pending
  reported_keeps j k n o None s other = refl
  reported_keeps j k n o (Some q) s other =
      filter-append (λ r. is_pass h r.holder) (edit_first (is_held_by k n) taken_out s.pending) (parts_of j k o)
      ∙ ap (λ x. held_by h (edit_first (is_held_by k n) taken_out s.pending) ++ x) (parts_are_others j k o other)
      ∙ append_none (held_by h (edit_first (is_held_by k n) taken_out s.pending))
      ∙ same_held (is_held_by k n) taken_out (λ r e. pass_is_other k other r.holder (and_parts (has_number n r) (is_pass k r.holder) e).1) (λ r. refl) s.pending
    where
      append_none : (ps : List Pending) → ps ++ [] ≡ ps
      append_none [] = refl
      append_none (r ∷ ps) = ap (λ x. r ∷ x) (append_none ps)

  pub other_step_keeps : (j : ℕ) (e : Event) (s : BookState) → nat_eq (pass_of e) h ≡ false → held_by h (step j e s).pending ≡ held_by h s.pending
  other_step_keeps j (Take k n) s other =
      same_held (is_free n) (taken_by k) (λ q e. nobody_is_other q.holder (and_parts (has_number n q) (is_none q.holder) e).1) (λ q. rw other refl) s.pending
  other_step_keeps j (Report k n o) s other = reported_keeps j k n o (find (is_held_by k n) s.pending) s other
  other_step_keeps j (Release k n) s other =
      same_held (is_held_by k n) let_go (λ q e. pass_is_other k other q.holder (and_parts (has_number n q) (is_pass k q.holder) e).1) (λ q. refl) s.pending

pub others_keep : (k j : ℕ) (events : List Event) (s : BookState) → filter (λ e. nat_eq (pass_of e) k) events ≡ [] → held_by k (steps_from j events s).pending ≡ held_by k s.pending
others_keep k j [] s none = refl
others_keep k j (e ∷ es) s none = elim (cases_Bool (nat_eq (pass_of e) k)) [
  | inl own ↦ absurd (let some : e ∷ filter (λ x. nat_eq (pass_of x) k) es ≡ [] = rw own at none in cc)
  | inr other ↦ others_keep k (suc j) es (step j e s) (rw other at none) ∙ other_step_keeps k j e s other
]
