-- How many prefixes are held before and after an event.
use Rattle.std.proofs.Common.{◌≡◌, ◌≢◌, ℕ, suc, ◌+◌, ◌≤◌, Bool, true, is_some, List, [], ◌∷◌, ◌++◌, filter, length, length-append, ℤ, Option, Some, None, refl, ap, ◌∙◌, inl, inr, arith}
use Rattle.std.specs.List.{find}
use Rattle.std.proofs.lemmas.Bool.{cases_Bool, and_parts}
use Rattle.std.proofs.lemmas.List.Elements.{filter-append}
use Rattle.prefix_jobs.specs.declared.number.Number.{Number}
use Rattle.prefix_jobs.specs.declared.outcome.Outcome.{Outcome}
use Rattle.region_book.specs.Machine.{Pending}
use Rattle.region_book.specs.Machine.{has_number, is_pass, is_held_by, edit_first, let_go, taken_out, numbered, kept_part, parts_of}
use Rattle.region_book.specs.Pages.{held_count}
use Rattle.region_book.proofs.Found.{Splits, found_splits}

pub held_few : (ps : List Pending) → held_count ps ≤ length ps
held_few [] = omega arith
held_few (q ∷ ps) = let rest = held_few ps in elim (cases_Bool (is_some q.holder)) [
  | inl e ↦ rw e (omega arith)
  | inr e ↦ rw e (omega arith)
]

held_count-append : (ps rs : List Pending) → held_count (ps ++ rs) ≡ held_count ps + held_count rs
held_count-append ps rs = ap length (filter-append (λ q. is_some q.holder) ps rs) ∙ length-append (filter (λ q. is_some q.holder) ps) (filter (λ q. is_some q.holder) rs)

pub held_none_numbered : (j i : ℕ) (cs : List (List ℤ)) → held_count (numbered j i cs) ≡ 0
held_none_numbered j i [] = refl
held_none_numbered j i (c ∷ cs) = held_none_numbered j (suc i) cs

held_kept : (j i k : ℕ) (kept : Option (List ℤ)) → held_count (kept_part j i k kept) ≤ 1
held_kept j i k None = omega arith
held_kept j i k (Some c) = omega arith

held_parts : (j k : ℕ) (o : Outcome) → held_count (parts_of j k o) ≤ 1
held_parts j k o =
    let both = held_count-append (numbered j 0 o.rest) (kept_part j (length o.rest) k o.kept) in
    let rest = held_none_numbered j 0 o.rest in
    let kept = held_kept j (length o.rest) k o.kept in
    omega arith

-- one that a pass holds is counted
held_one : (k : ℕ) (n : Number) (q : Pending) → is_held_by k n q ≡ true → held_count (q ∷ []) ≡ 1
held_one k n q h = let some = pass_some k q.holder (and_parts (has_number n q) (is_pass k q.holder) h).1 in rw some refl
  where
    pass_some : (k : ℕ) (o : Option ℕ) → is_pass k o ≡ true → is_some o ≡ true
    pass_some k None e = e
    pass_some k (Some h) e = refl

sums : (was now before after one here change changed : ℕ) → was ≡ before + here → here ≡ one + after → one ≡ 1 → now ≡ before + changed → changed ≡ change + after → change ≡ 0 → now + 1 ≡ was
sums was now before after one here change changed a b c d e f = omega arith

module _ (k : ℕ) (n : Number) (ps : List Pending) where
  edited_held : (change : Pending → List Pending) → ((q : Pending) → held_count (change q) ≡ 0) → find (is_held_by k n) ps ≢ None → held_count (edit_first (is_held_by k n) change ps) + 1 ≡ held_count ps
  edited_held change none some = by_found (find (is_held_by k n) ps) refl
    where
      by_found : (o : Option Pending) → find (is_held_by k n) ps ≡ o → held_count (edit_first (is_held_by k n) change ps) + 1 ≡ held_count ps
      by_found None e = absurd (some e)
      by_found (Some q) e =
          let s : Splits (is_held_by k n) ps q = found_splits (is_held_by k n) ps q e in
          let was = ap held_count s.was ∙ held_count-append s.before (q ∷ s.after) in
          let here = held_count-append (q ∷ []) s.after in
          let one = held_one k n q s.passes in
          let now = ap held_count (s.edit change) ∙ held_count-append s.before (change q ++ s.after) in
          let changed = held_count-append (change q) s.after in
          let zero_here = none q in
          sums (held_count ps) (held_count (edit_first (is_held_by k n) change ps)) (held_count s.before) (held_count s.after) (held_count (q ∷ [])) (held_count (q ∷ s.after)) (held_count (change q)) (held_count (change q ++ s.after)) was here one now changed zero_here

  pub held_released : find (is_held_by k n) ps ≢ None → held_count (edit_first (is_held_by k n) let_go ps) + 1 ≡ held_count ps
  held_released some = edited_held let_go (λ q. refl) some

  pub held_reported : (j : ℕ) (o : Outcome) → find (is_held_by k n) ps ≢ None → held_count (edit_first (is_held_by k n) taken_out ps ++ parts_of j k o) ≤ length ps
  held_reported j o some =
      let both = held_count-append (edit_first (is_held_by k n) taken_out ps) (parts_of j k o) in
      let out = edited_held taken_out (λ q. refl) some in
      let few = held_few ps in
      let kept = held_parts j k o in
      omega arith

pub length-edited : (test : Pending → Bool) (new : Pending → Pending) (ps : List Pending) → length (edit_first test (λ q. new q ∷ []) ps) ≡ length ps
length-edited test new [] = refl
length-edited test new (q ∷ ps) = elim (cases_Bool (test q)) [
  | inl e ↦ rw e refl
  | inr e ↦ rw e (ap suc (length-edited test new ps))
]
