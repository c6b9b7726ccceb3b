-- What is held, after a prefix was taken, given back, and reported.
use Rattle.std.proofs.Common.{◌≡◌, ℕ, suc, Bool, true, false, ◌&&◌, is_none, List, [], ◌∷◌, ◌++◌, length, ℤ, Some, None, refl, ap, ◌∙◌, inl, inr}
use Rattle.std.specs.List.{All, find}
use Rattle.std.proofs.Math.Bool.{and-false}
use Rattle.std.proofs.lemmas.Bool.{cases_Bool, and_parts}
use Rattle.std.proofs.lemmas.Cmp.{nat_eq_equiv}
use Rattle.std.proofs.lemmas.List.Elements.{All-nil, All-cons, All-head, All-tail, All-append}
use Rattle.prefix_jobs.specs.declared.number.Number.{Number}
use Rattle.prefix_jobs.specs.declared.outcome.Outcome.{Outcome}
use Rattle.region_book.specs.Machine.{Pending}
use Rattle.region_book.specs.Machine.{has_number, is_pass, is_free, is_held_by, edit_first, taken_by, let_go, taken_out, numbered, kept_part, parts_of}
use Rattle.region_book.specs.Pages.{prefix_of}
use Rattle.worker_loop.specs.Sweeps.{AreUnheld}
use Rattle.worker_loop.specs.Jobs.{HoldsOnly}

abbrev IsUnheld : Pending → Type 0
IsUnheld q = q.holder ≡ None

-- one that nobody holds is held by no pass
not_held : (k : ℕ) (n : Number) (q : Pending) → q.holder ≡ None → is_held_by k n q ≡ false
not_held k n q none = ap (λ h. has_number n q && is_pass k h) none ∙ and-false (has_number n q)

module _ (k : ℕ) (n : Number) (c : List ℤ) where
  pub take_holds : (ps : List Pending) → AreUnheld ps → prefix_of (find (is_free n) ps) ≡ Some c → HoldsOnly k n c (edit_first (is_free n) (taken_by k) ps)
  take_holds [] free found = absurd (let bad : None ≡ Some c = found in cc)
  take_holds (q ∷ ps) free found = elim (cases_Bool (is_free n q)) [
    | inl e ↦
        let numbered : has_number n q ≡ true = (and_parts (has_number n q) (is_none q.holder) e).0 in
        let held : is_held_by k n (record q { holder = Some k }) ≡ true = rw numbered (nat_eq_equiv.refl k) in
        rw e (record { held = rw held (rw e at found); others = rw held (All-tail IsUnheld q ps free) })
    | inr e ↦
        let none : q.holder ≡ None = All-head IsUnheld q ps free in
        let other = not_held k n q none in
        let rest : HoldsOnly k n c (edit_first (is_free n) (taken_by k) ps) = take_holds ps (All-tail IsUnheld q ps free) (rw e at found) in
        rw e (record { held = rw other rest.held; others = rw other (All-cons IsUnheld q _ none rest.others) })
  ]

-- what nobody holds but for the first that passes, nobody holds once that one is let go
let_go_unheld : (test : Pending → Bool) (ps : List Pending) → AreUnheld (edit_first test taken_out ps) → AreUnheld (edit_first test let_go ps)
let_go_unheld test [] others = All-nil IsUnheld
let_go_unheld test (q ∷ ps) others = elim (cases_Bool (test q)) [
  | inl e ↦ rw e (All-cons IsUnheld (record q { holder = None }) ps refl (rw e at others))
  | inr e ↦
      let here : AreUnheld (q ∷ edit_first test taken_out ps) = rw e at others in
      rw e (All-cons IsUnheld q _ (All-head IsUnheld q _ here) (let_go_unheld test ps (All-tail IsUnheld q _ here)))
]

pub release_unheld : (k : ℕ) (n : Number) (c : List ℤ) (ps : List Pending) → HoldsOnly k n c ps → AreUnheld (edit_first (is_held_by k n) let_go ps)
release_unheld k n c ps holds = let_go_unheld (is_held_by k n) ps holds.others

pub numbered_unheld : (j i : ℕ) (cs : List (List ℤ)) → AreUnheld (numbered j i cs)
numbered_unheld j i [] = All-nil IsUnheld
numbered_unheld j i (c ∷ cs) = All-cons IsUnheld _ (numbered j (suc i) cs) refl (numbered_unheld j (suc i) cs)

pub report_unheld : (k j : ℕ) (n : Number) (c : List ℤ) (ps : List Pending) (o : Outcome) → HoldsOnly k n c ps → o.kept ≡ None → AreUnheld (edit_first (is_held_by k n) taken_out ps ++ parts_of j k o)
report_unheld k j n c ps o holds none =
    All-append IsUnheld (edit_first (is_held_by k n) taken_out ps) (parts_of j k o) holds.others
    (All-append IsUnheld (numbered j 0 o.rest) (kept_part j (length o.rest) k o.kept) (numbered_unheld j 0 o.rest)
    (rw none (All-nil IsUnheld)))

-- what is free and what is unheld are none
pub none_pending : (ps : List Pending) → All (λ q. is_none q.holder ≡ false) ps → AreUnheld ps → ps ≡ []
none_pending [] taken free = refl
none_pending (q ∷ ps) taken free =
    let none : q.holder ≡ None = All-head IsUnheld q ps free in
    let some : is_none q.holder ≡ false = All-head (λ r. is_none r.holder ≡ false) q ps taken in
    absurd (let bad : true ≡ false = rw none at some in cc)
