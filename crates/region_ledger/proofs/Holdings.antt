-- What a pass holds under a number: what its report and its release ask for.
use Rattle.std.proofs.Common.{◌≡◌, ◌≢◌, ℕ, true, List, [], ℤ, Some, None, refl}
use Rattle.std.specs.List.{find}
use Rattle.std.proofs.lemmas.Cmp.{nat_eq_equiv}
use Rattle.prefix_jobs.specs.declared.number.Number.{Number}
use Rattle.prefix_jobs.specs.declared.outcome.Outcome.{Outcome}
use Rattle.prefix_jobs.specs.Outcomes.{FitsPrefix}
use Rattle.region_book.specs.Machine.{Pending}
use Rattle.region_book.specs.Machine.{has_number, edit_first, taken_out, FitsFound}
use Rattle.region_ledger.specs.Hands.{holding}

module _ (k : ℕ) (n : Number) where
  abbrev held_one : List ℤ → Pending
  held_one c = record { number = n; prefix = c; holder = Some k }

  its_own : (c : List ℤ) → has_number n (held_one c) ≡ true
  its_own c = rw (nat_eq_equiv.refl n.place, nat_eq_equiv.refl n.index) refl

  found_one : (c : List ℤ) → find (has_number n) (holding k n (Some c)) ≡ Some (held_one c)
  found_one c = rw (its_own c) refl

  -- it may report what fits that prefix
  pub may_report : (f : List (List ℤ)) (p : List ℕ) (c : List ℤ) (o : Outcome) (hs : List Pending) → hs ≡ holding k n (Some c) → FitsPrefix f p c o → FitsFound f p (find (has_number n) hs) o
  may_report f p c o hs is fits = rw (is, found_one c) fits

  -- it may release it
  pub may_release : (c : List ℤ) (hs : List Pending) → hs ≡ holding k n (Some c) → find (has_number n) hs ≢ None
  may_release c hs is none = (let bad : Some (held_one c) ≡ None = (rw (is, found_one c) at none) in cc)

  -- then nothing is held
  pub nothing_left : (c : List ℤ) (hs : List Pending) → hs ≡ holding k n (Some c) → edit_first (has_number n) taken_out hs ≡ []
  nothing_left c hs is = rw (is, its_own c) refl
