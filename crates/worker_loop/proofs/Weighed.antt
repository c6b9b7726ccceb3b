-- How much is pending, after a prefix was taken and after it was reported.
use Rattle.std.proofs.Common.{◌≡◌, ℕ, ◌+◌, ◌<◌, ◌≤◌, ◌⊎◌, Bool, List, [], ◌∷◌, ◌++◌, ℤ, Some, None, refl, ap, ◌∙◌, inl, inr, arith}
use Rattle.std.specs.List.{find}
use Rattle.std.proofs.lemmas.Bool.{cases_Bool}
use Rattle.search_job.specs.Weights.{weight, weights}
use Rattle.search_job.proofs.Weights.{weight_some, weights-append}
use Rattle.prefix_jobs.specs.declared.outcome.Outcome.{Outcome}
use Rattle.prefix_jobs.specs.Outcomes.{open_parts}
use Rattle.region_book.specs.Machine.{Pending}
use Rattle.region_book.specs.Machine.{edit_first, taken_by, taken_out, parts_of, prefixes_of}
use Rattle.region_book.specs.Pages.{prefix_of}
use Rattle.region_book.proofs.Kept.{prefixes-append, prefixes_of_parts}

module _ (n : ℕ) where
  -- who holds a prefix weighs nothing
  pub weight_taken : (test : Pending → Bool) (k : ℕ) (ps : List Pending) → weights n (prefixes_of (edit_first test (taken_by k) ps)) ≡ weights n (prefixes_of ps)
  weight_taken test k [] = refl
  weight_taken test k (q ∷ ps) = elim (cases_Bool (test q)) [
    | inl e ↦ rw e refl
    | inr e ↦ rw e (ap (λ w. weight n q.prefix + w) (weight_taken test k ps))
  ]

  -- the one that goes
  weight_out : (test : Pending → Bool) (c : List ℤ) (ps : List Pending) → prefix_of (find test ps) ≡ Some c → weights n (prefixes_of ps) ≡ weight n c + weights n (prefixes_of (edit_first test taken_out ps))
  weight_out test c [] found = absurd (let bad : None ≡ Some c = found in cc)
  weight_out test c (q ∷ ps) found = elim (cases_Bool (test q)) [
    | inl e ↦
        let same : Some q.prefix ≡ Some c = rw e at found in
        let one : q.prefix ≡ c = cc in
        rw e (ap (λ d. weight n d + weights n (prefixes_of ps)) one)
    | inr e ↦
        let rest = weight_out test c ps (rw e at found) in
        rw e (omega arith)
  ]

  -- and what comes in its place
  weight_parts : (j k : ℕ) (o : Outcome) → weights n (prefixes_of (parts_of j k o)) ≡ weights n (open_parts o)
  weight_parts j k o = ap (weights n) (prefixes_of_parts j k o)

  -- where what comes weighs less than what goes, less is pending
  pub less_reported : (test : Pending → Bool) (c : List ℤ) (ps : List Pending) (j k : ℕ) (o : Outcome) → prefix_of (find test ps) ≡ Some c → weights n (open_parts o) < weight n c →
      weights n (prefixes_of (edit_first test taken_out ps ++ parts_of j k o)) < weights n (prefixes_of ps)
  less_reported test c ps j k o found less =
      let parts = weight_parts j k o in
      let was = weight_out test c ps found in
      let now = ap (weights n) (prefixes-append (edit_first test taken_out ps) (parts_of j k o)) ∙ weights-append n (prefixes_of (edit_first test taken_out ps)) (prefixes_of (parts_of j k o)) in
      omega arith

  -- what a job left open weighs less than its prefix, where it left nothing or had a leaf
  pub less_open : (q : List ℤ) (cs : List (List ℤ)) (leaves : ℕ) → weights n cs + leaves ≤ weight n q → (cs ≡ []) ⊎ (1 ≤ leaves) → weights n cs < weight n q
  less_open q cs leaves weighs (inl none) = let nothing = ap (weights n) none in let some = weight_some n q in omega arith
  less_open q cs leaves weighs (inr some) = omega arith
