-- The walk over the cubes in order, from branch to branch.
use Rattle.std.proofs.Common.{◌≡◌, ◌≢◌, ℕ, zero, suc, ◌+◌, ◌-◌, ◌<◌, ◌≤◌, true, false, List, length, take, get_or, ℤ, pos, neg_ℤ, sym, ap, subst, ◌∙◌, inl, inr, arith}
use Rattle.std.specs.List.{Contains}
use Rattle.std.proofs.lemmas.Bool.{cases_lt}
use Rattle.std.proofs.lemmas.List.{get_or_default}
use Rattle.sat_terms.specs.Cubes.{has_literal, apart}
use Rattle.cube_check.specs.declared.met.Met.{Met}
use Rattle.cube_check.specs.Verdicts.{met_at}
use Rattle.cube_check.specs.Runs.{cube_in, number_at, ArePlaces, AreShared, IsFirstFewer}
use Rattle.cube_check.proofs.Apartness.{none_in_front, none_in_shorter, same_shorter, apart_by_front}

-- the cubes of a run share so many literals
run_shares : (cube : ℕ → List ℤ) (shared : ℕ → ℕ) (n : ℕ) →
    ((k : ℕ) → k + 1 < n → take (shared (k + 1)) (cube (k + 1)) ≡ take (shared (k + 1)) (cube k)) →
    (at front next : ℕ) → next ≤ n → ((m : ℕ) → at < m → m < next → front ≤ shared m) →
    (d : ℕ) → at + d < next → take front (cube (at + d)) ≡ take front (cube at)
run_shares cube shared n fronts at front next within run zero inside = ap (λ k. take front (cube k)) (omega arith)
run_shares cube shared n fronts at front next within run (suc d) inside =
    let before = run_shares cube shared n fronts at front next within run d (omega arith) in
    let last : at + suc d ≡ at + d + 1 = omega arith in
    let long : front ≤ shared (at + d + 1) = run (at + d + 1) (omega arith) (omega arith) in
    let step = same_shorter (cube (at + d + 1)) (cube (at + d)) front (shared (at + d + 1)) long (fronts (at + d) (omega arith)) in
    ap (λ k. take front (cube k)) last ∙ step ∙ before

pub run_fronts : (met : List Met) (places shared : List ℕ) (at front next : ℕ) → AreShared met places shared → IsFirstFewer shared at front next →
    (k : ℕ) → at ≤ k → k < next → take front (cube_in met places k) ≡ take front (cube_in met places at)
run_fronts met places shared at front next told run k low high =
    let same : at + (k - at) ≡ k = omega arith in
    let within : next ≤ length places = (let a = told.many in let b = run.within in omega arith) in
    subst (λ m. take front (cube_in met places m) ≡ take front (cube_in met places at)) same
    (run_shares (cube_in met places) (number_at shared) (length places) told.fronts at front next within run.run (k - at) (omega arith))

-- what is known behind a step of the walk: each cube before is apart, but for the one itself, and
-- what the next one shares with the one before it has no negation in it
pub record Walked (met : List Met) (places shared : List ℕ) (place at : ℕ) : Type 0 where
  pub within : at ≤ length places
  pub earlier : (k : ℕ) → k < at → get_or places k 0 ≢ place → apart (cube_in met places k) (met_at met place).cube ≡ true
  pub front : at < length places → apart (take (get_or shared at 0) (cube_in met places at)) (met_at met place).cube ≡ false

pub passes_branch : (met : List Met) (places shared : List ℕ) (place at depth next : ℕ) →
    AreShared met places shared → Walked met places shared place at → at < length places → IsFirstFewer shared at (depth + 1) next →
    depth < length (cube_in met places at) → has_literal (met_at met place).cube (neg_ℤ (get_or (cube_in met places at) depth (pos 0))) ≡ true →
    apart (take depth (cube_in met places at)) (met_at met place).cube ≡ false →
    Walked met places shared place next
passes_branch met places shared place at depth next told walked inside run deep negated clean =
    let c = (met_at met place).cube in
    let e = cube_in met places at in
    record {
      within = (let a = told.many in let b = run.within in omega arith);
      earlier = λ k less other. elim (cases_lt k at) [
        | inl before ↦ walked.earlier k before other
        | inr behind ↦ apart_by_front c (cube_in met places k) e depth deep (run_fronts met places shared at (depth + 1) next told run k behind less) negated
      ];
      front = λ more.
          let above : at < next = run.above in
          let s = get_or shared next 0 in
          let few : s ≤ depth = (let f : s < depth + 1 = run.fewer (let a = told.many in omega arith) in omega arith) in
          let last : next - 1 + 1 ≡ next = omega arith in
          let step : take s (cube_in met places next) ≡ take s (cube_in met places (next - 1)) =
          subst (λ m. take (get_or shared m 0) (cube_in met places m) ≡ take (get_or shared m 0) (cube_in met places (next - 1))) last (told.fronts (next - 1) (omega arith)) in
          let back : take s (cube_in met places (next - 1)) ≡ take s e = same_shorter (cube_in met places (next - 1)) e s (depth + 1) (omega arith)
          (run_fronts met places shared at (depth + 1) next told run (next - 1) (omega arith) (omega arith)) in
          ap (λ xs. apart xs c) (step ∙ back) ∙ none_in_shorter (λ l. has_literal c (neg_ℤ l)) e s depth few clean;
    }

pub passes_itself : (met : List Met) (places shared : List ℕ) (place at : ℕ) →
    AreShared met places shared → Walked met places shared place at → at < length places → get_or places at 0 ≡ place →
    apart (cube_in met places at) (met_at met place).cube ≡ false →
    Walked met places shared place (at + 1)
passes_itself met places shared place at told walked inside itself clean =
    let c = (met_at met place).cube in
    let e = cube_in met places at in
    record {
      within = omega arith;
      earlier = λ k less other. elim (cases_lt k at) [
        | inl before ↦ walked.earlier k before other
        | inr behind ↦ (let same : k ≡ at = omega arith in absurd (other (ap (λ m. get_or places m 0) same ∙ itself)))
      ];
      front = λ more. ap (λ xs. apart xs c) (told.fronts at more) ∙ none_in_front (λ l. has_literal c (neg_ℤ l)) e (get_or shared (at + 1) 0) clean;
    }

-- where the walk has ended, each other cube is apart
pub walked_all : (met : List Met) (places shared : List ℕ) (place at : ℕ) → ArePlaces (length met) places → Walked met places shared place at → length places ≤ at →
    (j : ℕ) → j < length met → j ≢ place → apart (met_at met j).cube (met_at met place).cube ≡ true
walked_all met places shared place at told walked ended j inside other =
    let found : Contains places j = told.each j inside in
    let k = found.0 in
    let here : get_or places k 0 ≡ j = get_or_default places k 0 j found.1 ∙ found.2 in
    subst (λ i. apart (met_at met i).cube (met_at met place).cube ≡ true) here
    (walked.earlier k (let low : k < length places = found.1 in omega arith) (λ e. other (sym here ∙ e)))
