use Rattle.std.proofs.Common.{◌≡◌, ◌+◌, ◌<◌, ℕ, ℤ, pos, nat_abs, length, get_or, take, true, false, Some, None, sym, ap, subst, ◌∙◌, rules}
use mir.Syntax.{w32}
use mir.Val.{SFits}
use Rattle.std.proofs.lemmas.Int.{to_z-of_z}
use Rattle.sat_terms.proofs.Machine.{bits_from_same, same_from_bits}
use Rattle.chrono_trail.specs.Items.{item_of, value_in}
use Rattle.chrono_trail.proofs.Clauses.{SoFar, so_far_false, so_far_free, so_far_again, value_false, value_none, rest_from_true, rest_from_two}
use Rattle.chrono_trail.proofs.clause.scan.Goals as goal
use Rattle.chrono_trail.proofs.clause.scan.Goals.{in-Some-false, in-None+in-None-free, in-None+in-Some+else-other-lit}

pub returns-in-Some-true : goal.returns-in-Some-true
returns-in-Some-true c =
    let clause = c.args.clause.now in
    let items = c.args.trail.now.items in
    let i : ℕ = c.loop-lit.lit-index in
    let m : ℤ = get_or clause i (pos 0) in
    let fits : SFits w32 m = search rules in
    let inside : i < length clause = c.loop-lit-test.true in
    let named = (c.requires.variables i (pos 0) inside).0 in
    let value : value_in m (item_of items (nat_abs m)) ≡ Some true =
    subst (λ (z : ℤ). value_in z (item_of items (nat_abs z)) ≡ Some true) (to_z-of_z w32 m fits) (sym c.in-Some-true.ensures ∙ ap Some c.in-Some-true.field-0-test) in
    rest_from_true items clause i (pos 0) inside c.requires.distinct named value

pub returns-then-other-lit : goal.returns-then-other-lit
returns-then-other-lit c =
    let clause = c.args.clause.now in
    let items = c.args.trail.now.items in
    let i : ℕ = c.loop-lit.lit-index in
    let m : ℤ = get_or clause i (pos 0) in
    let fits : SFits w32 m = search rules in
    let inside : i < length clause = c.loop-lit-test.true in
    let free : item_of items (nat_abs m) ≡ None =
    value_none items m (subst (λ (z : ℤ). value_in z (item_of items (nat_abs z)) ≡ None) (to_z-of_z w32 m fits) (sym c.in-None.ensures)) in
    rest_from_two items clause c.in-Some.other i (pos 0) inside (subst (SoFar items (take i clause)) c.in-Some.is c.loop-lit.invariant) (λ same. c.if-other-lit.true (bits_from_same c.in-Some.other m same)) free

pub loop-lit-preserved : goal.loop-lit-preserved
loop-lit-preserved c =
    let clause = c.args.clause.now in
    let items = c.args.trail.now.items in
    let i : ℕ = c.loop-lit.lit-index in
    let m : ℤ = get_or clause i (pos 0) in
    let fits : SFits w32 m = search rules in
    let inside : i < length clause = c.loop-lit-test.true in
    let here : SoFar items (take (i + 1) clause) c.match-value.free =
    elim c.match-value.branch [
      | in-Some-false w ↦
          let value : value_in m (item_of items (nat_abs m)) ≡ Some false =
          subst (λ (z : ℤ). value_in z (item_of items (nat_abs z)) ≡ Some false) (to_z-of_z w32 m fits) (sym w.in-Some-false.ensures ∙ ap Some w.in-Some-false.field-0-test) in
          subst (SoFar items (take (i + 1) clause)) (sym w.free-is)
          (so_far_false items clause c.loop-lit.free i (pos 0) inside c.loop-lit.invariant (value_false items m value))
      | in-None+in-None-free w ↦
          let free : item_of items (nat_abs m) ≡ None =
          value_none items m (subst (λ (z : ℤ). value_in z (item_of items (nat_abs z)) ≡ None) (to_z-of_z w32 m fits) (sym w.in-None.ensures)) in
          subst (SoFar items (take (i + 1) clause)) (sym (w.free-is ∙ ap (λ (z : ℤ). Some z) (to_z-of_z w32 m fits)))
          (so_far_free items clause i (pos 0) inside (subst (SoFar items (take i clause)) w.in-None-free.is c.loop-lit.invariant) free)
      | in-None+in-Some+else-other-lit w ↦
          let other_fits : SFits w32 w.in-Some.other = search rules in
          subst (SoFar items (take (i + 1) clause)) (sym w.free-is)
          (so_far_again items clause w.in-Some.other i (pos 0) inside
          (subst (SoFar items (take i clause)) w.in-Some.is c.loop-lit.invariant)
          (same_from_bits w.in-Some.other m other_fits fits w.if-other-lit.false))
    ]
    in here
