use Rattle.std.proofs.Common.{◌≡◌, ◌≤◌, ℕ, ℤ, [], ◌∷◌, ◌++◌, length, ap, subst, ◌∙◌, arith, rules}
use mir.Syntax.{w32}
use mir.Val.{SFits, to_z, of_z}
use Rattle.std.proofs.lemmas.Int.{to_z-of_z}
use Rattle.sat_terms.specs.Literals.{IsLiteralOf}
use Rattle.sat_terms.proofs.Machine.{nat_abs-bits}
use Rattle.chrono_trail.specs.declared.item.Kind.TheVariants.{Implied}
use Rattle.chrono_trail.specs.Clauses.{IsUnit, IsAtRest}
use Rattle.plain_search.proofs.Looks.{clause_at}
use Rattle.plain_search.proofs.Moves.{unit_named, implied_runs, round_rests, round_ends}
use Rattle.plain_search.proofs.search.Search.propagate.Goals as goal
use Rattle.plain_search.proofs.search.Search.propagate.Goals.{in-Unit, in-Neither}

named : (c : goal.After-assign-arg-1) → IsLiteralOf c.loop-place.self.trail.variables (to_z w32 (of_z w32 c.in-Unit.lit))
named c =
    let at = clause_at c.args.subject.now.formula.clauses c.as_slice-clause-items.result.now c.loop-place.place c.clause-item.result c.lits.result.now
    c.as_slice-clause-items.ensures c.loop-place-test.true c.clause-item.is c.lits.ensures.same in
    let fits : SFits w32 c.in-Unit.lit = search rules in
    let here = unit_named c.args.subject.now c.loop-place.self c.loop-place.place c.in-Unit.lit c.loop-place.invariant.searching at.0
    (subst (IsUnit c.loop-place.self.trail.items c.in-Unit.lit) at.1 c.in-Unit.ensures) in
    let same = c.loop-place.invariant.searching.variables in
    let bits = nat_abs-bits c.in-Unit.lit fits in
    let (above, below) = here in
    (omega arith, omega arith)

pub assign-requires-clause-named : goal.assign-requires-clause-named
assign-requires-clause-named c = (named c).0

pub assign-requires-clause-within : goal.assign-requires-clause-within
assign-requires-clause-within c = (named c).1

pub loop-place-preserved : goal.loop-place-preserved
loop-place-preserved c =
    let s = c.args.subject.now in
    let old = c.loop-place.self in
    let i : ℕ = c.loop-place.place in
    let at = clause_at s.formula.clauses c.as_slice-clause-items.result.now i c.clause-item.result c.lits.result.now
    c.as_slice-clause-items.ensures c.loop-place-test.true c.clause-item.is c.lits.ensures.same in
    elim c.match-scan.branch [
      | in-Unit w ↦
          let lit : ℤ = w.in-Unit.lit in
          let fits : SFits w32 lit = search rules in
          let grown : w.assign.new.self.items ≡ old.trail.items ++ record { lit = lit; level = old.trail.level; kind = Implied i } ∷ [] =
          w.assign.ensures.items
          ∙ ap (λ (z : ℤ). old.trail.items ++ record { lit = z; level = c.level-level.result; kind = Implied i } ∷ []) (to_z-of_z w32 lit fits)
          ∙ ap (λ k. old.trail.items ++ record { lit = lit; level = k; kind = Implied i } ∷ []) c.level-level.ensures.level in
          let on = implied_runs s old w.assign.new.self i lit c.loop-place.invariant.searching c.level-level.ensures.trail at.0
          (subst (IsUnit old.trail.items lit) at.1 w.in-Unit.ensures) grown w.assign.ensures.level w.assign.ensures.variables in
          let fewer = on.less in
          let before = c.loop-place.invariant.left in
          rw (w.self-is, w.propagated-is) (record { searching = on.searching; left = omega arith; outcome = omega arith })
      | in-Neither w ↦
          rw (w.self-is, w.propagated-is) (record {
            searching = c.loop-place.invariant.searching;
            left = c.loop-place.invariant.left;
            outcome = round_rests s c.args.self.now old i c.loop-place.propagated at.0 c.loop-place.invariant.outcome
                (subst (IsAtRest old.trail.items) at.1 w.in-Neither.ensures);
          })
    ]

pub returns-clause-outcome : goal.returns-clause-outcome
returns-clause-outcome c =
    round_ends c.args.subject.now c.args.self.now c.loop-place.self c.loop-place.place c.loop-place.propagated
    (subst (λ xs. length xs ≤ c.loop-place.place) c.as_slice-clause-items.ensures c.loop-place-test.false) c.loop-place.invariant.outcome
