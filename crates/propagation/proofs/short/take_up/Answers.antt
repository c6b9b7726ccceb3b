use Rattle.std.proofs.Common.{◌≡◌, ℕ, true, false, [], length, get_or, refl, sym, ap, ◌∙◌, arith}
use Rattle.std.proofs.lemmas.Bool.{both_ways}
use Rattle.std.specs.List.{list_any}
use Rattle.chrono_trail.specs.Trails.{TrailView}
use Rattle.chrono_trail.specs.Clauses.{is_true}
use Rattle.propagation.specs.Settled.{is_held}
use Rattle.propagation.proofs.Steps.{and_then}
use Rattle.propagation.proofs.Lists.{same_but}
use Rattle.propagation.proofs.Shorts.{met_from_held, met_steps, held_steps, met_next, held_next}
use Rattle.propagation.proofs.short.take_up.Goals as goal
use Rattle.propagation.proofs.short.take_up.Goals.{then-lits-lt2+in-Held, then-lits-lt2+in-Met, else-lits-lt2}

pub loop-id-preserved : goal.loop-id-preserved
loop-id-preserved c =
    let clauses = c.args.arena.now.clauses in
    let old : TrailView = c.args.trail.now in
    let trail : TrailView = c.loop-id.trail in
    let id : ℕ = c.loop-id.id in
    let inv = c.loop-id.invariant in
    elim c.if-lits-lt2.branch [
      | then-lits-lt2+in-Held w ↦
          let new : TrailView = w.take_one.new.trail in
          let e = w.take_one.ensures in
          let here : is_held new.items (get_or clauses id []) ≡ true = w.in-Held.ensures.outcome in
          rw w.trail-is (record {
            trail = e.trail;
            steps = and_then clauses old.items trail.items new.items inv.steps e.steps;
            same = same_but old trail new inv.same e.same;
            met = met_next clauses new.items id (met_steps clauses trail.items new.items id e.steps inv.met) (λ short. met_from_held new.items (get_or clauses id []) here);
            held = λ all. held_next clauses new.items id (held_steps clauses trail.items new.items id e.steps (inv.held (sym w.held-is ∙ all))) (λ short. here);
          })
      | then-lits-lt2+in-Met w ↦
          let new : TrailView = w.take_one.new.trail in
          let e = w.take_one.ensures in
          let here : list_any (is_true new.items) (get_or clauses id []) ≡ true = w.in-Met.ensures.outcome in
          rw w.trail-is (record {
            trail = e.trail;
            steps = and_then clauses old.items trail.items new.items inv.steps e.steps;
            same = same_but old trail new inv.same e.same;
            met = met_next clauses new.items id (met_steps clauses trail.items new.items id e.steps inv.met) (λ short. here);
            held = λ all. absurd (both_ways false refl (sym w.held-is ∙ all));
          })
      | else-lits-lt2 w ↦
          let long = w.if-lits-lt2.false in
          let lits_is = ap length c.lits.ensures.clause in
          rw w.trail-is (record {
            trail = inv.trail;
            steps = inv.steps;
            same = inv.same;
            met = met_next clauses trail.items id inv.met (λ short. absurd (omega arith));
            held = λ all. held_next clauses trail.items id (inv.held (sym w.held-is ∙ all)) (λ short. absurd (omega arith));
          })
    ]

pub returns-in-Wrong-clause-steps : goal.returns-in-Wrong-clause-steps
returns-in-Wrong-clause-steps c = and_then c.args.arena.now.clauses c.args.trail.now.items c.loop-id.trail.items c.take_one.new.trail.items c.loop-id.invariant.steps c.take_one.ensures.steps
