use Rattle.std.proofs.Common.{◌≤◌, ℕ, ℤ, pos, ◌-◌, refl, sym, ap, subst, ◌∙◌, rules}
use Rattle.std.specs.List.{All}
use mir.Syntax.{w32}
use mir.Val.{SFits}
use Rattle.std.proofs.lemmas.Int.{to_z-of_z}
use Rattle.sat_terms.specs.Literals.{IsLiteralOf}
use Rattle.chrono_trail.specs.Clauses.{rest_level}
use Rattle.conflict_analysis.specs.Lemmas.{IsResolvent}
use Rattle.conflict_analysis.proofs.Turns.{resolvent_turned}
use Rattle.conflict_analysis.proofs.Reasons.{level_low}
use Rattle.conflict_analysis.proofs.analyser.Analyser.analyse.Goals as goal

pub asserted-asserts-requires : goal.asserted-asserts-requires
asserted-asserts-requires c =
    let trail = c.args.trail.now in
    subst (λ k. k ≤ trail.level) (sym c.level_of_rest-conflict_level.ensures)
    (level_low trail.variables trail.items trail.level (pos 0) c.lits.result.now c.walk.ensures.trail)

pub level_of_rest-rest_level-requires : goal.level_of_rest-rest_level-requires
level_of_rest-rest_level-requires c =
    let trail = c.args.trail.now in
    let turned = resolvent_turned c.args.arena.now.clauses trail.variables trail.items c.args.id c.walk.new.lits.items c.walk.ensures.resolvent in
    subst (All (IsLiteralOf trail.variables)) (sym (c.as_slice-lits.ensures.value ∙ c.settle.ensures.lits)) turned.named

pub returns : goal.returns
returns c =
    let trail = c.args.trail.now in
    let items = c.args.trail.now.items in
    let clauses = c.args.arena.now.clauses in
    let lits = c.as_slice-lits.result.now in
    let id : ℕ = c.args.id in
    let turned = resolvent_turned clauses trail.variables trail.items id c.walk.new.lits.items c.walk.ensures.resolvent in
    let other : ℤ = c.unwrap_or.result in
    let fits : SFits w32 c.unwrap_or.result = search rules in (
      (refl, (λ _. tt), ap (λ n. n - 1) c.walk.ensures.places ∙ c.self.view_is),
      record {
        kept = tt;
        learnt = record {
          resolvent = subst (IsResolvent clauses trail.variables trail.items id) (sym (c.as_slice-lits.ensures.value ∙ c.settle.ensures.lits)) turned;
          conflict = c.level_of_rest-conflict_level.ensures ∙ ap (rest_level items (pos 0)) c.lits.ensures.clause;
          asserts = c.asserted-asserts.ensures;
          rest = c.level_of_rest-rest_level.ensures ∙ ap (λ (l : ℤ). rest_level items l lits) (to_z-of_z w32 c.unwrap_or.result fits ∙ c.unwrap_or.ensures);
        };
      },
    )
