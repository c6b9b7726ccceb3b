use Rattle.std.proofs.Common.{◌∙◌, ◌≤◌, length, vec_capacity, ap, sym, subst₂}
use Rattle.live_engine.proofs.Runs.{keeps_then, comes_then, full_keeps}
use Rattle.live_engine.proofs.search.Search.next_leaf.Goals as goal

pub returns-in-Some : goal.returns-in-Some
returns-in-Some c =
    comes_then c.args.self.now c.propagate.new.self c.on_conflict.new.self c.in-Some.step c.requires.searching.ground.based
    (keeps_then c.args.self.now c.loop-id.self c.propagate.new.self c.requires.searching.ground.based c.loop-id.invariant.keeps c.propagate.ensures.keeps) c.in-Some.ensures

pub loop-id-preserved-in_default : goal.loop-id-preserved-in_default
loop-id-preserved-in_default c = record {
  searching = c.in_default.ensures.searching;
  keeps = keeps_then c.args.self.now c.propagate.new.self c.on_conflict.new.self c.requires.searching.ground.based
      (keeps_then c.args.self.now c.loop-id.self c.propagate.new.self c.requires.searching.ground.based c.loop-id.invariant.keeps c.propagate.ensures.keeps) c.in_default.ensures.keeps;
  spare = c.loop-id.invariant.spare;
}

pub on_model-requires-clause-empty : goal.on_model-requires-clause-empty
on_model-requires-clause-empty c = ap (λ v. v.items) c.loop-id.invariant.spare ∙ c.requires.empty

pub on_model-requires-clause-room : goal.on_model-requires-clause-room
on_model-requires-clause-room c =
    let whole = keeps_then c.args.self.now c.propagate.new.self c.decide.new.self c.requires.searching.ground.based
    (keeps_then c.args.self.now c.loop-id.self c.propagate.new.self c.requires.searching.ground.based c.loop-id.invariant.keeps c.propagate.ensures.keeps)
    (full_keeps c.propagate.new.self c.decide.new.self c.if-not-decide.ensures) in
    subst₂ (λ p spare. length p.items ≤ vec_capacity spare) (sym whole.job.shown) (sym c.loop-id.invariant.spare) c.requires.room

pub returns-then-not-decide : goal.returns-then-not-decide
returns-then-not-decide c =
    comes_then c.args.self.now c.decide.new.self c.on_model.new.self c.on_model.result c.requires.searching.ground.based
    (keeps_then c.args.self.now c.propagate.new.self c.decide.new.self c.requires.searching.ground.based
    (keeps_then c.args.self.now c.loop-id.self c.propagate.new.self c.requires.searching.ground.based c.loop-id.invariant.keeps c.propagate.ensures.keeps)
    (full_keeps c.propagate.new.self c.decide.new.self c.if-not-decide.ensures)) c.on_model.ensures

pub loop-id-preserved : goal.loop-id-preserved
loop-id-preserved c = record {
  searching = c.if-not-decide.ensures.searching;
  keeps = keeps_then c.args.self.now c.propagate.new.self c.decide.new.self c.requires.searching.ground.based
      (keeps_then c.args.self.now c.loop-id.self c.propagate.new.self c.requires.searching.ground.based c.loop-id.invariant.keeps c.propagate.ensures.keeps) c.if-not-decide.ensures.keeps;
  spare = c.loop-id.invariant.spare;
}
