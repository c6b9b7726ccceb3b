use Rattle.std.proofs.Common.{◌<◌, ◌-◌, ℕ, Option, IfSome, [], get_or, pos, refl, sym, subst, arith}
use Rattle.chrono_trail.specs.Clauses.{rest_level}
use Rattle.chrono_trail.specs.declared.item.Kind.TheVariants.{Flipped, Turned}
use Rattle.live_engine.specs.Learning.{TurnsAt}
use Rattle.live_engine.proofs.Others.{back_named, back_free, put_turns}
use Rattle.live_engine.proofs.Lessons.{taught_settled, taught_decided, kept_back, lost_back, taught_turns}
use Rattle.live_engine.proofs.search.Search.turn.Goals as goal

pub take_up-requires-clause-settled : goal.take_up-requires-clause-settled
take_up-requires-clause-settled c = taught_settled c.args.self.now c.requires.searching.ground c.learn.new.self c.take_back-decision.new.self c.args.level (rest_level c.args.self.now.trail.items (pos 0) (get_or c.args.self.now.arena.clauses c.args.id [])) c.in-Some.taught c.take_back-decision.result c.in-Some.ensures c.take_back-decision.ensures

pub put_other-requires-clause-named : goal.put_other-requires-clause-named
put_other-requires-clause-named c = (back_named c.args.self.now c.args.level c.take_back-decision.result c.requires.searching.ground (taught_decided c.args.self.now c.requires.searching.ground c.learn.new.self c.take_back-decision.new.self c.args.level (rest_level c.args.self.now.trail.items (pos 0) (get_or c.args.self.now.arena.clauses c.args.id [])) c.in-Some.taught c.take_back-decision.result c.in-Some.ensures c.take_back-decision.ensures)).0

pub put_other-requires-clause-of : goal.put_other-requires-clause-of
put_other-requires-clause-of c =
    let low = (back_named c.args.self.now c.args.level c.take_back-decision.result c.requires.searching.ground (taught_decided c.args.self.now c.requires.searching.ground c.learn.new.self c.take_back-decision.new.self c.args.level (rest_level c.args.self.now.trail.items (pos 0) (get_or c.args.self.now.arena.clauses c.args.id [])) c.in-Some.taught c.take_back-decision.result c.in-Some.ensures c.take_back-decision.ensures)).1 in
    let same = (lost_back c.args.self.now c.requires.searching.ground c.learn.new.self c.take_back-decision.new.self c.args.level (rest_level c.args.self.now.trail.items (pos 0) (get_or c.args.self.now.arena.clauses c.args.id [])) c.in-Some.taught c.take_back-decision.result c.in-Some.ensures c.take_back-decision.ensures c.take_up.new.self c.if-not-take_up.ensures).variables in omega arith

pub put_other-requires-clause-free : goal.put_other-requires-clause-free
put_other-requires-clause-free c =
    back_free c.args.self.now c.take_up.new.self.trail.items c.args.level c.take_back-decision.result c.requires.searching.ground
    (let some = c.requires.some in let above : 0 < c.args.level = omega arith in above) (taught_decided c.args.self.now c.requires.searching.ground c.learn.new.self c.take_back-decision.new.self c.args.level (rest_level c.args.self.now.trail.items (pos 0) (get_or c.args.self.now.arena.clauses c.args.id [])) c.in-Some.taught c.take_back-decision.result c.in-Some.ensures c.take_back-decision.ensures) (lost_back c.args.self.now c.requires.searching.ground c.learn.new.self c.take_back-decision.new.self c.args.level (rest_level c.args.self.now.trail.items (pos 0) (get_or c.args.self.now.arena.clauses c.args.id [])) c.in-Some.taught c.take_back-decision.result c.in-Some.ensures c.take_back-decision.ensures c.take_up.new.self c.if-not-take_up.ensures).items

pub returns-then-not-take_up : goal.returns-then-not-take_up
returns-then-not-take_up c =
    put_turns c.args.self.now c.take_up.new.self c.put_other.new.self c.args.level (c.args.level - 1) c.take_back-decision.result Flipped c.put_other.result
    (lost_back c.args.self.now c.requires.searching.ground c.learn.new.self c.take_back-decision.new.self c.args.level (rest_level c.args.self.now.trail.items (pos 0) (get_or c.args.self.now.arena.clauses c.args.id [])) c.in-Some.taught c.take_back-decision.result c.in-Some.ensures c.take_back-decision.ensures c.take_up.new.self c.if-not-take_up.ensures) c.put_other.ensures refl

pub put_other-requires-in-Some-level-clause-named : goal.put_other-requires-in-Some-level-clause-named
put_other-requires-in-Some-level-clause-named c = (back_named c.args.self.now c.args.level c.take_back-decision.result c.requires.searching.ground (taught_decided c.args.self.now c.requires.searching.ground c.learn.new.self c.take_back-decision.new.self c.args.level (rest_level c.args.self.now.trail.items (pos 0) (get_or c.args.self.now.arena.clauses c.args.id [])) c.in-Some.taught c.take_back-decision.result c.in-Some.ensures c.take_back-decision.ensures)).0

pub put_other-requires-in-Some-level-clause-of : goal.put_other-requires-in-Some-level-clause-of
put_other-requires-in-Some-level-clause-of c =
    let low = (back_named c.args.self.now c.args.level c.take_back-decision.result c.requires.searching.ground (taught_decided c.args.self.now c.requires.searching.ground c.learn.new.self c.take_back-decision.new.self c.args.level (rest_level c.args.self.now.trail.items (pos 0) (get_or c.args.self.now.arena.clauses c.args.id [])) c.in-Some.taught c.take_back-decision.result c.in-Some.ensures c.take_back-decision.ensures)).1 in
    let same = (kept_back c.args.self.now c.requires.searching.ground c.learn.new.self c.take_back-decision.new.self c.args.level (rest_level c.args.self.now.trail.items (pos 0) (get_or c.args.self.now.arena.clauses c.args.id [])) c.in-Some.taught c.take_back-decision.result c.in-Some.ensures c.take_back-decision.ensures c.take_up.new.self c.if-not-take_up.ensures).variables in omega arith

pub put_other-requires-in-Some-level-clause-free : goal.put_other-requires-in-Some-level-clause-free
put_other-requires-in-Some-level-clause-free c =
    back_free c.args.self.now c.take_up.new.self.trail.items c.args.level c.take_back-decision.result c.requires.searching.ground
    (let some = c.requires.some in let above : 0 < c.args.level = omega arith in above) (taught_decided c.args.self.now c.requires.searching.ground c.learn.new.self c.take_back-decision.new.self c.args.level (rest_level c.args.self.now.trail.items (pos 0) (get_or c.args.self.now.arena.clauses c.args.id [])) c.in-Some.taught c.take_back-decision.result c.in-Some.ensures c.take_back-decision.ensures) (kept_back c.args.self.now c.requires.searching.ground c.learn.new.self c.take_back-decision.new.self c.args.level (rest_level c.args.self.now.trail.items (pos 0) (get_or c.args.self.now.arena.clauses c.args.id [])) c.in-Some.taught c.take_back-decision.result c.in-Some.ensures c.take_back-decision.ensures c.take_up.new.self c.if-not-take_up.ensures).items

pub put_other-requires-in-None-clause-named : goal.put_other-requires-in-None-clause-named
put_other-requires-in-None-clause-named c = (back_named c.args.self.now c.args.level c.take_back-decision.result c.requires.searching.ground (taught_decided c.args.self.now c.requires.searching.ground c.learn.new.self c.take_back-decision.new.self c.args.level (rest_level c.args.self.now.trail.items (pos 0) (get_or c.args.self.now.arena.clauses c.args.id [])) c.in-Some.taught c.take_back-decision.result c.in-Some.ensures c.take_back-decision.ensures)).0

pub put_other-requires-in-None-clause-of : goal.put_other-requires-in-None-clause-of
put_other-requires-in-None-clause-of c =
    let low = (back_named c.args.self.now c.args.level c.take_back-decision.result c.requires.searching.ground (taught_decided c.args.self.now c.requires.searching.ground c.learn.new.self c.take_back-decision.new.self c.args.level (rest_level c.args.self.now.trail.items (pos 0) (get_or c.args.self.now.arena.clauses c.args.id [])) c.in-Some.taught c.take_back-decision.result c.in-Some.ensures c.take_back-decision.ensures)).1 in
    let same = (kept_back c.args.self.now c.requires.searching.ground c.learn.new.self c.take_back-decision.new.self c.args.level (rest_level c.args.self.now.trail.items (pos 0) (get_or c.args.self.now.arena.clauses c.args.id [])) c.in-Some.taught c.take_back-decision.result c.in-Some.ensures c.take_back-decision.ensures c.take_up.new.self c.if-not-take_up.ensures).variables in omega arith

pub put_other-requires-in-None-clause-free : goal.put_other-requires-in-None-clause-free
put_other-requires-in-None-clause-free c =
    back_free c.args.self.now c.take_up.new.self.trail.items c.args.level c.take_back-decision.result c.requires.searching.ground
    (let some = c.requires.some in let above : 0 < c.args.level = omega arith in above) (taught_decided c.args.self.now c.requires.searching.ground c.learn.new.self c.take_back-decision.new.self c.args.level (rest_level c.args.self.now.trail.items (pos 0) (get_or c.args.self.now.arena.clauses c.args.id [])) c.in-Some.taught c.take_back-decision.result c.in-Some.ensures c.take_back-decision.ensures) (kept_back c.args.self.now c.requires.searching.ground c.learn.new.self c.take_back-decision.new.self c.args.level (rest_level c.args.self.now.trail.items (pos 0) (get_or c.args.self.now.arena.clauses c.args.id [])) c.in-Some.taught c.take_back-decision.result c.in-Some.ensures c.take_back-decision.ensures c.take_up.new.self c.if-not-take_up.ensures).items

pub returns-in-Some-level : goal.returns-in-Some-level
returns-in-Some-level c =
    put_turns c.args.self.now c.take_up.new.self c.put_other-in-Some-level.new.self c.args.level c.in-Some-level.below c.take_back-decision.result (Turned c.in-Some.taught.id) c.put_other-in-Some-level.result
    (kept_back c.args.self.now c.requires.searching.ground c.learn.new.self c.take_back-decision.new.self c.args.level (rest_level c.args.self.now.trail.items (pos 0) (get_or c.args.self.now.arena.clauses c.args.id [])) c.in-Some.taught c.take_back-decision.result c.in-Some.ensures c.take_back-decision.ensures c.take_up.new.self c.if-not-take_up.ensures) c.put_other-in-Some-level.ensures
    (taught_turns c.args.self.now c.requires.searching.ground c.learn.new.self c.take_back-decision.new.self c.args.level (rest_level c.args.self.now.trail.items (pos 0) (get_or c.args.self.now.arena.clauses c.args.id [])) c.in-Some.taught c.take_back-decision.result c.in-Some.ensures c.take_back-decision.ensures c.take_up.new.self c.if-not-take_up.ensures c.in-Some-level.below
    (subst (λ (o : Option ℕ). IfSome o (TurnsAt c.args.self.now.trail.items (rest_level c.args.self.now.trail.items (pos 0) (get_or c.args.self.now.arena.clauses c.args.id [])) c.in-Some.ensures.clause)) c.in-Some-level.is c.in-Some.ensures.turns)
    (sym c.requires.conflict))

pub returns-in-None : goal.returns-in-None
returns-in-None c =
    put_turns c.args.self.now c.take_up.new.self c.put_other-in-None.new.self c.args.level (c.args.level - 1) c.take_back-decision.result Flipped c.put_other-in-None.result
    (kept_back c.args.self.now c.requires.searching.ground c.learn.new.self c.take_back-decision.new.self c.args.level (rest_level c.args.self.now.trail.items (pos 0) (get_or c.args.self.now.arena.clauses c.args.id [])) c.in-Some.taught c.take_back-decision.result c.in-Some.ensures c.take_back-decision.ensures c.take_up.new.self c.if-not-take_up.ensures) c.put_other-in-None.ensures refl
