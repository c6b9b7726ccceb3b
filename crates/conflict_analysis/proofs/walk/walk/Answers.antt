use Rattle.std.proofs.Common.{◌≡◌, ℕ, ◌+◌, ◌-◌, ◌<◌, pos, [], length, get_or, sym, ap, subst, refl, arith}
use Rattle.chrono_trail.proofs.Room.{items_bound}
use Rattle.conflict_analysis.specs.Walks.{IsWalk}
use Rattle.conflict_analysis.proofs.Counts.{AreMarked}
use Rattle.conflict_analysis.proofs.Ends.{begins, some_left, ends}
use Rattle.conflict_analysis.proofs.walk.walk.Goals as goal

pub loop-left-init : goal.loop-left-init
loop-left-init c =
    let clauses = c.args.arena.now.clauses in
    let trail = c.args.trail.now in
    let old = c.args.marks.now.items in
    let marks = c.mark_others-left.new.marks.items in
    let left : ℕ = c.mark_others-left.result in
    let id : ℕ = c.args.id in
    let told : AreMarked old (pos 0) c.lits.result.now marks = c.mark_others-left.ensures.marks in
    let marked : AreMarked old (pos 0) (get_or clauses id []) marks = subst (λ cl. AreMarked old (pos 0) cl marks) c.lits.ensures.clause told in
    let start = begins clauses trail.variables trail.items trail.level id old marks left (record { trail = c.items-at.ensures.trail; named = c.requires.named; reasoned = c.requires.reasoned }) c.requires.inside c.requires.wrong c.requires.clean marked c.mark_others-left.ensures.counted in
    record {
      long = refl;
      wide = refl;
      walk = subst (λ xs. IsWalk clauses trail.variables trail.items id (length c.items-at.result.now) marks xs left) (sym c.requires.empty)
          (subst (λ k. IsWalk clauses trail.variables trail.items id k marks [] left) (ap length (sym c.items-at.ensures.items)) start);
    }

pub overflow_sub-at : goal.overflow_sub-at
overflow_sub-at c =
    let trail = c.args.trail.now in
    let some = some_left c.args.arena.now.clauses trail.variables trail.items c.args.id c.loop-left.at c.loop-left.marks.items c.loop-left.lits.items c.loop-left.left c.loop-left.invariant.walk c.loop-left-test.true in
    omega arith

pub visit-left-requires-clause-walkable : goal.visit-left-requires-clause-walkable
visit-left-requires-clause-walkable c = record { trail = c.items-at.ensures.trail; named = c.requires.named; reasoned = c.requires.reasoned }

pub visit-left-requires-clause-room : goal.visit-left-requires-clause-room
visit-left-requires-clause-room c =
    let trail = c.args.trail.now in
    let few = items_bound trail.variables trail.items trail.level c.items-at.ensures.trail in
    let wide = c.loop-left.invariant.wide in
    let room = c.requires.room in
    omega arith

pub visit-left-requires-clause-walk : goal.visit-left-requires-clause-walk
visit-left-requires-clause-walk c =
    let trail = c.args.trail.now in
    let clauses = c.args.arena.now.clauses in
    let at : ℕ = c.loop-left.at in
    let some = some_left clauses trail.variables trail.items c.args.id at c.loop-left.marks.items c.loop-left.lits.items c.loop-left.left c.loop-left.invariant.walk c.loop-left-test.true in
    let back : at ≡ at - 1 + 1 = omega arith in
    subst (λ k. IsWalk clauses trail.variables trail.items c.args.id k c.loop-left.marks.items c.loop-left.lits.items c.loop-left.left) back c.loop-left.invariant.walk

pub loop-left-smaller : goal.loop-left-smaller
loop-left-smaller c =
    let trail = c.args.trail.now in
    let some = some_left c.args.arena.now.clauses trail.variables trail.items c.args.id c.loop-left.at c.loop-left.marks.items c.loop-left.lits.items c.loop-left.left c.loop-left.invariant.walk c.loop-left-test.true in
    let goal_is : c.loop-left.at - 1 < c.loop-left.at = omega arith in
    goal_is

pub returns-clause-resolvent : goal.returns-clause-resolvent
returns-clause-resolvent c =
    let trail = c.args.trail.now in
    let none : c.loop-left.left ≡ 0 = (let over = c.loop-left-test.false in omega arith) in
    (ends c.args.arena.now.clauses trail.variables trail.items c.args.id c.loop-left.at c.loop-left.marks.items c.loop-left.lits.items c.loop-left.left c.loop-left.invariant.walk none).1
