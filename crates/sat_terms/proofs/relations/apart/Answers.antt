use Rattle.std.proofs.Common.{◌≡◌, ◌<◌, get_or, sym, ◌∙◌, arith, rules}
use Rattle.std.specs.Prelude.{pos, nat_abs}
use mir.Syntax.{w32}
use mir.Val.{SFits}
use Rattle.sat_terms.proofs.Machine.{same_from_bits, nat_abs-bits}
use Rattle.sat_terms.proofs.CubeLemmas.{apart-step_left, apart-step_right, apart-step_both, apart-step_end_right}
use Rattle.sat_terms.proofs.relations.apart.Goals as goal

pub loop-i-preserved-then-left-right : goal.loop-i-preserved-then-left-right
loop-i-preserved-then-left-right c =
    let left : SFits w32 (get_or c.args.c.now c.loop-i.i (pos 0)) = search rules in
    let right : SFits w32 (get_or c.args.d.now c.loop-i.j (pos 0)) = search rules in
    let below : nat_abs (get_or c.args.c.now c.loop-i.i (pos 0)) < nat_abs (get_or c.args.d.now c.loop-i.j (pos 0)) =
    omega (arith, c.unsigned_abs-left.ensures.value, c.unsigned_abs-right.ensures.value, nat_abs-bits _ left, nat_abs-bits _ right) in
    (omega arith, omega arith, c.loop-i.invariant.2 ∙ apart-step_left c.args.c.now c.args.d.now c.loop-i.i c.loop-i.j c.loop-i-test.true c.if-j-d.true c.requires.right below)

pub loop-i-preserved-then-right-left : goal.loop-i-preserved-then-right-left
loop-i-preserved-then-right-left c =
    let left : SFits w32 (get_or c.args.c.now c.loop-i.i (pos 0)) = search rules in
    let right : SFits w32 (get_or c.args.d.now c.loop-i.j (pos 0)) = search rules in
    let below : nat_abs (get_or c.args.d.now c.loop-i.j (pos 0)) < nat_abs (get_or c.args.c.now c.loop-i.i (pos 0)) =
    omega (arith, c.unsigned_abs-left.ensures.value, c.unsigned_abs-right.ensures.value, nat_abs-bits _ left, nat_abs-bits _ right) in
    (omega arith, omega arith, c.loop-i.invariant.2 ∙ apart-step_right c.args.c.now c.args.d.now c.loop-i.i c.loop-i.j c.loop-i-test.true c.if-j-d.true c.requires.left below)

pub loop-i-preserved : goal.loop-i-preserved
loop-i-preserved c =
    let left : SFits w32 (get_or c.args.c.now c.loop-i.i (pos 0)) = search rules in
    let right : SFits w32 (get_or c.args.d.now c.loop-i.j (pos 0)) = search rules in
    let same : get_or c.args.c.now c.loop-i.i (pos 0) ≡ get_or c.args.d.now c.loop-i.j (pos 0) = same_from_bits _ _ left right c.if-c-i.true in
    (omega arith, omega arith, c.loop-i.invariant.2 ∙ apart-step_both c.args.c.now c.args.d.now c.loop-i.i c.loop-i.j c.loop-i-test.true c.if-j-d.true c.requires.left c.requires.right same)

pub returns-else-j-d : goal.returns-else-j-d
returns-else-j-d c = sym (c.loop-i.invariant.2 ∙ apart-step_end_right c.args.c.now c.args.d.now c.loop-i.i c.loop-i.j c.if-j-d.false)
