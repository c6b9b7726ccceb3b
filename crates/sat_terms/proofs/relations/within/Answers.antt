use Rattle.std.proofs.Common.{◌≡◌, ◌<◌, ◌≤◌, length, get_or, sym, ◌∙◌, arith, rules}
use Rattle.std.specs.Prelude.{pos, nat_abs}
use mir.Syntax.{w32}
use mir.Val.{SFits}
use Rattle.sat_terms.proofs.Machine.{same_from_bits, bits_from_same, nat_abs-bits}
use Rattle.sat_terms.proofs.CubeLemmas.{within-step_left, within-step_both, within-step_missed, within-step_end_left}
use Rattle.sat_terms.proofs.relations.within.Goals as goal

pub returns-then-i-c : goal.returns-then-i-c
returns-then-i-c c =
    let past : length c.args.c.now ≤ c.loop-j.i = omega arith in
    sym (c.loop-j.invariant.2 ∙ within-step_end_left c.args.c.now c.args.d.now c.loop-j.i c.loop-j.j past c.loop-j-test.true)

pub loop-j-preserved-then-unsigned_abs : goal.loop-j-preserved-then-unsigned_abs
loop-j-preserved-then-unsigned_abs c =
    let inner : c.loop-j.i < length c.args.c.now = omega arith in
    let left : SFits w32 (get_or c.args.c.now c.loop-j.i (pos 0)) = search rules in
    let right : SFits w32 (get_or c.args.d.now c.loop-j.j (pos 0)) = search rules in
    let below : nat_abs (get_or c.args.c.now c.loop-j.i (pos 0)) < nat_abs (get_or c.args.d.now c.loop-j.j (pos 0)) =
    omega (arith, c.unsigned_abs.ensures.value, c.unsigned_abs-in-loop-j.ensures.value, nat_abs-bits _ left, nat_abs-bits _ right) in
    (omega arith, omega arith, c.loop-j.invariant.2 ∙ within-step_left c.args.c.now c.args.d.now c.loop-j.i c.loop-j.j inner c.loop-j-test.true c.requires.outer below)

pub loop-j-preserved : goal.loop-j-preserved
loop-j-preserved c =
    let inner : c.loop-j.i < length c.args.c.now = omega arith in
    let left : SFits w32 (get_or c.args.c.now c.loop-j.i (pos 0)) = search rules in
    let right : SFits w32 (get_or c.args.d.now c.loop-j.j (pos 0)) = search rules in
    let same : get_or c.args.c.now c.loop-j.i (pos 0) ≡ get_or c.args.d.now c.loop-j.j (pos 0) = same_from_bits _ _ left right c.if-c-i.true in
    (omega arith, omega arith, c.loop-j.invariant.2 ∙ within-step_both c.args.c.now c.args.d.now c.loop-j.i c.loop-j.j inner c.loop-j-test.true c.requires.outer same)

pub returns-else-c-i : goal.returns-else-c-i
returns-else-c-i c =
    let inner : c.loop-j.i < length c.args.c.now = omega arith in
    let left : SFits w32 (get_or c.args.c.now c.loop-j.i (pos 0)) = search rules in
    let right : SFits w32 (get_or c.args.d.now c.loop-j.j (pos 0)) = search rules in
    let above : nat_abs (get_or c.args.d.now c.loop-j.j (pos 0)) ≤ nat_abs (get_or c.args.c.now c.loop-j.i (pos 0)) =
    omega (arith, c.unsigned_abs.ensures.value, c.unsigned_abs-in-loop-j.ensures.value, nat_abs-bits _ left, nat_abs-bits _ right) in
    let other : get_or c.args.c.now c.loop-j.i (pos 0) ≡ get_or c.args.d.now c.loop-j.j (pos 0) → ⊥ = λ e. c.if-c-i.false (bits_from_same _ _ e) in
    sym (c.loop-j.invariant.2 ∙ within-step_missed c.args.c.now c.args.d.now c.loop-j.i c.loop-j.j inner c.loop-j-test.true c.requires.inner above other)
