use Rattle.std.proofs.Common.{ℕ, ◌-◌, length, get_or, subst, ap, arith}
use Rattle.chrono_trail.specs.Items.{IsDecisionAt}
use Rattle.chrono_trail.proofs.Decisions.{decisions_count, decision_told}
use Rattle.chrono_trail.proofs.trail.place_of.Goals as goal

pub bounds-decided-level : goal.bounds-decided-level
bounds-decided-level c =
    let count = decisions_count 0 0 c.args.items.now c.requires.stands in
    let stack = ap length c.requires.stack in
    let some = c.requires.some in
    let within = c.requires.within in
    omega arith

pub returns : goal.returns
returns c =
    let items = c.args.items.now in
    let decided = c.args.decided.now in
    let k : ℕ = c.args.level in
    let count = decisions_count 0 0 items c.requires.stands in
    let stack = ap length c.requires.stack in
    let some = c.requires.some in
    let within = c.requires.within in
    let told = decision_told 0 k 0 items c.requires.stands some within in
    let there = told.told in
    let same = ap (λ xs. get_or xs (k - 1) 0) c.requires.stack in
    subst (IsDecisionAt k items) (omega arith) told.decision
