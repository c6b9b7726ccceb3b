use Rattle.std.proofs.Common.{◌≡◌, ◌<◌, ℕ, ℤ, List, [], ◌++◌, length, arith}
use Rattle.cube_check.specs.Marks.{AreMarked}
use Rattle.cube_check.specs.Verdicts.{met_at}
use Rattle.cube_check.proofs.Missing.{held_at, first_miss_at, all_met_more}
use Rattle.cube_check.proofs.misses.first_miss.Goals as goal

pub returns-in-Some-clause-miss : goal.returns-in-Some-clause-miss
returns-in-Some-clause-miss c =
    let met = c.args.met.now in
    let i : ℕ = c.loop-cube.cube in
    let cube : List ℤ = c.lits.result.now in
    let hidden : List ℤ = c.lits-in-loop-cube.result.now in
    let inside : i < length met = c.loop-cube-test.true in
    let same : cube ++ hidden ≡ (met_at met i).cube ++ (met_at met i).hidden = held_at met c.index-met-cube.result i cube hidden inside c.index-met-cube.is c.lits.ensures.same c.lits-in-loop-cube.ensures.same in
    let marked : AreMarked c.mark-in-loop-cube.new.self (cube ++ hidden) = c.mark-in-loop-cube.ensures.more cube (c.mark.ensures.more [] c.clear.ensures.none) in
    first_miss_at c.args.formula.now.clauses c.as_slice.result.now met i c.in-Some.clause (cube ++ hidden) c.as_slice.ensures same inside c.loop-cube.invariant.lower (c.in-Some.ensures (cube ++ hidden) marked)

pub loop-cube-preserved : goal.loop-cube-preserved
loop-cube-preserved c =
    let met = c.args.met.now in
    let i : ℕ = c.loop-cube.cube in
    let cube : List ℤ = c.lits.result.now in
    let hidden : List ℤ = c.lits-in-loop-cube.result.now in
    let inside : i < length met = c.loop-cube-test.true in
    let same : cube ++ hidden ≡ (met_at met i).cube ++ (met_at met i).hidden = held_at met c.index-met-cube.result i cube hidden inside c.index-met-cube.is c.lits.ensures.same c.lits-in-loop-cube.ensures.same in
    let marked : AreMarked c.mark-in-loop-cube.new.self (cube ++ hidden) = c.mark-in-loop-cube.ensures.more cube (c.mark.ensures.more [] c.clear.ensures.none) in
    record {
      lower = all_met_more c.args.formula.now.clauses c.as_slice.result.now met i (cube ++ hidden) c.as_slice.ensures same inside c.loop-cube.invariant.lower (c.in_default.ensures (cube ++ hidden) marked);
      places = omega arith;
    }
