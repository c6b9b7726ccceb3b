use Rattle.std.proofs.Common.{◌≡◌, ℕ, ◌+◌, ◌-◌, ◌<◌, ◌≤◌, ◌∷◌, List, length, take, get_or, refl, ap, ◌∙◌, arith}
use Rattle.clause_arena.proofs.Short.{walk_none, walk_yes, walk_no, walk_bounds, read_end, short_all, short_laid}
use Rattle.clause_arena.proofs.dropping.drop_long.Goals as goal
use Rattle.clause_arena.proofs.dropping.drop_long.Goals.{then-end-start, else-end-start}

pub loop-id-init : goal.loop-id-init
loop-id-init c =
    walk_none c.args.lits.now.items c.args.ends.now.items c.args.base c.args.keep c.start_of-start.result c.requires
    (c.start_of-start.ensures ∙ ap (λ (xs : List ℕ). get_or (0 ∷ xs) c.args.base 0) c.as_slice.ensures.value)

pub overflow_sub-end : goal.overflow_sub-end
overflow_sub-end c =
    let ends = c.args.ends.now.items in
    let inside : c.loop-id.id < length ends = (let test = c.loop-id-test.true in let end = c.len-id-end.ensures in let long = c.args.ends.now.ok.0 in omega arith) in
    let stop = read_end c.loop-id.ends.items ends c.loop-id.id c.index.result.now c.loop-id.invariant.ends_rest inside c.index.ensures in
    let bounds = walk_bounds c.requires c.loop-id.invariant c.index.result.now inside stop in
    bounds.0

pub copy_within-requires-clause-start_le_end : goal.copy_within-requires-clause-start_le_end
copy_within-requires-clause-start_le_end c =
    let ends = c.args.ends.now.items in
    let inside : c.loop-id.id < length ends = (let test = c.loop-id-test.true in let end = c.len-id-end.ensures in let long = c.args.ends.now.ok.0 in omega arith) in
    let stop = read_end c.loop-id.ends.items ends c.loop-id.id c.index.result.now c.loop-id.invariant.ends_rest inside c.index.ensures in
    let bounds = walk_bounds c.requires c.loop-id.invariant c.index.result.now inside stop in
    bounds.0

pub copy_within-requires-clause-in_bounds : goal.copy_within-requires-clause-in_bounds
copy_within-requires-clause-in_bounds c =
    let ends = c.args.ends.now.items in
    let inside : c.loop-id.id < length ends = (let test = c.loop-id-test.true in let end = c.len-id-end.ensures in let long = c.args.ends.now.ok.0 in omega arith) in
    let stop = read_end c.loop-id.ends.items ends c.loop-id.id c.index.result.now c.loop-id.invariant.ends_rest inside c.index.ensures in
    let bounds = walk_bounds c.requires c.loop-id.invariant c.index.result.now inside stop in
    let high = bounds.1 in
    let long = c.loop-id.invariant.lits_long in
    let same = c.loop-id.lits.ok.0 in
    omega arith

pub copy_within-requires-clause-dest_in_bounds : goal.copy_within-requires-clause-dest_in_bounds
copy_within-requires-clause-dest_in_bounds c =
    let ends = c.args.ends.now.items in
    let inside : c.loop-id.id < length ends = (let test = c.loop-id-test.true in let end = c.len-id-end.ensures in let long = c.args.ends.now.ok.0 in omega arith) in
    let stop = read_end c.loop-id.ends.items ends c.loop-id.id c.index.result.now c.loop-id.invariant.ends_rest inside c.index.ensures in
    let bounds = walk_bounds c.requires c.loop-id.invariant c.index.result.now inside stop in
    let low = bounds.0 in
    let high = bounds.1 in
    let long = c.loop-id.invariant.lits_long in
    let written = c.loop-id.invariant.written in
    let same = c.loop-id.lits.ok.0 in
    let goal_is : c.loop-id.filled + (c.index.result.now - c.loop-id.start) ≤ c.loop-id.lits.len = omega arith in
    goal_is

pub overflow_sub-filled : goal.overflow_sub-filled
overflow_sub-filled c =
    let ends = c.args.ends.now.items in
    let inside : c.loop-id.id < length ends = (let test = c.loop-id-test.true in let end = c.len-id-end.ensures in let long = c.args.ends.now.ok.0 in omega arith) in
    let stop = read_end c.loop-id.ends.items ends c.loop-id.id c.index.result.now c.loop-id.invariant.ends_rest inside c.index.ensures in
    let bounds = walk_bounds c.requires c.loop-id.invariant c.index.result.now inside stop in
    bounds.0

pub loop-id-preserved : goal.loop-id-preserved
loop-id-preserved c =
    let ends = c.args.ends.now.items in
    let inside : c.loop-id.id < length ends = (let test = c.loop-id-test.true in let end = c.len-id-end.ensures in let long = c.args.ends.now.ok.0 in omega arith) in
    let stop = read_end c.loop-id.ends.items ends c.loop-id.id c.index.result.now c.loop-id.invariant.ends_rest inside c.index.ensures in
    let bounds = walk_bounds c.requires c.loop-id.invariant c.index.result.now inside stop in
    let lits = c.args.lits.now.items in
    let now = c.loop-id.lits.items in
    let now_ends = c.loop-id.ends.items in
    let id : ℕ = c.loop-id.id in
    let end : ℕ = c.index.result.now in
    let filled : ℕ = c.loop-id.filled + (end - c.loop-id.start) in
    elim c.if-end-start.branch [
      | then-end-start w ↦
          rw (w.lits-is, w.ends-is, w.filled-is, w.kept-is, w.copy_within.ensures.items)
          (walk_yes lits ends c.args.base c.args.keep id now now_ends c.loop-id.start c.loop-id.filled c.loop-id.kept end filled c.requires inside c.loop-id.invariant stop w.if-end-start.true refl)
      | else-end-start w ↦
          rw (w.lits-is, w.ends-is, w.filled-is, w.kept-is)
          (walk_no lits ends c.args.base c.args.keep id now now_ends c.loop-id.start c.loop-id.filled c.loop-id.kept end c.requires inside c.loop-id.invariant stop w.if-end-start.false)
    ]

pub returns-clause-laid : goal.returns-clause-laid
returns-clause-laid c =
    let lits = c.args.lits.now.items in
    let ends = c.args.ends.now.items in
    let all : c.loop-id.id ≡ length ends = (let test = c.loop-id-test.false in let end = c.len-id-end.ensures in let long = c.args.ends.now.ok.0 in let few = c.loop-id.auto.id-end in let based = c.requires.based in omega (arith, few)) in
    rw (c.truncate.ensures.items, c.truncate-2.ensures.items)
    (short_laid lits ends c.args.base c.args.keep c.loop-id.id (take c.loop-id.filled c.loop-id.lits.items) (take c.loop-id.kept c.loop-id.ends.items) all c.requires c.loop-id.invariant.made)

pub returns-clause-clauses : goal.returns-clause-clauses
returns-clause-clauses c =
    let lits = c.args.lits.now.items in
    let ends = c.args.ends.now.items in
    let all : c.loop-id.id ≡ length ends = (let test = c.loop-id-test.false in let end = c.len-id-end.ensures in let long = c.args.ends.now.ok.0 in let few = c.loop-id.auto.id-end in let based = c.requires.based in omega (arith, few)) in
    rw (c.truncate.ensures.items, c.truncate-2.ensures.items)
    (short_all lits ends c.args.base c.args.keep c.loop-id.id (take c.loop-id.filled c.loop-id.lits.items) (take c.loop-id.kept c.loop-id.ends.items) all c.loop-id.invariant.made)
