use Rattle.std.proofs.Common.{◌≡◌, ◌≤◌, ℕ, suc, ◌+◌, ◌<◌, [], ◌∷◌, ◌∙◌, List, ℤ, Bool, true, false, cond, length, get_or, filter, drop, ap, arith}
use Rattle.std.proofs.lemmas.Bool.{le-leb, lt-leb}
use Rattle.std.proofs.lemmas.List.{drop_more, drop_all}
use Rattle.live_engine.specs.Engines.{may_be_sent}
use Rattle.live_engine.proofs.importing.first_short.Goals as goal

-- the clause at a place, and what follows it
step : (clauses : List (List ℤ)) (id : ℕ) (b : Bool) → id < length clauses → may_be_sent (get_or clauses id []) ≡ b →
    filter may_be_sent (drop id clauses) ≡ cond b (get_or clauses id [] ∷ filter may_be_sent (drop (id + 1) clauses)) (filter may_be_sent (drop (id + 1) clauses))
step clauses id b inside is =
    ap (filter may_be_sent) (drop_more clauses id [] inside)
    ∙ ap (λ x. cond x (get_or clauses id [] ∷ filter may_be_sent (drop (id + 1) clauses)) (filter may_be_sent (drop (id + 1) clauses))) is

pub returns-then-lits-le-MOST_LITERALS : goal.returns-then-lits-le-MOST_LITERALS
returns-then-lits-le-MOST_LITERALS c =
    let clauses = c.args.arena.now.clauses in
    let count = c.requires in
    let test = c.loop-id-test.true in
    let inside : c.loop-id.id < length clauses = omega arith in
    let long = ap length c.lits.ensures.clause in
    let few = c.if-lits-le-MOST_LITERALS.true in
    let short : length (get_or clauses c.loop-id.id []) ≤ 8 = omega arith in
    record {
      behind = c.loop-id.invariant.behind;
      inside = inside;
      short = short;
      first = c.loop-id.invariant.left ∙ step clauses c.loop-id.id true inside (le-leb (length (get_or clauses c.loop-id.id [])) 8 short)
          ∙ ap (λ (k : ℕ). get_or clauses c.loop-id.id [] ∷ filter may_be_sent (drop k clauses)) (let same : c.loop-id.id + 1 ≡ suc c.loop-id.id = omega arith in same);
    }

pub loop-id-preserved : goal.loop-id-preserved
loop-id-preserved c =
    let clauses = c.args.arena.now.clauses in
    let count = c.requires in
    let test = c.loop-id-test.true in
    let inside : c.loop-id.id < length clauses = omega arith in
    let long = ap length c.lits.ensures.clause in
    let many = c.if-lits-le-MOST_LITERALS.false in
    let high : 8 < length (get_or clauses c.loop-id.id []) = omega arith in
    record {
      behind = (let before = c.loop-id.invariant.behind in omega arith);
      left = c.loop-id.invariant.left ∙ step clauses c.loop-id.id false inside (lt-leb (length (get_or clauses c.loop-id.id [])) 8 high);
    }

pub returns : goal.returns
returns c =
    let count = c.requires in
    let past = c.loop-id-test.false in
    c.loop-id.invariant.left ∙ ap (filter may_be_sent) (drop_all c.loop-id.id c.args.arena.now.clauses (omega arith))
