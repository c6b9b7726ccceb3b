use Rattle.std.proofs.Common.{◌≡◌, ◌≤◌, ℕ, [], nat_le, max, sym, ap, subst, ◌∙◌, arith}
use Rattle.std.specs.List.{All}
use Rattle.std.proofs.lemmas.Bool.{le-leb}
use Rattle.sat_terms.specs.Literals.{IsLiteralOf}
use Rattle.search_region.specs.Model.{is_met}
use Rattle.chrono_trail.specs.Clauses.{is_false_clause}
use Rattle.chrono_trail.specs.Pictures.{picture_of}
use Rattle.implicant_shrink.specs.Levels.{marked}
use Rattle.implicant_shrink.specs.Shrinking.{formula_of}
use Rattle.implicant_shrink.proofs.Kept.{never_met, met_right}
use Rattle.implicant_shrink.proofs.Least.{least_more, met_pair, met_low, met_high, in_formula, none_false}
use Rattle.implicant_shrink.proofs.stateless.shrink.Goals as goal
use Rattle.implicant_shrink.proofs.stateless.shrink.Goals.{then-met-level+then-not-has_pair, else-met-level, else-met-level-via-then-met-level+else-not-has_pair, else-met-level-via-else-met-level}

pub returns-in-None : goal.returns-in-None
returns-in-None c =
    let clauses = c.args.arena.now.clauses in
    let items = c.args.trail.now.items in
    let n : ℕ = c.args.trail.now.variables in
    let id : ℕ = c.loop-id.id in
    let clause = c.lits-clause.result.now in
    let same = c.base-id-end.ensures.base in
    let within = c.base-id-end.ensures.within in
    let test = c.loop-id-test.true in
    let at = in_formula clauses c.args.arena.now.base id clause (omega arith) within c.lits-clause.ensures.clause in
    let named : All (IsLiteralOf n) clause = subst (All (IsLiteralOf n)) (sym c.lits-clause.ensures.clause) (c.requires.clauses id [] (omega arith)) in
    record {
      inside = at.0;
      wrong = ap (is_false_clause items) (sym at.1) ∙ never_met n (marked c.args.shown.now) c.loop-id.level items c.requires.assigned clause named c.in-None.ensures.level;
      before = c.loop-id.invariant.before;
    }

pub loop-id-preserved : goal.loop-id-preserved
loop-id-preserved c =
    let clauses = c.args.arena.now.clauses in
    let items = c.args.trail.now.items in
    let shown = marked c.args.shown.now in
    let n : ℕ = c.args.trail.now.variables in
    let id : ℕ = c.loop-id.id in
    let clause = c.lits-clause.result.now in
    let f = formula_of c.args.arena.now in
    let same = c.base-id-end.ensures.base in
    let within = c.base-id-end.ensures.within in
    let test = c.loop-id-test.true in
    let level : ℕ = c.loop-id.level in
    let k : ℕ = c.in-Some.met.level in
    let at = in_formula clauses c.args.arena.now.base id clause (omega arith) within c.lits-clause.ensures.clause in
    let named : All (IsLiteralOf n) clause = subst (All (IsLiteralOf n)) (sym c.lits-clause.ensures.clause) (c.requires.clauses id [] (omega arith)) in
    let distinct = c.items.ensures.trail.distinct in
    let before = none_false items f id at.0 c.loop-id.invariant.before (ap (is_false_clause items) (sym at.1)
    ∙ met_right n shown (max level k) items distinct clause named (c.in-Some.ensures.level (max level k) (omega arith) ∙ le-leb k (max level k) (omega arith))) in
    let more = λ (higher : ℕ) (low : level ≤ higher) (met : (m : ℕ) → level ≤ m → is_met shown m (picture_of clauses items) clause ≡ nat_le higher m).
    least_more c.args.base level higher shown clauses items f id at.0 low
    (subst (λ d. (m : ℕ) → level ≤ m → is_met shown m (picture_of clauses items) d ≡ nat_le higher m) at.1 met) c.loop-id.invariant.least in
    elim c.if-met-level.branch [
      | then-met-level+then-not-has_pair w ↦ rw w.level-is (record {
        least = more k (let high = w.if-met-level.true in omega arith) (met_high shown clauses items distinct clause level k (sym w.has_pair.ensures ∙ w.if-not-has_pair.true) c.in-Some.ensures.level);
        before = before;
      })
      | else-met-level w ↦ elim w.else-met-level.branch [
        | else-met-level-via-then-met-level+else-not-has_pair v ↦ rw w.level-is (record {
          least = more level (omega arith) (met_pair shown clauses items distinct clause level (sym v.has_pair.ensures ∙ v.if-not-has_pair.false));
          before = before;
        })
        | else-met-level-via-else-met-level v ↦ rw w.level-is (record {
          least = more level (omega arith) (met_low shown clauses items distinct clause level k v.if-met-level.false c.in-Some.ensures.level);
          before = before;
        })
      ]
    ]
