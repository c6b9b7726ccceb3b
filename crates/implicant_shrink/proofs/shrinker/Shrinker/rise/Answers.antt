use Rattle.std.proofs.Common.{◌≡◌, ◌+◌, ◌<◌, ◌≤◌, ℕ, ℤ, pos, [], Bool, true, nat_abs, nat_le, length, refl, get_or, sym, ap, subst, ◌∙◌, arith, rules}
use mir.Syntax.{w32}
use mir.Val.{SFits, to_z, of_z}
use Rattle.std.specs.List.{All}
use Rattle.std.specs.Prelude.{IfSome}
use Rattle.std.proofs.lemmas.Int.{to_z-of_z}
use Rattle.std.proofs.lemmas.List.{get_or_read}
use Rattle.sat_terms.specs.Literals.{IsLiteralOf}
use Rattle.sat_terms.specs.Cubes.{has_literal}
use Rattle.search_region.specs.Model.{is_met}
use Rattle.chrono_trail.specs.Pictures.{picture_of}
use Rattle.implicant_shrink.specs.declared.levels.Met.{Met}
use Rattle.implicant_shrink.specs.Levels.{marked, is_at_most, is_kept_at, is_met_at, met_level}
use Rattle.implicant_shrink.specs.Shrinking.{formula_of, may_try}
use Rattle.implicant_shrink.proofs.Least.{met_pair, met_low, met_high}
use Rattle.implicant_shrink.proofs.Rising.{in_front, all_met_at_top, rise_start, rise_more, rise_rest}
use Rattle.implicant_shrink.proofs.Tried.{for_set, tried_small, tried_meets, pair_told, is_met_there}
use Rattle.sat_terms.proofs.Machine.{literal_fits}
use Rattle.implicant_shrink.proofs.shrinker.Shrinker.rise.Goals as goal
use Rattle.implicant_shrink.proofs.shrinker.Shrinker.rise.Goals.{then-met-level+then-not-index+else-level-top-2, else-met-level, else-met-level-via-then-met-level+else-not-index, else-met-level-via-else-met-level}

pub returns-then-level-top-clause-rises : goal.returns-then-level-top-clause-rises
returns-then-level-top-clause-rises c =
    let clauses = c.args.arena.now.clauses in
    let items = c.args.trail.now.items in
    let shown = marked c.args.shown.now in
    let top : ℕ = c.level-top.result in
    let high = c.if-level-top.true in
    let same = c.level-top.ensures.level in
    rise_rest shown clauses items (formula_of c.args.arena.now) c.args.from c.args.from c.args.end c.args.level c.args.level c.requires.within
    (λ m j over inside. all_met_at_top c.args.trail.now.variables shown clauses c.args.arena.now.base items c.args.trail.now.level c.level-top.ensures.trail
    c.requires.full.assigned c.requires.full.clauses c.requires.met m j (omega arith) inside)
    (rise_start shown clauses items (formula_of c.args.arena.now) c.args.from c.args.level)

pub index-requires : goal.index-requires
index-requires c =
    let count = c.loop-id.invariant.formula.count in
    let test = c.loop-id-test.true in
    let within = c.requires.within in
    omega arith

pub is_kept-requires-clause-named : goal.is_kept-requires-clause-named
is_kept-requires-clause-named c =
    let clauses = c.args.arena.now.clauses in
    let n : ℕ = c.args.trail.now.variables in
    let id : ℕ = c.loop-id.id in
    let f = formula_of c.args.arena.now in
    let tried = c.loop-id.self-inside.tried.items in
    let x : ℤ = c.index.result.now in
    let test = c.loop-id-test.true in
    let within = c.requires.within in
    let count = c.loop-id.invariant.formula.count in
    let first : id < length f = omega arith in
    let at = in_front clauses c.args.arena.now.base id (get_or clauses id []) first refl in
    let read : x ≡ get_or tried id (pos 0) = get_or_read tried id x (omega arith) c.index.ensures (pos 0) in
    let small : nat_abs x ≤ n = tried_small n (get_or clauses id []) x (c.requires.full.clauses id [] at.0)
    (ap (λ d. may_try d x) at.1 ∙ ap (may_try (get_or f id [])) read ∙ c.loop-id.invariant.formula.tells id first) in
    let few = c.level-top.ensures.trail.small in
    subst (λ (z : ℤ). nat_abs z ≤ n) (sym (to_z-of_z w32 x (literal_fits x (omega arith)))) small

pub loop-id-preserved-then-is_kept : goal.loop-id-preserved-then-is_kept
loop-id-preserved-then-is_kept c =
    let clauses = c.args.arena.now.clauses in
    let items = c.args.trail.now.items in
    let shown = marked c.args.shown.now in
    let n : ℕ = c.args.trail.now.variables in
    let id : ℕ = c.loop-id.id in
    let level : ℕ = c.loop-id.level in
    let f = formula_of c.args.arena.now in
    let tried = c.loop-id.self-inside.tried.items in
    let x : ℤ = c.index.result.now in
    let test = c.loop-id-test.true in
    let within = c.requires.within in
    let count = c.loop-id.invariant.formula.count in
    let first : id < length f = omega arith in
    let at = in_front clauses c.args.arena.now.base id (get_or clauses id []) first refl in
    let clause = get_or f id [] in
    let read : x ≡ get_or tried id (pos 0) = get_or_read tried id x (omega arith) c.index.ensures (pos 0) in
    let try : may_try clause x ≡ true = ap (may_try clause) read ∙ c.loop-id.invariant.formula.tells id first in
    let small : nat_abs x ≤ n = tried_small n (get_or clauses id []) x (c.requires.full.clauses id [] at.0) (ap (λ d. may_try d x) at.1 ∙ try) in
    let trail = c.level-top.ensures.trail in
    let few = trail.small in
    let kept : is_kept_at shown level items x ≡ true =
    ap (is_kept_at shown level items) (sym (to_z-of_z w32 x (literal_fits x (omega arith)))) ∙ sym c.is_kept.ensures ∙ c.if-is_kept.true in
    record {
      rises = rise_more shown clauses items f c.args.from id c.args.level level level first (omega arith)
          (met_low shown clauses items trail.distinct clause level level (omega arith) (tried_meets n shown level items clause x trail.within try kept))
          c.loop-id.invariant.rises;
      formula = c.loop-id.invariant.formula;
    }

pub lits-requires : goal.lits-requires
lits-requires c =
    let first : c.loop-id.id < length (formula_of c.args.arena.now) = (let test = c.loop-id-test.true in let within = c.requires.within in omega arith) in
    (in_front c.args.arena.now.clauses c.args.arena.now.base c.loop-id.id (get_or c.args.arena.now.clauses c.loop-id.id []) first refl).0

pub unwrap-met-requires : goal.unwrap-met-requires
unwrap-met-requires c =
    let clauses = c.args.arena.now.clauses in
    let items = c.args.trail.now.items in
    let n : ℕ = c.args.trail.now.variables in
    let id : ℕ = c.loop-id.id in
    let f = formula_of c.args.arena.now in
    let test = c.loop-id-test.true in
    let within = c.requires.within in
    let first : id < length f = omega arith in
    let at = in_front clauses c.args.arena.now.base id c.lits.result.now first c.lits.ensures.clause in
    let named : All (IsLiteralOf n) c.lits.result.now = subst (All (IsLiteralOf n)) (sym c.lits.ensures.clause) (c.requires.full.clauses id [] at.0) in
    is_met_there n (marked c.args.shown.now) c.loop-id.level items c.requires.full.assigned f id c.lits.result.now first at.1 named c.requires.met
    c.least.result c.least.ensures.level

pub returns-then-level-top-2-clause-formula : goal.returns-then-level-top-2-clause-formula
returns-then-level-top-2-clause-formula c =
    let clauses = c.args.arena.now.clauses in
    let items = c.args.trail.now.items in
    let shown = marked c.args.shown.now in
    let id : ℕ = c.loop-id.id in
    let clause = c.lits.result.now in
    let f = formula_of c.args.arena.now in
    let pairs = c.loop-id.self-inside.pairs.items in
    let test = c.loop-id-test.true in
    let within = c.requires.within in
    let level : ℕ = c.loop-id.level in
    let met : Met = c.unwrap-met.result in
    let k : ℕ = met.level in
    let first : id < length f = omega arith in
    let at = in_front clauses c.args.arena.now.base id clause first c.lits.ensures.clause in
    let among : has_literal clause met.lit ≡ true =
    subst (λ o. IfSome o (λ (m : Met). has_literal clause m.lit ≡ true)) c.unwrap-met.ensures c.least.ensures.among in
    let fits : SFits w32 met.lit = search rules in
    for_set f pairs c.loop-id.self-inside.tried.items id (to_z w32 (of_z w32 met.lit)) c.loop-id.invariant.formula
    (subst (λ (z : ℤ). has_literal (get_or f id []) z ≡ true) (sym (to_z-of_z w32 met.lit fits)) (ap (λ d. has_literal d met.lit) (sym at.1) ∙ among))

pub returns-then-level-top-2-clause-rises : goal.returns-then-level-top-2-clause-rises
returns-then-level-top-2-clause-rises c =
    let clauses = c.args.arena.now.clauses in
    let items = c.args.trail.now.items in
    let shown = marked c.args.shown.now in
    let id : ℕ = c.loop-id.id in
    let clause = c.lits.result.now in
    let f = formula_of c.args.arena.now in
    let pairs = c.loop-id.self-inside.pairs.items in
    let test = c.loop-id-test.true in
    let within = c.requires.within in
    let level : ℕ = c.loop-id.level in
    let met : Met = c.unwrap-met.result in
    let k : ℕ = met.level in
    let first : id < length f = omega arith in
    let at = in_front clauses c.args.arena.now.base id clause first c.lits.ensures.clause in
    let distinct = c.level-top.ensures.trail.distinct in
    let found : (b : ℕ) → level ≤ b → is_met_at shown b items clause ≡ nat_le k b =
    λ b low. c.least.ensures.level b low ∙ ap (λ o. is_at_most b (met_level o)) c.unwrap-met.ensures in
    let more = λ (higher : ℕ) (low : level ≤ higher) (meets : (m : ℕ) → level ≤ m → is_met shown m (picture_of clauses items) clause ≡ nat_le higher m).
    rise_more shown clauses items f c.args.from id c.args.level level higher first low
    (subst (λ d. (m : ℕ) → level ≤ m → is_met shown m (picture_of clauses items) d ≡ nat_le higher m) at.1 meets) c.loop-id.invariant.rises in
    let pair_at = λ (b : Bool) (read : b ≡ get_or pairs id b). pair_told f pairs id b clause first at.1 c.loop-id.invariant.formula.pairs read in
    let rose = c.if-met-level.true in
    let high = c.if-level-top-2.true in
    let same = c.level-top.ensures.level in
    rise_rest shown clauses items f c.args.from (id + 1) c.args.end c.args.level k within
    (λ m j over inside. all_met_at_top c.args.trail.now.variables shown clauses c.args.arena.now.base items c.args.trail.now.level c.level-top.ensures.trail
    c.requires.full.assigned c.requires.full.clauses c.requires.met m j (omega arith) inside)
    (more k (omega arith) (met_high shown clauses items distinct clause level k (sym (pair_at c.index-then-met-level.result.now c.index-then-met-level.ensures) ∙ c.if-not-index.true) found))

pub loop-id-preserved : goal.loop-id-preserved
loop-id-preserved c =
    let clauses = c.args.arena.now.clauses in
    let items = c.args.trail.now.items in
    let shown = marked c.args.shown.now in
    let id : ℕ = c.loop-id.id in
    let clause = c.lits.result.now in
    let f = formula_of c.args.arena.now in
    let pairs = c.loop-id.self-inside.pairs.items in
    let test = c.loop-id-test.true in
    let within = c.requires.within in
    let level : ℕ = c.loop-id.level in
    let met : Met = c.unwrap-met.result in
    let k : ℕ = met.level in
    let first : id < length f = omega arith in
    let at = in_front clauses c.args.arena.now.base id clause first c.lits.ensures.clause in
    let distinct = c.level-top.ensures.trail.distinct in
    let found : (b : ℕ) → level ≤ b → is_met_at shown b items clause ≡ nat_le k b =
    λ b low. c.least.ensures.level b low ∙ ap (λ o. is_at_most b (met_level o)) c.unwrap-met.ensures in
    let among : has_literal clause met.lit ≡ true =
    subst (λ o. IfSome o (λ (m : Met). has_literal clause m.lit ≡ true)) c.unwrap-met.ensures c.least.ensures.among in
    let fits : SFits w32 met.lit = search rules in
    let next = for_set f pairs c.loop-id.self-inside.tried.items id (to_z w32 (of_z w32 met.lit)) c.loop-id.invariant.formula
    (subst (λ (z : ℤ). has_literal (get_or f id []) z ≡ true) (sym (to_z-of_z w32 met.lit fits)) (ap (λ d. has_literal d met.lit) (sym at.1) ∙ among)) in
    let more = λ (higher : ℕ) (low : level ≤ higher) (meets : (m : ℕ) → level ≤ m → is_met shown m (picture_of clauses items) clause ≡ nat_le higher m).
    rise_more shown clauses items f c.args.from id c.args.level level higher first low
    (subst (λ d. (m : ℕ) → level ≤ m → is_met shown m (picture_of clauses items) d ≡ nat_le higher m) at.1 meets) c.loop-id.invariant.rises in
    let pair_at = λ (b : Bool) (read : b ≡ get_or pairs id b). pair_told f pairs id b clause first at.1 c.loop-id.invariant.formula.pairs read in
    elim c.if-met-level.branch [
      | then-met-level+then-not-index+else-level-top-2 w ↦ rw (w.level-is, w.self-inside-is) (record {
        rises = more k (let high = w.if-met-level.true in omega arith)
            (met_high shown clauses items distinct clause level k (sym (pair_at w.index-then-met-level.result.now w.index-then-met-level.ensures) ∙ w.if-not-index.true) found);
        formula = next;
      })
      | else-met-level w ↦ elim w.else-met-level.branch [
        | else-met-level-via-then-met-level+else-not-index v ↦ rw (w.level-is, w.self-inside-is) (record {
          rises = more level (omega arith)
              (met_pair shown clauses items distinct clause level (sym (pair_at v.index-then-met-level.result.now v.index-then-met-level.ensures) ∙ v.if-not-index.false));
          formula = next;
        })
        | else-met-level-via-else-met-level v ↦ rw (w.level-is, w.self-inside-is) (record {
          rises = more level (omega arith) (met_low shown clauses items distinct clause level k v.if-met-level.false found);
          formula = next;
        })
      ]
    ]
