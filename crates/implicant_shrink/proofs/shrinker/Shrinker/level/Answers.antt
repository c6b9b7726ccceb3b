use Rattle.std.proofs.Common.{◌≡◌, ℕ, length, max, subst, arith, length-take}
use Rattle.chrono_trail.specs.Pictures.{picture_of}
use Rattle.implicant_shrink.specs.Levels.{marked}
use Rattle.implicant_shrink.specs.Shrinking.{formula_of, RisesIn}
use Rattle.implicant_shrink.proofs.Rising.{rise_round}
use Rattle.implicant_shrink.proofs.shrinker.Shrinker.level.Goals as goal

pub returns-clause-least : goal.returns-clause-least
returns-clause-least c =
    let clauses = c.args.arena.now.clauses in
    let items = c.args.trail.now.items in
    let shown = marked c.args.shown.now in
    let f = formula_of c.args.arena.now in
    let flips : ℕ = c.flips_level.result in
    let first : ℕ = c.min-first.result in
    let middle : ℕ = c.rise-level.result in
    let long : c.base-clauses.result ≡ length f =
    (let size = length-take c.args.arena.now.base clauses in let within = c.base-clauses.ensures.within in let same = c.base-clauses.ensures.base in omega arith) in
    let start : c.max-flips.result ≡ max c.args.base flips = c.max-flips.ensures in
    rise_round shown clauses items f c.args.base flips first middle c.rise.result (c.flips_level.ensures clauses)
    (subst (λ (n : ℕ). RisesIn shown (picture_of clauses items) f first n (max c.args.base flips) middle) long
    (subst (λ (k : ℕ). RisesIn shown (picture_of clauses items) f first c.base-clauses.result k middle) start c.rise-level.ensures.rises))
    c.rise.ensures.rises

pub rise-level-requires-clause-within : goal.rise-level-requires-clause-within
rise-level-requires-clause-within c =
    let size = length-take c.args.arena.now.base c.args.arena.now.clauses in
    let within = c.base-clauses.ensures.within in
    let same = c.base-clauses.ensures.base in
    omega arith

pub rise-requires-clause-within : goal.rise-requires-clause-within
rise-requires-clause-within c =
    let size = length-take c.args.arena.now.base c.args.arena.now.clauses in
    let within = c.base-clauses.ensures.within in
    let same = c.base-clauses.ensures.base in
    let least = c.min-first.ensures in
    omega arith
