use Rattle.std.proofs.Common.{length, sym, ap, subst, arith, All}
use Rattle.sat_terms.specs.Literals.{IsLiteralOf}
use Rattle.live_engine.proofs.Dropped.{drops, dropped_all, dropped_few}
use Rattle.live_engine.proofs.search.Search.drop_lemmas.Goals as goal

pub rebuild-requires-clause-room : goal.rebuild-requires-clause-room
rebuild-requires-clause-room c =
    let s = c.args.self.now in
    let few = dropped_few s.arena.base c.args.keep s.arena.clauses c.requires.based in
    let long = ap length c.drop_lemmas.ensures.clauses in
    let room = c.requires.places in
    omega arith

pub rebuild-requires-clause-clauses : goal.rebuild-requires-clause-clauses
rebuild-requires-clause-clauses c =
    let s = c.args.self.now in
    subst (λ xs. All (All (IsLiteralOf s.propagator.variables)) xs) (sym c.drop_lemmas.ensures.clauses)
    (dropped_all s.arena.base c.args.keep s.arena.clauses c.requires.based (All (IsLiteralOf s.propagator.variables))
    (subst (λ n. All (All (IsLiteralOf n)) s.arena.clauses) (sym c.requires.propagator) c.requires.named))

pub returns : goal.returns
returns c =
    let clear = c.clear.ensures in
    let drop = c.drop_lemmas.ensures in
    let rebuild = c.rebuild.ensures in
    drops c.args.self.now c.args.keep c.drop_lemmas.new.self c.rebuild.new.self c.clear.new.self c.requires drop.clauses drop.base clear.items clear.level clear.seen
    clear.variables rebuild.watches rebuild.known rebuild.places rebuild.variables
