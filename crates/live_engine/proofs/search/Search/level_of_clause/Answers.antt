use Rattle.std.proofs.Common.{pos, get_or, [], arith}
use Rattle.sat_terms.specs.Cubes.{is_among}
use Rattle.chrono_trail.proofs.Clauses.{low_rest}
use Rattle.live_engine.specs.Searching.{search_formula}
use Rattle.live_engine.proofs.Implied.{steady_low}
use Rattle.live_engine.proofs.search.Search.level_of_clause.Goals as goal

pub returns-clause-within : goal.returns-clause-within
returns-clause-within c =
    let s = c.args.self.now in
    let h = c.requires.searching in
    let current = h.current in
    let low = low_rest s.trail.items (pos 0) s.trail.level (get_or s.arena.clauses c.args.id [])
    (steady_low (search_formula s) s.arena.clauses (is_among s.shown.items) s.trail.level s.trail.items h.working.running.steady (omega arith)) in
    rw (c.level_of_rest.ensures, c.lits.ensures.clause) low
