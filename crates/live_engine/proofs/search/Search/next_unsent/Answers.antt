use Rattle.std.proofs.Common.{◌≡◌, suc, ◌+◌, ◌-◌, ◌∷◌, ◌∙◌, filter, drop, refl, ap, ap₂, sym, arith}
use Rattle.live_engine.specs.Engines.{may_be_sent}
use Rattle.live_engine.proofs.search.Search.next_unsent.Goals as goal

pub returns-in-Some : goal.returns-in-Some
returns-in-Some c =
    let s = c.args.self.now in
    let base = c.base-base.ensures.base in
    let first = c.in-Some.ensures in
    let behind = first.behind in
    let inside = first.inside in
    let from : c.base-base.result + s.sent ≡ s.arena.base + s.sent = omega arith in
    let next : suc c.in-Some.id ≡ s.arena.base + (c.in-Some.id + 1 - c.base-base.result) = omega arith in
    record {
      short = c.of.ensures.short;
      first = ap (λ k. filter may_be_sent (drop k s.arena.clauses)) (sym from) ∙ first.first
          ∙ ap₂ (λ x k. x ∷ filter may_be_sent (drop k s.arena.clauses)) (sym (c.of.ensures.same ∙ c.lits.ensures.clause)) next;
      within = omega arith;
      rest = refl;
    }
