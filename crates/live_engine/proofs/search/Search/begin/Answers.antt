use Rattle.std.proofs.Common.{[], sym, ap, subst, ◌∙◌}
use Rattle.std.specs.List.{All}
use Rattle.sat_terms.specs.Literals.{IsLiteralOf}
use Rattle.search_job.specs.Reasons.{assume_all}
use Rattle.live_engine.proofs.Prefixes.{cube_named}
use Rattle.live_engine.proofs.Started.{begun}
use Rattle.live_engine.proofs.search.Search.begin.Goals as goal

pub assume-requires-clause-named : goal.assume-requires-clause-named
assume-requires-clause-named c =
    let s = c.args.self.now in
    subst (λ q. All (IsLiteralOf c.clear.new.self.variables) q) (sym c.lits.ensures.same)
    (subst (λ n. All (IsLiteralOf n) c.args.prefix) (sym (c.clear.ensures.variables ∙ c.requires.ground.trail))
    (cube_named s.variables s.shown.items c.requires.ground.shown.named c.args.prefix c.requires.prefix))

pub returns : goal.returns
returns c =
    begun c.args.self.now c.assume.new.trail c.put_back_all.new.self c.args.prefix c.requires.ground c.requires.prefix c.requires.found
    (λ f. c.assume.ensures.items f ∙ ap (λ q. assume_all q []) c.lits.ensures.same) c.assume.ensures.reasoned c.assume.ensures.level
    (c.assume.ensures.variables ∙ c.clear.ensures.variables) (c.assume.ensures.seen ∙ c.clear.ensures.seen) c.assume.ensures.trail
    c.put_back_all.ensures
