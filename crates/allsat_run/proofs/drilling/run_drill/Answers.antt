use Rattle.std.proofs.Common.{◌≡◌, None, sym, subst}
use Rattle.sat_terms.specs.declared.subject.Subject.{Subject}
use Rattle.drill.specs.Drills.{drill}
use Rattle.dimacs_front.specs.Answers.{IsWithinLimits}
use Rattle.allsat_run.proofs.DrillEnds.{drill_limits}
use Rattle.allsat_run.proofs.drilling.run_drill.Goals as goal

pub search-requires-clause-limits : goal.search-requires-clause-limits
search-requires-clause-limits g c κs within =
    let same : c.in-Ok.subject ≡ drill c.args.size = c.in-Ok.ensures in
    subst (λ (s : Subject). IsWithinLimits (record { subject = s; saved = None; met = None })) (sym same) (drill_limits c.args.size c.requires.size)
