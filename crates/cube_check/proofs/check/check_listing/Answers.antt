use Rattle.cube_check.proofs.Missing.{named_from_met}
use Rattle.cube_check.proofs.check.check_listing.Goals as goal

pub first_miss-requires-clause-named : goal.first_miss-requires-clause-named
first_miss-requires-clause-named c = named_from_met c.args.subject.now.formula.variables c.args.subject.now.shown c.args.met.now c.requires.subject.shown c.requires.met

pub first_overlap-requires-clause-named : goal.first_overlap-requires-clause-named
first_overlap-requires-clause-named c = named_from_met c.args.subject.now.formula.variables c.args.subject.now.shown c.args.met.now c.requires.subject.shown c.requires.met
