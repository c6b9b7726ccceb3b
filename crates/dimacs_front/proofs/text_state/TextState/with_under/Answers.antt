use Rattle.std.proofs.Common.{rules}
use Rattle.dimacs_front.specs.TextEnds.{lowest_outside}
use Rattle.dimacs_front.specs.MachineEnd.{with_saved_lines}
use Rattle.dimacs_front.specs.MachineUnder.{IsUnder}
use Rattle.dimacs_front.specs.Pieces.{Answered}
use Rattle.dimacs_front.proofs.SavedSteps.{under_given}
use Rattle.dimacs_front.proofs.text_state.TextState.with_under.Goals as goal

pub returns-in-Ok : goal.returns-in-Ok
returns-in-Ok c =
    let told : IsUnder c.args.shown c.args.self.under c.in-Ok.under = search rules in
    let said : Answered (with_saved_lines c.args.self.formula c.args.shown c.in-Ok.under c.args.self.saved (lowest_outside c.args.shown c.in-Ok.under c.args.self.saved)) c.with_saved.result = search rules in
    under_given c.args.self.formula c.args.shown c.args.self.under c.args.self.saved c.in-Ok.under c.with_saved.result told said
