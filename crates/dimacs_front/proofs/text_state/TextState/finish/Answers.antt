use Rattle.std.proofs.Common.{◌≡◌, Some}
use Rattle.dimacs_front.specs.MachineEnd.{names_shown, few}
use Rattle.dimacs_front.proofs.Sound.{names_are_variables}
use Rattle.dimacs_front.proofs.text_state.TextState.finish.Goals as goal

pub with_under-requires : goal.with_under-requires
with_under-requires c =
    let is = c.in-Some-2.is in
    let shown = c.in_ok-shown.ensures in
    let same : Some c.in-Some-2.shown ≡ few (names_shown c.self.inside.given c.self.inside.named c.variables-variables.result) = cc in
    names_are_variables c.self.inside.given c.self.inside.named c.variables-variables.result
    c.in-Some-2.shown c.variables-variables.ensures.limit same
