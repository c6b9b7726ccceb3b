use Rattle.std.proofs.Common.{◌≡◌, drop}
use Rattle.dimacs_front.specs.TextEnds.{first_unmet}
use Rattle.dimacs_front.proofs.met_lines.first_unmet.Given as goal

abbrev pub invariant-loop-line : goal.invariant-loop-line
invariant-loop-line l =
    first_unmet l.variables l.shown l.under l.lines ≡ first_unmet l.variables l.shown l.under (drop l.line-index l.lines)
