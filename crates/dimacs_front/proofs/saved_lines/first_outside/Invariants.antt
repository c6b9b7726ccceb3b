use Rattle.std.proofs.Common.{◌≡◌, drop}
use Rattle.dimacs_front.specs.TextEnds.{first_outside}
use Rattle.dimacs_front.proofs.saved_lines.first_outside.Given as goal

abbrev pub invariant-loop-line : goal.invariant-loop-line
invariant-loop-line l =
    first_outside l.shown l.under l.lines ≡ first_outside l.shown l.under (drop l.line-index l.lines)
