use Rattle.std.proofs.Common.{◌≡◌, drop}
use Rattle.std.specs.List.{list_all}
use Rattle.dimacs_front.specs.TextEnds.{is_hidden}
use Rattle.dimacs_front.proofs.met_lines.are_hidden.Given as goal

abbrev pub invariant-loop-lit : goal.invariant-loop-lit
invariant-loop-lit l =
    list_all (is_hidden l.variables l.shown) l.lits ≡ list_all (is_hidden l.variables l.shown) (drop l.lit-index l.lits)
