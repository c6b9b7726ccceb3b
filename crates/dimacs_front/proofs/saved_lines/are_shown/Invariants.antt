use Rattle.std.proofs.Common.{◌≡◌, drop, nat_abs}
use Rattle.std.specs.List.{list_all}
use Rattle.sat_terms.specs.Cubes.{is_among}
use Rattle.dimacs_front.proofs.saved_lines.are_shown.Given as goal

abbrev pub invariant-loop-lit : goal.invariant-loop-lit
invariant-loop-lit l =
    list_all (λ m. is_among l.shown (nat_abs m)) l.lits ≡ list_all (λ m. is_among l.shown (nat_abs m)) (drop l.lit-index l.lits)
