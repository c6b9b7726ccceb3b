use Rattle.std.proofs.Common.{◌≡◌, ◌^◌, drop, nat_abs}
use Rattle.std.specs.Prelude.{nat_lt}
use Rattle.std.specs.List.{list_all}
use Rattle.checkpoint.proofs.cube_line.are_sized.Given as goal

abbrev pub invariant-loop-number : goal.invariant-loop-number
invariant-loop-number l =
    list_all (λ m. nat_lt (nat_abs m) (2 ^ 31)) l.numbers ≡ list_all (λ m. nat_lt (nat_abs m) (2 ^ 31)) (drop l.number-index l.numbers)
