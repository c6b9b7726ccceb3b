-- Lines of numbers.
use Rattle.std.specs.Prelude.{ℕ, List, ◌++◌, flat_map, ℤ, codes}
use Rattle.std.specs.Fmt.{signed_decimal}

-- a decimal number with a space behind
abbrev pub number_word : ℤ → List ℕ
number_word n = signed_decimal n ++ codes " "

-- the numbers in order, each with a space behind, and then 0
abbrev pub zero_ended : List ℤ → List ℕ
zero_ended numbers = flat_map number_word numbers ++ codes "0"
