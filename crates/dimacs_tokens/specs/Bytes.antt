-- The bytes that cut a text.
use Rattle.std.specs.Prelude.{ℕ, Bool, ◌==◌, ◌||◌}

-- the byte that ends a line
abbrev pub is_newline : ℕ → Bool
is_newline b = b == 10

-- white space inside a line: tab, vertical tab, form feed, carriage return, space
unfoldable pub is_white : ℕ → Bool
is_white b = (b == 9) || (b == 11) || (b == 12) || (b == 13) || (b == 32)
