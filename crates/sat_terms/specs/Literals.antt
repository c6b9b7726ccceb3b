-- Literals and total assignments.
use Rattle.std.specs.Prelude.{ℕ, suc, ◌<◌, ◌≤◌, ◌^◌, Bool, not, ℤ, pos, negsuc, nat_abs}

-- A literal is a nonzero whole number of 31 bits; its variable is its size, `nat_abs l`.
abbrev pub IsLiteral : ℤ → Type 0
IsLiteral l = (0 < nat_abs l) × (nat_abs l < 2 ^ 31)

-- A literal of one of the variables 1 to n.
abbrev pub IsLiteralOf : ℕ → ℤ → Type 0
IsLiteralOf n l = (0 < nat_abs l) × (nat_abs l ≤ n)

-- A total assignment t gives each variable a truth value. The literal v is true in it where v is,
-- the literal -v where v is not.
abbrev pub lit_true : (ℕ → Bool) → ℤ → Bool
lit_true t (pos n) = t n
lit_true t (negsuc n) = not (t (suc n))
