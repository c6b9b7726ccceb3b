-- What a line says that is a list of numbers behind three words. Here n is the line's number.
use Rattle.std.specs.Prelude.{ℕ, Bool, false, cond, ◌==◌, nat_le, List, [], ◌∷◌, ℤ, pos, negsuc, nat_abs, Option, Some, None, Result, Ok, Err}
use Rattle.dimacs_tokens.specs.Seen.{is_nil}
use Rattle.dimacs_front.specs.declared.refused.TextRefused.{TextRefused}
use Rattle.dimacs_front.specs.declared.refused.TextRefused.TheVariants.{ShowBad, ShowUnended, UnderBad, UnderUnended}
use Rattle.dimacs_front.specs.Limits.{most_variables}
use Rattle.dimacs_front.specs.Steps.{and_then, needs}

-- the line's number, and what its list holds
pub record ListLine : Type 0 where
  pub line : ℕ
  pub values : List ℤ

-- the numbers up to the 0 that ends the line: each is one that the line may hold, and nothing
-- stands behind the 0
abbrev pub list_says : (ℤ → Bool) → TextRefused → TextRefused → List (Option ℤ) →
    Result (List ℤ) TextRefused
list_says may_hold bad unended [] = Err unended
list_says may_hold bad unended (None ∷ os) = Err bad
list_says may_hold bad unended (Some l ∷ os) =
    cond (nat_abs l == 0)
    (needs (is_nil os) bad (Ok []))
    (needs (may_hold l) bad (and_then (λ ls. Ok (l ∷ ls)) (list_says may_hold bad unended os)))

abbrev pub in_line : ℕ → Result (List ℤ) TextRefused → Result ListLine TextRefused
in_line n x = and_then (λ ls. Ok (record { line = n; values = ls })) x

-- a show line holds variables
abbrev pub is_variable : ℤ → Bool
is_variable (pos v) = nat_le v most_variables
is_variable (negsuc v) = false

abbrev pub show_says : ℕ → List (Option ℤ) → Result ListLine TextRefused
show_says n os = in_line n (list_says is_variable (ShowBad n) (ShowUnended n) os)

-- an under line holds literals
abbrev pub is_literal : ℤ → Bool
is_literal l = nat_le (nat_abs l) most_variables

abbrev pub under_says : ℕ → List (Option ℤ) → Result ListLine TextRefused
under_says n os = in_line n (list_says is_literal (UnderBad n) (UnderUnended n) os)
