-- What the header says. Here n is the line's number, counted from 1.
use Rattle.std.specs.Prelude.{ℕ, ℤ, pos, negsuc, ◌&&◌, nat_le, List, [], ◌∷◌, codes, Option, Some, None, Result, Ok, Err}
use Rattle.std.specs.Str.{bytes_eq}
use Rattle.dimacs_tokens.specs.Numbers.{token_value}
use Rattle.dimacs_front.specs.declared.refused.TextRefused.{TextRefused}
use Rattle.dimacs_front.specs.declared.refused.TextRefused.TheVariants.{BadHeader, TooManyVariables, TooManyClauses}
use Rattle.dimacs_front.specs.Limits.{most_variables, most_clauses}
use Rattle.dimacs_front.specs.Steps.{needs}

-- what the header and the lines of numbers below it say: the numbers of variables and of clauses by
-- the header, the clauses that a 0 ended, and the literals behind the last 0
pub record Below : Type 0 where
  pub variables : ℕ
  pub said : ℕ
  pub clauses : List (List ℤ)
  pub open_clause : List ℤ

-- a number without a minus
abbrev pub natural : Option ℤ → Option ℕ
natural None = None
natural (Some (pos n)) = Some n
natural (Some (negsuc n)) = None

-- the header with these numbers
abbrev pub header_of : ℕ → Option ℕ → Option ℕ → Result Below TextRefused
header_of n (Some v) (Some c) =
    needs (nat_le v most_variables) (TooManyVariables n)
    (needs (nat_le c most_clauses) (TooManyClauses n)
    (Ok (record { variables = v; said = c; clauses = []; open_clause = [] })))
header_of n v c = Err (BadHeader n)

-- its tokens are just `p`, `cnf` and two numbers without a minus
unfoldable pub header_says : ℕ → List (List ℕ) → Result Below TextRefused
header_says n (p ∷ cnf ∷ v ∷ c ∷ []) =
    needs (bytes_eq p (codes "p") && bytes_eq cnf (codes "cnf")) (BadHeader n)
    (header_of n (natural (token_value v)) (natural (token_value c)))
header_says n _ = Err (BadHeader n)
