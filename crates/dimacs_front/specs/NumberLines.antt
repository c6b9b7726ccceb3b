-- What a line of numbers says. Here n is the line's number.
use Rattle.std.specs.Prelude.{ℕ, ◌+◌, cond, ◌==◌, nat_le, nat_lt, List, [], ◌∷◌, ◌++◌, length, ℤ, nat_abs, Option, Some, None, Result, Ok, Err}
use Rattle.std.specs.List.{sum_by}
use Rattle.dimacs_front.specs.declared.refused.TextRefused.{TextRefused}
use Rattle.dimacs_front.specs.declared.refused.TextRefused.TheVariants.{BadNumber, VariableTooLarge, TooManyClauses, TooManyLiterals}
use Rattle.dimacs_front.specs.Limits.{most_clauses, most_literals}
use Rattle.dimacs_front.specs.Steps.{needs, steps}
use Rattle.dimacs_front.specs.HeaderLines.{Below}

-- how many literals there are
abbrev pub literals_of : Below → ℕ
literals_of w = sum_by length w.clauses + length w.open_clause

-- a 0 ends the clause, and any other number is its next literal
abbrev pub clause_ended : Below → Below
clause_ended w = record w { clauses = w.clauses ++ w.open_clause ∷ []; open_clause = [] }

abbrev pub literal_added : Below → ℤ → Below
literal_added w l = record w { open_clause = w.open_clause ++ l ∷ [] }

abbrev pub number_says : ℕ → Below → Option ℤ → Result Below TextRefused
number_says n w None = Err (BadNumber n)
number_says n w (Some l) =
    cond (nat_abs l == 0)
    (needs (nat_lt (length w.clauses) most_clauses) (TooManyClauses n) (Ok (clause_ended w)))
    (needs (nat_le (nat_abs l) w.variables) (VariableTooLarge n)
    (needs (nat_lt (literals_of w) most_literals) (TooManyLiterals n) (Ok (literal_added w l))))

-- the values of the line's tokens, one after the other
abbrev pub numbers_say : ℕ → Below → List (Option ℤ) → Result Below TextRefused
numbers_say n w os = steps (number_says n) w os
