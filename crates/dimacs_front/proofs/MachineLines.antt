-- The machine over the tokens of a line, and over the variables of a show line.
use Rattle.std.specs.Prelude.{ℕ, true, List, map, fold}
use Rattle.dimacs_tokens.specs.Seen.{seen_token}
use Rattle.dimacs_front.specs.declared.line_place.LinePlace.TheVariants.{Beginning}
use Rattle.dimacs_front.specs.declared.show_lines.Named.{Named}
use Rattle.dimacs_front.specs.Machine.{StateView, name_once, eaten, closed, at_place}

-- these tokens of line n, and so the whole line
abbrev pub tokens_said : ℕ → StateView → List (List ℕ) → StateView
tokens_said n s ts = fold (λ u t. eaten n u (seen_token t)) s ts

abbrev pub line_said : ℕ → StateView → List (List ℕ) → StateView
line_said n s ts = closed n (tokens_said n s ts)

-- at the beginning of a line, above the header or below
abbrev pub at_beginning : StateView → StateView
at_beginning s = at_place s Beginning

-- behind a show line
abbrev pub with_names : StateView → List Named → StateView
with_names s named = record s { place = Beginning; given = true; named = named }

-- the names behind a show line of these variables
abbrev pub named_in : ℕ → ℕ → Named
named_in n v = record { variable = v; line = n }

abbrev pub names_behind : ℕ → List Named → List ℕ → List Named
names_behind n named vs = fold name_once named (map (named_in n) vs)
