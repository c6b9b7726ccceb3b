-- How the machine judges the given literals: by the variables that are given, and by those whose
-- negations are.
use Rattle.std.specs.Prelude.{◌≡◌, ℕ, ◌<◌, cond, List, [], ◌∷◌, ℤ, pos, neg_ℤ, Some, None, Result, Ok, Err}
use Rattle.sat_terms.specs.Cubes.{has_literal}
use Rattle.dimacs_front.specs.declared.show_lines.Named.{Named}
use Rattle.dimacs_front.specs.declared.under_lines.Given.{Given}
use Rattle.dimacs_front.specs.Machine.{is_named}
use Rattle.dimacs_front.specs.TextEnds.{first_misplaced, under_of}

-- the variables of these literals, by their signs
pub record AreSigns (ps ns : List Named) (ls : List ℤ) : Type 0 where
  pub positive : (v : ℕ) → 0 < v → is_named ps v ≡ has_literal ls (pos v)
  pub negative : (v : ℕ) → 0 < v → is_named ns v ≡ has_literal ls (neg_ℤ (pos v))

-- the literal of a variable, by its sign
abbrev pub signed : List Named → List Named → ℕ → List ℤ
signed ps ns v =
    cond (is_named ps v) (pos v ∷ []) (cond (is_named ns v) (neg_ℤ (pos v) ∷ []) [])

-- the cube of the given literals, or the line of the first one that may not be given
pub record IsUnder (vs : List ℕ) (gs : List Given) (c : List ℤ) : Type 0 where
  pub placed : first_misplaced vs [] gs ≡ None
  pub same : c ≡ under_of gs vs

abbrev pub JudgesGiven : List ℕ → List Given → Result (List ℤ) ℕ → Type 0
JudgesGiven vs gs (Ok c) = IsUnder vs gs c
JudgesGiven vs gs (Err line) = first_misplaced vs [] gs ≡ Some line
