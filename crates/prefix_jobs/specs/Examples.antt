-- An outcome that fits its prefix, worked by hand, and what of it does not.
use Rattle.std.specs.Prelude.{ℕ, List, [], ◌∷◌, ℤ, pos, neg_ℤ, Option, Some, None}
use Rattle.prefix_jobs.specs.Outcomes.{FitsPrefix}

-- The clauses `1 3` and `-2 4`, of which 1 and 2 are shown. Each assignment of these is good.
abbrev pub example_formula : List (List ℤ)
example_formula = (pos 1 ∷ pos 3 ∷ []) ∷ (neg_ℤ (pos 2) ∷ pos 4 ∷ []) ∷ []

abbrev pub example_shown : List ℕ
example_shown = 1 ∷ 2 ∷ []

-- The search of the empty prefix found `-1 -2`, and gives `1` away; it goes on within `-1 2`.
abbrev pub example_found : List ℤ
example_found = neg_ℤ (pos 1) ∷ neg_ℤ (pos 2) ∷ []

abbrev pub example_given : List ℤ
example_given = pos 1 ∷ []

abbrev pub example_kept : List ℤ
example_kept = neg_ℤ (pos 1) ∷ pos 2 ∷ []

-- Whether it fits, with these cubes, this kept prefix and so many leaves.
abbrev pub ExampleFits : List (List ℤ) → Option (List ℤ) → ℕ → Type 0
ExampleFits cubes kept leaves =
    FitsPrefix example_formula example_shown []
    (record { cubes = cubes; rest = example_given ∷ []; kept = kept; leaves = leaves })

-- One leaf is what was searched by then. With a cube twice, without the kept prefix or with one
-- leaf more it would not fit; with fewer leaves it does too.
pub record HasExamples : Type 0 where
  pub fits : ExampleFits (example_found ∷ []) (Some example_kept) 1
  pub twice : ExampleFits (example_found ∷ example_found ∷ []) (Some example_kept) 1 → ⊥
  pub left_out : ExampleFits (example_found ∷ []) None 1 → ⊥
  pub more : ExampleFits (example_found ∷ []) (Some example_kept) 2 → ⊥
  pub kept_too : ExampleFits (example_kept ∷ example_found ∷ []) (Some example_kept) 1 → ⊥
