-- What the making of a cube answers.
use Rattle.std.specs.Prelude.{◌≡◌, ℕ, List, ℤ, Option, Some, None, Result, Ok, Err}
use Rattle.sat_terms.specs.Cubes.{IsCube, IsNotShownAt, IsNotRisingAt}
use Rattle.sat_terms.specs.declared.cube.CubeRefused.{CubeRefused}
use Rattle.sat_terms.specs.declared.cube.CubeRefused.TheVariants.{NotShown, NotRising, OutOfMemory}

-- The refusal of the first place at which c is no cube over p; none where c is one.
abbrev pub JudgesCube : List ℕ → List ℤ → Option CubeRefused → Type 0
JudgesCube p c None = IsCube p c
JudgesCube p c (Some (NotShown k)) = IsNotShownAt p c k
JudgesCube p c (Some (NotRising k)) = IsNotRisingAt p c k
JudgesCube p c (Some (OutOfMemory e)) = ⊥

-- Just c where it is a cube over p, and else its refusal, or want of memory.
abbrev pub GivesCube : List ℕ → List ℤ → Result (List ℤ) CubeRefused → Type 0
GivesCube p c (Ok d) = (d ≡ c) × IsCube p c
GivesCube p c (Err (NotShown k)) = IsNotShownAt p c k
GivesCube p c (Err (NotRising k)) = IsNotRisingAt p c k
GivesCube p c (Err (OutOfMemory e)) = Unit {0}
