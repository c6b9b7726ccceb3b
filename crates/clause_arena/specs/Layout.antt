-- How clauses lie in memory: their literals one after another, and the places at which they end.
use Rattle.std.specs.Prelude.{◌≡◌, ℕ, ◌+◌, ◌-◌, ◌<◌, ◌≤◌, ◌^◌, List, [], ◌∷◌, length, take, drop, slice_index, ℤ}
use Rattle.clause_arena.specs.Clauses.{IsArena}

-- The clauses that begin at the place `start` and end at these places.
abbrev pub pieces : List ℤ → ℕ → List ℕ → List (List ℤ)
pieces lits start [] = []
pieces lits start (end ∷ ends) = take (end - start) (drop start lits) ∷ pieces lits end ends

-- The ends do not fall, from `start` on, and the last one is `stop`.
abbrev pub AreEnds : ℕ → List ℕ → ℕ → Type 0
AreEnds start [] stop = start ≡ stop
AreEnds start (end ∷ ends) stop = (start ≤ end) × AreEnds end ends stop

-- The clauses are those of an arena and fill the literals, and both keep to the limits of the
-- formula and of the lemmas.
pub record IsLaidOut (lits : List ℤ) (ends : List ℕ) (base : ℕ) : Type 0 where
  pub arena : IsArena (record { clauses = pieces lits 0 ends; base = base })
  pub filled : AreEnds 0 ends (length lits)
  pub based : base ≤ length ends
  pub clauses : base < 2 ^ 30
  pub literals : slice_index (0 ∷ ends) base < 2 ^ 31
  pub lemmas : length ends ≤ base + 1000000
  pub lemma_literals : length lits ≤ slice_index (0 ∷ ends) base + 16000000
