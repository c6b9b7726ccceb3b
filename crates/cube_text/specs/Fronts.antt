-- The line of a cube up to some literal.
use Rattle.std.specs.Prelude.{◌≡◌, ℕ, suc, ◌-◌, ◌<◌, ◌≤◌, cond, nat_eq, List, ◌++◌, length, take, flat_map, slice_index_or, ℤ, codes}
use Rattle.cube_text.specs.Lines.{number_word}

-- A text, and the place where the word of each literal in it ends.
pub record FrontView : Type 0 where
  pub text : List ℕ
  pub ends : List ℕ

-- The line of a cube up to its first k literals.
abbrev pub front_text : List ℤ → ℕ → List ℕ
front_text cube k = codes "v " ++ flat_map number_word (take k cube)

-- The text is that of the cube's line up to so many literals as have an end.
pub record IsFrontOf (cube : List ℤ) (front : FrontView) : Type 0 where
  pub few : length front.ends ≤ length cube
  pub text : front.text ≡ front_text cube (length front.ends)
  pub ends : (j : ℕ) → j < length front.ends →
      slice_index_or front.ends j 0 ≡ length (front_text cube (suc j))

-- Where the word of the k-th literal ends, and where the first one begins for 0.
abbrev pub word_end : ℕ → List ℕ → ℕ
word_end k ends = cond (nat_eq k 0) 2 (slice_index_or ends (k - 1) 0)
