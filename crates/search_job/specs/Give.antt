-- Giving away the lowest untried branch of a job.
use Rattle.std.specs.Prelude.{◌≡◌, ℕ, suc, ◌-◌, ◌≤◌, Bool, true, false, not, cond, ℤ, List, [], ◌∷◌, filter}
use Rattle.sat_terms.specs.Truth.{holds}
use Rattle.sat_terms.specs.Cubes.{IsCube, is_among, within}
use Rattle.search_region.specs.Trail.{Item}
use Rattle.search_region.specs.Region.{front, root, untried, is_open}
use Rattle.search_job.specs.Weights.{FitsWeighed}
use Rattle.search_job.specs.Working.{Working}

-- The leaves that were counted when the oldest open decision above the level k was made; where
-- there is none, those of now.
abbrev pub next_count : (ℕ → Bool) → ℕ → (ℕ → ℕ) → ℕ → List Item → ℕ
next_count shown k count now [] = now
next_count shown k count now (i ∷ older) =
    cond (is_open shown k i)
    (next_count shown k count (count i.level) older)
    (next_count shown k count now older)

-- The test tells whether a cube is within the prefix.
pub record Tells (inside : List ℤ → Bool) (q : List ℤ) (c : List ℤ) : Type 0 where
  pub within : inside c ≡ true → (t : ℕ → Bool) → holds t c ≡ true →
      holds t q ≡ true
  pub other : inside c ≡ false →
      ((t : ℕ → Bool) → holds t c ≡ true → holds t q ≡ true) → ⊥

-- The prefix that the job keeps when its base rises by one.
abbrev pub kept_prefix : (ℕ → Bool) → ℕ → List Item → List ℤ
kept_prefix shown base trail = front shown (root (suc base) trail)

-- A job of the prefix q gave the prefix `given` away, with the cubes outside the prefix that it
-- keeps and the leaves `gone` that they took. What went fits q, beside the kept prefix; the job
-- goes on within this one, with the other cubes and the leaves since.
pub record Gives (f : List (List ℤ)) (shown : ℕ → Bool) (n base : ℕ) (count : ℕ → ℕ)
    (q : List ℤ) (trail : List Item) (found : List (List ℤ)) (leaves : ℕ)
    (inside : List ℤ → Bool) (given : List ℤ) (gone : ℕ) : Type 0 where
  pub first : untried shown base trail ≡ given ∷ untried shown (suc base) trail
  pub few : gone ≤ leaves
  pub fits : FitsWeighed f shown n q (filter (λ c. not (inside c)) found)
      (given ∷ kept_prefix shown base trail ∷ []) gone
  pub works : Working f shown n (suc base) (λ k. count k - gone)
      (kept_prefix shown base trail) trail (filter inside found) (leaves - gone)

-- The same with cubes over the shown variables p: the given and the kept prefix, and the test
-- whether a found cube is within the kept one.
pub record GivesCubes (f : List (List ℤ)) (p : List ℕ) (n base : ℕ) (count : ℕ → ℕ)
    (q : List ℤ) (trail : List Item) (found : List (List ℤ)) (leaves : ℕ)
    (given kept : List ℤ) (gone : ℕ) : Type 0 where
  pub given_is : IsCube p given
  pub kept_is : IsCube p kept
  pub few : gone ≤ leaves
  pub fits : FitsWeighed f (is_among p) n q (filter (λ c. not (within c kept)) found)
      (given ∷ kept ∷ []) gone
  pub works : Working f (is_among p) n (suc base) (λ k. count k - gone) kept trail
      (filter (λ c. within c kept) found) (leaves - gone)
