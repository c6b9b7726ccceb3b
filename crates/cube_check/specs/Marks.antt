-- Literals that are marked, to be looked up.
use Rattle.std.specs.Prelude.{ℕ, ◌+◌, ◌*◌, ◌<◌, ◌≤◌, ◌^◌, List, length, ℤ, nat_abs}
use Rattle.std.specs.List.{All}
use Rattle.sat_terms.specs.Stamps.{AreStamped}

-- A stamp for each literal's place, and the present one.
pub record MarksView : Type 0 where
  pub stamps : List ℕ
  pub stamp : ℕ

-- The literals that bear the present stamp are those of c.
abbrev pub AreMarked : MarksView → List ℤ → Type 0
AreMarked m c = AreStamped m.stamps m.stamp c

-- The literal has a place.
abbrev pub FitsMarks : MarksView → ℤ → Type 0
FitsMarks m l = 2 * nat_abs l + 1 < length m.stamps

-- No stamp is above the present one, and each literal's place is a number of 32 bits.
pub record KeepsMarks (m : MarksView) : Type 0 where
  pub older : All (λ s. s ≤ m.stamp) m.stamps
  pub few : length m.stamps ≤ 2 ^ 32
