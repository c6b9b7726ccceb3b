-- Counts of faults: a `u64` that a failed call raises, until it stands at its last value.
use Rattle.std.specs.Prelude.{ℕ, ◌+◌, ◌-◌, ◌^◌, ◌≤◌, min}

-- one more, or the last value of a `u64`
abbrev pub one_more : ℕ → ℕ
one_more count = min (count + 1) (2 ^ 64 - 1)

-- the count did not fall, and is greater now or stands at the last value of a `u64`
pub record Rose (before now : ℕ) : Type 0 where
  pub later : before ≤ now
  pub more : one_more before ≤ now
