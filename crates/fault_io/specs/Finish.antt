-- Whether a sink is finished: its last bytes were handed on, and none came since.
use Rattle.std.specs.Prelude.{◌≡◌, ℕ, ◌<◌, Bool, false}

-- n bytes came: any byte ends that the sink is finished, and none changes nothing
pub record FinishedAfter (n : ℕ) (before now : Bool) : Type 0 where
  pub some : 0 < n → now ≡ false
  pub none : n ≡ 0 → now ≡ before
