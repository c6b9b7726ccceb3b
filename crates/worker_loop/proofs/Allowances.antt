-- When an allowance is spent, and that one leaf more spends no more than it.
use Rattle.std.proofs.Common.{◌≡◌, ℕ, false, Option, Some, None, refl, arith}
use Rattle.std.proofs.lemmas.Bool.{leb-false, lt-leb}
use Rattle.live_engine.specs.Steps.{counted}
use Rattle.worker_loop.specs.Sweeps.{is_spent, IsAllowed}
use Rattle.worker_loop.specs.Jobs.{spent_with}

-- an unspent allowance allows what is spent
pub unspent_allowed : (allowance : Option ℕ) (spent : ℕ) → is_spent allowance spent ≡ false → IsAllowed allowance spent
unspent_allowed None spent h = tt
unspent_allowed (Some a) spent h = let low = leb-false a spent h in omega arith

-- and one leaf more
pub one_more : (allowance : Option ℕ) (spent leaves : ℕ) → is_spent allowance (spent_with spent leaves) ≡ false → IsAllowed allowance (spent_with spent (counted leaves))
one_more None spent leaves h = tt
one_more (Some a) spent leaves h = let low = leb-false a (spent_with spent leaves) h in omega arith

-- without a leaf it stays unspent
pub none_more : (allowance : Option ℕ) (spent leaves : ℕ) → leaves ≡ 0 → is_spent allowance spent ≡ false → is_spent allowance (spent_with spent leaves) ≡ false
none_more None spent leaves zero h = refl
none_more (Some a) spent leaves zero h = let low = leb-false a spent h in lt-leb a (spent_with spent leaves) (omega arith)
