-- Several pieces in a row, as they end that a sink is finished.
use Rattle.std.proofs.Common.{◌≡◌, ℕ, zero, suc, ◌+◌, Bool, refl, ◌∙◌, arith}
use Rattle.fault_io.specs.Finish.{FinishedAfter}

-- no byte, and no change
pub FinishedAfter-none : (a : Bool) → FinishedAfter 0 a a
FinishedAfter-none a = record { some = λ h. absurd (omega arith); none = λ _. refl }

-- m bytes and then n more
pub FinishedAfter-more : (m n : ℕ) (a b c : Bool) → FinishedAfter m a b → FinishedAfter n b c → FinishedAfter (m + n) a c
FinishedAfter-more m zero a b c first second =
    let same : c ≡ b = second.none refl in
    record { some = λ h. same ∙ first.some (omega arith); none = λ h. same ∙ first.none (omega arith) }
FinishedAfter-more m (suc n) a b c first second =
    record { some = λ _. second.some (omega arith); none = λ h. absurd (omega arith) }
