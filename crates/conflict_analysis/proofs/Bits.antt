-- Negated literals as the machine keeps them.
use Rattle.std.proofs.Common.{◌≡◌, ◌<◌, ◌^◌, ℤ, pos, neg_ℤ, nat_abs, ◌-ℤ◌, ap, ◌∙◌, arith}
use Rattle.std.proofs.lemmas.Int.{to_z-of_z, ints}
use mir.Syntax.{w32}
use mir.Val.{SFits, of_z, to_z}

pub negated : (l : ℤ) → SFits w32 l → nat_abs l < 2 ^ 31 → to_z w32 (of_z w32 (pos 0 -ℤ to_z w32 (of_z w32 l))) ≡ neg_ℤ l
negated l fits small = ap (λ z. to_z w32 (of_z w32 (pos 0 -ℤ z))) (to_z-of_z w32 l fits) ∙ omega (arith, ints)
