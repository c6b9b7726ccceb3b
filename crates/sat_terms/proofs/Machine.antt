-- Literals as the machine keeps them.
use Rattle.std.proofs.Common.{◌≡◌, ◌<◌, ◌^◌, ℤ, pos, negsuc, neg_ℤ, nat_abs, ◌-ℤ◌, sym, ◌∙◌, ap, subst, arith}
use mir.Syntax.{w32}
use mir.Val.{SFits, of_z, to_z}
use Rattle.std.proofs.lemmas.Int.{ints, to_z-of_z}
use Rattle.sat_terms.proofs.CubeLemmas.{nat_abs-neg}

-- literals with the same bits are the same
pub same_from_bits : (l m : ℤ) → SFits w32 l → SFits w32 m → of_z w32 l ≡ of_z w32 m → l ≡ m
same_from_bits l m fits_l fits_m e = sym (to_z-of_z w32 l fits_l) ∙ ap (to_z w32) e ∙ to_z-of_z w32 m fits_m

pub bits_from_same : (l m : ℤ) → l ≡ m → of_z w32 l ≡ of_z w32 m
bits_from_same l m e = ap (of_z w32) e

-- the size of a literal, read back from its bits
pub nat_abs-bits : (l : ℤ) → SFits w32 l → nat_abs (to_z w32 (of_z w32 l)) ≡ nat_abs l
nat_abs-bits l fits = ap nat_abs (to_z-of_z w32 l fits)

-- a literal fits in 32 bits, and so does its negation, which is the machine's
pub literal_fits : (l : ℤ) → nat_abs l < 2 ^ 31 → SFits w32 l
literal_fits (pos n) few = record { sfits = few }
literal_fits (negsuc n) few = record { sfits = omega arith }

pub negation_fits : (l : ℤ) → nat_abs l < 2 ^ 31 → SFits w32 (pos 0 -ℤ l)
negation_fits l small = let same : neg_ℤ l ≡ pos 0 -ℤ l = omega (arith, ints) in subst (SFits w32) same (literal_fits (neg_ℤ l) (omega (arith, nat_abs-neg l)))

pub negated : (l : ℤ) → nat_abs l < 2 ^ 31 → to_z w32 (of_z w32 (pos 0 -ℤ to_z w32 (of_z w32 l))) ≡ neg_ℤ l
negated l small = ap (λ z. to_z w32 (of_z w32 (pos 0 -ℤ z))) (to_z-of_z w32 l (literal_fits l small)) ∙ omega (arith, ints)
