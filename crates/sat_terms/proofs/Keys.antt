-- A literal is known by its key, which is its place in a table.
use Rattle.std.proofs.Common.{◌≡◌, ◌+◌, ◌*◌, ◌<◌, ◌≤◌, ℕ, nat_eq, List, [], ◌∷◌, map, refl, sym, ap, ◌∙◌, inl, inr, arith}
use Rattle.std.specs.Prelude.{ℤ, pos, negsuc, nat_abs}
use Rattle.std.specs.Ordering.{int_eq}
use Rattle.std.proofs.lemmas.Bool.{cases_eq, eq-eqb, ne_eqb, false_from_ne_true}
use Rattle.std.proofs.lemmas.Bool.Decides.{Decides-int_eq}
use Rattle.sat_terms.specs.CubeOrder.{key}
use Rattle.sat_terms.specs.Literals.{IsLiteralOf}

pub same_from_key : (l m : ℤ) → key l ≡ key m → l ≡ m
same_from_key (pos a) (pos b) h = ap pos (omega arith)
same_from_key (pos a) (negsuc b) h = absurd (omega arith)
same_from_key (negsuc a) (pos b) h = absurd (omega arith)
same_from_key (negsuc a) (negsuc b) h = ap negsuc (omega arith)

pub same_from_keys : (c d : List ℤ) → map key c ≡ map key d → c ≡ d
same_from_keys [] [] h = refl
same_from_keys [] (m ∷ d) h = cc
same_from_keys (l ∷ c) [] h = cc
same_from_keys (l ∷ c) (m ∷ d) h =
    let first : key l ≡ key m = cc in
    let rest : map key c ≡ map key d = cc in
    let same : l ≡ m = same_from_key l m first in
    let others : c ≡ d = same_from_keys c d rest in
    cc

pub key_test : (l m : ℤ) → nat_eq (key l) (key m) ≡ int_eq l m
key_test l m =
    elim (cases_eq (key l) (key m)) [
      | inl same ↦ eq-eqb (key l) (key m) same ∙ sym ((Decides-int_eq l m).1 (same_from_key l m same))
      | inr differs ↦ ne_eqb (key l) (key m) differs ∙ sym (false_from_ne_true (int_eq l m) (λ e. differs (ap key ((Decides-int_eq l m).0 e))))
    ]

-- a table with two places for each variable from 0 on has one for each literal
pub key-le : (l : ℤ) → key l ≤ 2 * nat_abs l + 1
key-le (pos v) = omega arith
key-le (negsuc v) = omega arith

pub key-lt : (n : ℕ) (l : ℤ) → IsLiteralOf n l → key l < 2 * (n + 1)
key-lt n l h = let low = h.1 in let small = key-le l in omega arith
