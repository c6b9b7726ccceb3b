-- The stamps of literals.
use Rattle.std.proofs.Common.{◌≡◌, ◌<◌, ◌^◌, ℤ, pos, neg_ℤ, nat_abs, ◌-ℤ◌, ap, ◌∙◌, arith, ℕ, ◌+◌, ◌*◌, ◌≤◌, ◌||◌, nat_eq, List, length, take, set, get_or, sym, inl, inr, get_or-set_same, get_or-set_other, length-set}
use mir.Syntax.{w32}
use mir.Val.{to_z, of_z}
use Rattle.sat_terms.proofs.CubeLemmas.{nat_abs-neg}
use Rattle.sat_terms.proofs.Machine.{negated}
use Rattle.std.specs.Ordering.{int_eq}
use Rattle.std.proofs.lemmas.Bool.{cases_Bool, eq-eqb, or_right, both_ways}
use Rattle.std.proofs.lemmas.Bool.Decides.{Decides-int_eq}
use Rattle.std.proofs.lemmas.List.Folds.{list_any_more}
use Rattle.std.proofs.Math.Bool.{or-false}
use Rattle.sat_terms.proofs.Keys.{same_from_key, key-le}
use Rattle.sat_terms.specs.CubeOrder.{key}
use Rattle.sat_terms.specs.Cubes.{has_literal}
use Rattle.sat_terms.specs.Stamps.{AreStamped}

-- one more literal
pub stamped_more : (stamps : List ℕ) (stamp : ℕ) (c : List ℤ) (i place : ℕ) → i < length c → place ≡ key (get_or c i (pos 0)) → place < length stamps → AreStamped stamps stamp (take i c) → AreStamped (set stamps place stamp) stamp (take (i + 1) c)
stamped_more stamps stamp c i place inside at room before = λ l h.
    elim (cases_Bool (int_eq l (get_or c i (pos 0)))) [
      | inl same ↦
          let here : key l ≡ place = ap key ((Decides-int_eq l (get_or c i (pos 0))).0 same) ∙ sym at in
          eq-eqb (get_or (set stamps place stamp) (key l) 0) stamp (ap (λ k. get_or (set stamps place stamp) k 0) here ∙ get_or-set_same stamps place stamp 0 room)
          ∙ sym (list_any_more (int_eq l) c i (pos 0) inside ∙ or_right (has_literal (take i c) l) (int_eq l (get_or c i (pos 0))) same)
      | inr other ↦
          let elsewhere : key l ≡ place → ⊥ = λ e. both_ways (int_eq l (get_or c i (pos 0))) other ((Decides-int_eq l (get_or c i (pos 0))).1 (same_from_key l (get_or c i (pos 0)) (e ∙ at))) in
          ap (λ n. nat_eq n stamp) (get_or-set_other stamps place (key l) stamp 0 elsewhere)
          ∙ before l (omega (arith, length-set stamps place stamp))
          ∙ sym (list_any_more (int_eq l) c i (pos 0) inside ∙ ap (λ b. has_literal (take i c) l || b) other ∙ or-false (has_literal (take i c) l))
    ]

-- the place of the negation of a literal bears the stamp where the clause has the negation
pub stamped_negation : (stamps old : List ℕ) (stamp : ℕ) (c : List ℤ) (l : ℤ) (place : ℕ) → AreStamped stamps stamp c →
    length stamps ≡ length old → 2 * nat_abs l + 1 < length old → length old ≤ 2 ^ 32 →
    place ≡ key (to_z w32 (of_z w32 (pos 0 -ℤ to_z w32 (of_z w32 l)))) → nat_eq (get_or stamps place 0) stamp ≡ has_literal c (neg_ℤ l)
stamped_negation stamps old stamp c l place told same room few at =
    ap (λ k. nat_eq (get_or stamps k 0) stamp) (at ∙ ap key (negated l (omega arith)))
    ∙ told (neg_ℤ l) (let low = key-le (neg_ℤ l) in omega (arith, nat_abs-neg l))
