-- The stamps of literals, one more at a time.
use Rattle.std.proofs.Common.{◌≡◌, ◌<◌, ◌+◌, ℕ, ℤ, pos, ◌||◌, List, [], ◌∷◌, ◌++◌, nat_eq, length, set, take, get_or, sym, ap, subst, ◌∙◌, inl, inr, arith, append_assoc, get_or-set_same, get_or-set_other, length-set}
use Rattle.std.specs.Ordering.{int_eq}
use Rattle.std.proofs.Math.Bool.{or-false}
use Rattle.std.proofs.lemmas.Bool.{cases_Bool, eq-eqb, or_right, both_ways}
use Rattle.std.proofs.lemmas.Bool.Decides.{Decides-int_eq}
use Rattle.std.proofs.lemmas.List.{take_more}
use Rattle.std.proofs.lemmas.List.Folds.{list_any-append}
use Rattle.sat_terms.proofs.Keys.{same_from_key}
use Rattle.sat_terms.specs.CubeOrder.{key}
use Rattle.sat_terms.specs.Cubes.{has_literal}
use Rattle.sat_terms.specs.Stamps.{AreStamped}

has_one_more : (c : List ℤ) (m l : ℤ) → has_literal (c ++ m ∷ []) l ≡ (has_literal c l || int_eq l m)
has_one_more c m l = list_any-append (int_eq l) c (m ∷ []) ∙ ap (λ b. has_literal c l || b) (or-false (int_eq l m))

-- one more literal
pub stamped_one : (stamps : List ℕ) (stamp : ℕ) (c : List ℤ) (m : ℤ) (place : ℕ) → place ≡ key m → place < length stamps →
    AreStamped stamps stamp c → AreStamped (set stamps place stamp) stamp (c ++ m ∷ [])
stamped_one stamps stamp c m place at room before = λ l h.
    elim (cases_Bool (int_eq l m)) [
      | inl same ↦
          let here : key l ≡ place = ap key ((Decides-int_eq l m).0 same) ∙ sym at in
          eq-eqb (get_or (set stamps place stamp) (key l) 0) stamp (ap (λ k. get_or (set stamps place stamp) k 0) here ∙ get_or-set_same stamps place stamp 0 room)
          ∙ sym (has_one_more c m l ∙ or_right (has_literal c l) (int_eq l m) same)
      | inr other ↦
          let elsewhere : key l ≡ place → ⊥ = λ e. both_ways (int_eq l m) other ((Decides-int_eq l m).1 (same_from_key l m (e ∙ at))) in
          ap (λ n. nat_eq n stamp) (get_or-set_other stamps place (key l) stamp 0 elsewhere)
          ∙ before l (omega (arith, length-set stamps place stamp))
          ∙ sym (has_one_more c m l ∙ ap (λ b. has_literal c l || b) other ∙ or-false (has_literal c l))
    ]

-- one more literal of a list
pub stamped_next : (stamps : List ℕ) (stamp : ℕ) (c lits : List ℤ) (i place : ℕ) → i < length lits → place ≡ key (get_or lits i (pos 0)) → place < length stamps →
    AreStamped stamps stamp (c ++ take i lits) → AreStamped (set stamps place stamp) stamp (c ++ take (i + 1) lits)
stamped_next stamps stamp c lits i place inside at room before =
    let m = get_or lits i (pos 0) in
    let longer : (c ++ take i lits) ++ m ∷ [] ≡ c ++ take (i + 1) lits = append_assoc c (take i lits) (m ∷ []) ∙ ap (λ xs. c ++ xs) (sym (take_more lits i (pos 0) inside)) in
    subst (λ xs. AreStamped (set stamps place stamp) stamp xs) longer (stamped_one stamps stamp (c ++ take i lits) m place at room before)
