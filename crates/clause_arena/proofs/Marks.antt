-- The table of stamps: which literals a clause had so far.
use Rattle.std.proofs.Common.{◌≡◌, ◌≢◌, ℕ, ◌+◌, ◌<◌, Bool, true, false, ◌||◌, nat_eq, List, [], ◌∷◌, length, take, set, get_or, ℤ, pos, refl, sym, ap, ap₂, ◌∙◌, inl, inr, arith, get_or-set_same, get_or-set_other, length-set}
use Rattle.std.specs.List.{All, list_any}
use Rattle.std.proofs.lemmas.Bool.{cases_eq, eq-eqb, ne_eqb}
use Rattle.std.proofs.lemmas.List.Folds.{list_any_more}
use Rattle.sat_terms.proofs.Keys.{key_test}
use Rattle.sat_terms.specs.CubeOrder.{key}
use Rattle.sat_terms.specs.Cubes.{has_literal}

pub key_among : (l : ℤ) (c : List ℤ) → list_any (λ m. nat_eq (key l) (key m)) c ≡ has_literal c l
key_among l [] = refl
key_among l (m ∷ c) = ap₂ (λ a b. a || b) (key_test l m) (key_among l c)

-- one more literal, which has the stamp now
tells_step : (stamps : List ℕ) (stamp : ℕ) (c : List ℤ) (i : ℕ) (l : ℤ) → i < length c → l ≡ get_or c i (pos 0) → get_or stamps (key l) 0 ≡ stamp →
    ((k : ℕ) → k ≢ key l → k < length stamps → nat_eq (get_or stamps k 0) stamp ≡ list_any (λ m. nat_eq k (key m)) (take i c)) →
    (k : ℕ) → k < length stamps → nat_eq (get_or stamps k 0) stamp ≡ list_any (λ m. nat_eq k (key m)) (take (i + 1) c)
tells_step stamps stamp c i l inside is stamped tells k h =
    elim (cases_eq k (key l)) [
      | inl same ↦
          eq-eqb (get_or stamps k 0) stamp (ap (λ n. get_or stamps n 0) same ∙ stamped)
          ∙ sym (more ∙ ap (λ b. list_any (λ m. nat_eq k (key m)) (take i c) || b) (eq-eqb k (key (get_or c i (pos 0))) (same ∙ ap key is)) ∙ or_true (list_any (λ m. nat_eq k (key m)) (take i c)))
      | inr other ↦
          tells k other h
          ∙ sym (more ∙ ap (λ b. list_any (λ m. nat_eq k (key m)) (take i c) || b) (ne_eqb k (key (get_or c i (pos 0))) (λ e. other (e ∙ sym (ap key is)))) ∙ or_false (list_any (λ m. nat_eq k (key m)) (take i c)))
    ]
  where
    more : list_any (λ m. nat_eq k (key m)) (take (i + 1) c) ≡ (list_any (λ m. nat_eq k (key m)) (take i c) || nat_eq k (key (get_or c i (pos 0))))
    more = list_any_more (λ m. nat_eq k (key m)) c i (pos 0) inside

    or_true : (b : Bool) → (b || true) ≡ true
    or_true true = refl
    or_true false = refl

    or_false : (b : Bool) → (b || false) ≡ b
    or_false true = refl
    or_false false = refl

-- the stamp tells the first i literals of the clause
pub record Tells (stamps : List ℕ) (stamp : ℕ) (c : List ℤ) (i : ℕ) : Type 0 where
  pub tells : (k : ℕ) → k < length stamps → nat_eq (get_or stamps k 0) stamp ≡ list_any (λ m. nat_eq k (key m)) (take i c)

pub tells_old : (stamps : List ℕ) (stamp : ℕ) (c : List ℤ) (i : ℕ) (l : ℤ) → i < length c → l ≡ get_or c i (pos 0) → get_or stamps (key l) 0 ≡ stamp → Tells stamps stamp c i → Tells stamps stamp c (i + 1)
tells_old stamps stamp c i l inside is stamped t = record { tells = tells_step stamps stamp c i l inside is stamped (λ k other h. t.tells k h) }

pub tells_new : (stamps : List ℕ) (stamp : ℕ) (c : List ℤ) (i : ℕ) (l : ℤ) (place : ℕ) → i < length c → l ≡ get_or c i (pos 0) → place ≡ key l → key l < length stamps → Tells stamps stamp c i → Tells (set stamps place stamp) stamp c (i + 1)
tells_new stamps stamp c i l place inside is at room t = record {
  tells = tells_step (set stamps place stamp) stamp c i l inside is
      (ap (λ n. get_or (set stamps place stamp) n 0) (sym at) ∙ get_or-set_same stamps place stamp 0 (omega arith))
      (λ k other h. ap (λ n. nat_eq n stamp) (get_or-set_other stamps place k stamp 0 (λ e. other (e ∙ at))) ∙ t.tells k (omega (arith, length-set stamps place stamp)));
}

-- a place bears the stamp where its literal is one of the first i
pub told : (stamps : List ℕ) (stamp : ℕ) (c : List ℤ) (i : ℕ) (l : ℤ) → key l < length stamps → Tells stamps stamp c i → nat_eq (get_or stamps (key l) 0) stamp ≡ has_literal (take i c) l
told stamps stamp c i l room t = t.tells (key l) room ∙ key_among l (take i c)

-- a table of older stamps tells nothing yet
pub tells_none : (stamps : List ℕ) (stamp : ℕ) (c : List ℤ) → All (λ s. s < stamp) stamps → Tells stamps stamp c 0
tells_none stamps stamp c older = record { tells = λ k h. ne_eqb (get_or stamps k 0) stamp (λ e. let less = older k 0 h in absurd (omega arith)) }
