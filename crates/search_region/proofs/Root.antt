-- The oldest part of a trail, up to the decisions of the base level.
use Rattle.std.proofs.Common.{◌≡◌, ℕ, ◌<◌, ◌≤◌, Bool, true, not, ◌&&◌, cond, ℤ, List, [], ◌∷◌, ◌++◌, refl, sym, subst, ◌∙◌, ◌⊎◌, inl, inr, arith}
use Rattle.std.proofs.lemmas.Bool.{and_parts, cases_Bool, cases_lt, le-leb, lt-leb}
use Rattle.std.proofs.lemmas.List.Folds.{list_all-append}
use Rattle.sat_terms.specs.Literals.{lit_true}
use Rattle.sat_terms.specs.Truth.{holds}
use Rattle.search_region.specs.Trail.{Item, depth, seen, is_implied}
use Rattle.search_region.specs.Steady.{Steady}
use Rattle.search_region.specs.Region.{front, root}
use Rattle.search_region.proofs.Back.{depth_rises}

pub cases_le : (m n : ℕ) → (m ≤ n) ⊎ (n < m)
cases_le m n = elim (cases_lt n m) [ inl h ↦ inr h | inr h ↦ inl h ]

-- what stands before newer items is part of what stands before and with them
pub front_older : (shown t : ℕ → Bool) (newer older : List Item) → holds t (front shown (newer ++ older)) ≡ true → holds t (front shown older) ≡ true
front_older shown t [] older h = h
front_older shown t (i ∷ newer) older h =
    front_older shown t newer older
    (elim (cases_Bool (seen shown i && not (is_implied i.kind))) [
      | inl e ↦ (and_parts (holds t (front shown (newer ++ older))) (holds t (i.lit ∷ []))
          (sym (list_all-append (lit_true t) (front shown (newer ++ older)) (i.lit ∷ [])) ∙ subst (λ b. holds t (cond b (front shown (newer ++ older) ++ i.lit ∷ []) (front shown (newer ++ older))) ≡ true) e h)).0
      | inr e ↦ subst (λ b. holds t (cond b (front shown (newer ++ older) ++ i.lit ∷ []) (front shown (newer ++ older))) ≡ true) e h
    ])

-- a trail of no level above the base is all root
pub root_whole : (base : ℕ) (trail : List Item) → depth trail ≤ base → root base trail ≡ trail
root_whole base [] h = refl
root_whole base (i ∷ older) h = rw (le-leb (depth (i ∷ older)) base h) refl

pub root_above : (base : ℕ) (i : Item) (older : List Item) → base < depth (i ∷ older) → root base (i ∷ older) ≡ root base older
root_above base i older h = rw (lt-leb (depth (i ∷ older)) base h) refl

-- items above the base aren't in the root
pub root_older : (f : List (List ℤ)) (shown : ℕ → Bool) (base : ℕ) (newer older : List Item) → Steady f shown (newer ++ older) → base < depth older → root base (newer ++ older) ≡ root base older
root_older f shown base [] older s h = refl
root_older f shown base (i ∷ newer) older s h =
    let rises = depth_rises f shown (i ∷ newer) older s in
    root_above base i (newer ++ older) (omega arith) ∙ root_older f shown base newer older s.1 h
