-- The passes that come back, and their claims.
use Rattle.std.proofs.Common.{◌≡◌, ℕ, zero, suc, ◌<◌, List, [], ◌∷◌, ◌++◌, map, length, get_or, refl, sym, ap, ◌∙◌, inl, inr, ⊎_elim, arith, true, false}
use Rattle.std.specs.Prelude.{All}
use Rattle.std.proofs.lemmas.List.{append_assoc}
use mathlib.Core.List.{map-append}
use Rattle.turn_cell.specs.declared.rule.Claim.{Claim}
use Rattle.turn_cell.specs.Passes.{PassView}
use Rattle.turn_cell.specs.Idle.{claim_of}
use Rattle.turn_cell.proofs.Lists.{Has}

module _ {A : Type 0} (P : A → Type 0) where
  pub all_last : (xs : List A) (x : A) → All P (xs ++ x ∷ []) → P x
  all_last [] x h = h 0 x (omega arith)
  all_last (y ∷ ys) x h = all_last ys x (λ k d lt. h (suc k) d (omega arith))

  pub all_front : (xs : List A) (x : A) → All P (xs ++ x ∷ []) → All P xs
  all_front [] x h k d lt = absurd (omega arith)
  all_front (y ∷ ys) x h zero d lt = h 0 d (omega arith)
  all_front (y ∷ ys) x h (suc k) d lt = all_front ys x (λ i e below. h (suc i) e (omega arith)) k d (omega arith)

pub nothing_left : {A : Type 0} (xs : List A) (n : ℕ) → n ≡ length xs → (0 < n → false ≡ true) → xs ≡ []
nothing_left [] n e h = refl
nothing_left (x ∷ xs) n e h = absurd (let k : false ≡ true = h (omega arith) in cc)

pub has_mapped : {A B : Type 0} (f : A → B) (xs : List A) (k : ℕ) (d : A) → k < length xs → Has (f (get_or xs k d)) (map f xs)
has_mapped f [] k d lt = absurd (omega arith)
has_mapped f (x ∷ xs) zero d lt = inl refl
has_mapped f (x ∷ xs) (suc k) d lt = inr (has_mapped f xs k d (omega arith))

module _ {E F : Type 0} where
  pub claims_next : (items xs : List (PassView E F)) (p : PassView E F) (rest : List (Claim E)) → items ≡ xs ++ p ∷ [] → map claim_of xs ++ (claim_of p ∷ rest) ≡ map claim_of items ++ rest
  claims_next items xs p rest is = sym (append_assoc (map claim_of xs) (claim_of p ∷ []) rest) ∙ ap (λ (l : List (Claim E)). l ++ rest) (sym (map-append claim_of xs (p ∷ [])) ∙ ap (map claim_of) (sym is))

  pub has_number : (c : Claim E) (ps : List (PassView E F)) → Has c (map claim_of ps) → Has c.pass (map (λ (p : PassView E F). p.number) ps)
  has_number c [] h = h
  has_number c (p ∷ ps) h = ⊎_elim (λ (e : claim_of p ≡ c). inl (ap (λ (z : Claim E). z.pass) e)) (λ (r : Has c (map claim_of ps)). inr (has_number c ps r)) h
