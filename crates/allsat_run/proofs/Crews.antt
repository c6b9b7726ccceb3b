-- Lists of workers, of which one goes or comes at the end.
use Rattle.std.proofs.Common.{◌≡◌, zero, suc, List, [], ◌∷◌, ◌++◌, sym, subst, arith}
use Rattle.std.specs.List.{All}
use Rattle.std.proofs.lemmas.List.Elements.{All-append, All-cons, All-nil}

module _ {A : Type 0} (P : A → Type 0) where
  all_last : (xs : List A) (x : A) → All P (xs ++ x ∷ []) → P x
  all_last [] x all = all 0 x (omega arith)
  all_last (y ∷ ys) x all = all_last ys x (λ k d inside. all (suc k) d (omega arith))

  all_front : (xs : List A) (x : A) → All P (xs ++ x ∷ []) → All P xs
  all_front [] x all k d inside = absurd (omega arith)
  all_front (y ∷ ys) x all zero d inside = all 0 d (omega arith)
  all_front (y ∷ ys) x all (suc k) d inside = all_front ys x (λ i e below. all (suc i) e (omega arith)) k d (omega arith)

  pub last_of_all : (old new : List A) (x : A) → old ≡ new ++ x ∷ [] → All P old → P x
  last_of_all old new x is all = all_last new x (subst (All P) is all)

  pub rest_of_all : (old new : List A) (x : A) → old ≡ new ++ x ∷ [] → All P old → All P new
  rest_of_all old new x is all = all_front new x (subst (All P) is all)

  pub all_with : (old new : List A) (x : A) → new ≡ old ++ x ∷ [] → All P old → P x → All P new
  all_with old new x is all one = subst (All P) (sym is) (All-append P old (x ∷ []) all (All-cons P x [] one (All-nil P)))
