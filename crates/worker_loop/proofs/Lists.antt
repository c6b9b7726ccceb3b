-- What holds of each element, once one more joined.
use Rattle.std.proofs.Common.{◌≡◌, List, [], ◌∷◌, ◌++◌, sym, subst}
use Rattle.std.specs.List.{All}
use Rattle.std.proofs.lemmas.List.Elements.{All-append, All-cons, All-nil}

pub one_more : {X : Type 0} (P : X → Type 0) (xs ys : List X) (x : X) → ys ≡ xs ++ x ∷ [] →
    All P xs → P x → All P ys
one_more P xs ys x grown before here =
    subst (All P) (sym grown)
    (All-append P xs (x ∷ []) before (All-cons P x [] here (All-nil P)))
