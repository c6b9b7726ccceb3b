-- Several reads in a row, where the source tells its bytes.
use Rattle.std.proofs.Common.{ℕ, Option, Some, None, List, [], ◌++◌, refl, sym, ◌∙◌, ap, append_assoc}
use Rattle.std.specs.Io.KnownBytes.{Consumes, Keeps}

-- no byte was taken where none changed
pub Consumes-nil : (a : Option (List ℕ)) → Consumes a a []
Consumes-nil None = tt
Consumes-nil (Some xs) = refl

-- two reads in a row
pub Consumes-more : (a b c : Option (List ℕ)) (xs ys : List ℕ) → Consumes a b xs → Consumes b c ys → Consumes a c (xs ++ ys)
Consumes-more None b c xs ys first second = tt
Consumes-more (Some ws) None c xs ys first second = absurd first
Consumes-more (Some ws) (Some us) None xs ys first second = second
Consumes-more (Some ws) (Some us) (Some vs) xs ys first second =
    first ∙ ap (λ (l : List ℕ). xs ++ l) second ∙ sym (append_assoc xs ys vs)

-- a read, and then nothing
pub Consumes-Keeps : (a b c : Option (List ℕ)) (xs : List ℕ) → Consumes a b xs → Keeps b c → Consumes a c xs
Consumes-Keeps None b c xs first kept = tt
Consumes-Keeps (Some ws) None c xs first kept = absurd first
Consumes-Keeps (Some ws) (Some us) None xs first kept = kept
Consumes-Keeps (Some ws) (Some us) (Some vs) xs first kept = first ∙ ap (λ (l : List ℕ). xs ++ l) (sym kept)
