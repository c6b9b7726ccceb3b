-- Several writes in a row, where the sink tells its bytes.
use Rattle.std.proofs.Common.{ℕ, Option, Some, None, List, [], ◌++◌, sym, ◌∙◌, ap, append_assoc}
use Rattle.std.proofs.lemmas.List.{append-nil}
use Rattle.std.specs.Io.KnownBytes.{Appends, Keeps}

-- no byte was appended where none changed
pub Appends-nil : (a : Option (List ℕ)) → Appends a a []
Appends-nil None = tt
Appends-nil (Some xs) = sym (append-nil xs)

-- two appends in a row
pub Appends-more : (a b c : Option (List ℕ)) (xs ys : List ℕ) → Appends a b xs → Appends b c ys → Appends a c (xs ++ ys)
Appends-more None b c xs ys first second = tt
Appends-more (Some ws) None c xs ys first second = absurd first
Appends-more (Some ws) (Some us) None xs ys first second = second
Appends-more (Some ws) (Some us) (Some vs) xs ys first second =
    second ∙ ap (λ (l : List ℕ). l ++ ys) first ∙ append_assoc ws xs ys

-- an append, and then nothing
pub Appends-Keeps : (a b c : Option (List ℕ)) (xs : List ℕ) → Appends a b xs → Keeps b c → Appends a c xs
Appends-Keeps None b c xs first kept = tt
Appends-Keeps (Some ws) None c xs first kept = absurd first
Appends-Keeps (Some ws) (Some us) None xs first kept = kept
Appends-Keeps (Some ws) (Some us) (Some vs) xs first kept = kept ∙ first
