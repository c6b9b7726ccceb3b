-- What is seen of a token with one more byte at its end.
use Rattle.std.proofs.Common.{◌≡◌, ℕ, cond, ltb, List, [], ◌∷◌, ◌++◌, length, take, sym, ap, ◌∙◌, inl, inr, arith}
use Rattle.std.proofs.lemmas.Bool.{cases_lt, cond-true, cond-false, lt-ltb, le-ltb}
use Rattle.std.proofs.lemmas.List.{take_all, take-append-le, length-take-le, length_push}
use Rattle.dimacs_tokens.specs.Seen.{seen_token, more_seen}
use Rattle.dimacs_tokens.proofs.NumeralSteps.{numeral_push}

-- the first n bytes, with one more byte at the end
take_push : (n : ℕ) (t : List ℕ) (b : ℕ) → take n (t ++ b ∷ []) ≡ cond (ltb (length (take n t)) n) (take n t ++ b ∷ []) (take n t)
take_push n t b =
    elim (cases_lt (length t) n) [
      | inl short ↦
          let same : take n t ≡ t = take_all n t (omega arith) in
          take_all n (t ++ b ∷ []) (omega (arith, length_push t b))
          ∙ sym (cond-true _ _ _ (lt-ltb (length (take n t)) n (omega (arith, ap length same))) ∙ ap (λ x. x ++ b ∷ []) same)
      | inr long ↦
          take-append-le n t (b ∷ []) long
          ∙ sym (cond-false _ _ _ (le-ltb (length (take n t)) n (omega (arith, length-take-le n t long))))
    ]

pub seen_push : (t : List ℕ) (b : ℕ) → seen_token (t ++ b ∷ []) ≡ more_seen (seen_token t) b
unfolding seen_token more_seen
seen_push t b = λ i. record { head = take_push 8 t b i; number = numeral_push t b i }
