-- The shown variables, one by one.
use Rattle.std.proofs.Common.{◌≡◌, ℕ, suc, ◌+◌, ◌-◌, ◌<◌, ◌≤◌, Bool, true, false, cond, List, [], ◌∷◌, ◌++◌, length, None, sym, ap, ◌∙◌, append_assoc, length-append, arith}
use Rattle.std.specs.List.{filter, range_with_len}
use Rattle.std.proofs.lemmas.Bool.{cond-true, cond-false, lt-leb}
use Rattle.std.proofs.lemmas.List.{length_push}
use Rattle.dimacs_front.specs.Limits.{most_shown}
use Rattle.dimacs_front.specs.MachineEnd.{few}

-- the variables from a on, by whether a is one of them
rest_at : (p : ℕ → Bool) (a n k : ℕ) → n ≡ suc k →
    filter p (range_with_len a n) ≡
    cond (p a) (a ∷ filter p (range_with_len (a + 1) k)) (filter p (range_with_len (a + 1) k))
rest_at p a n k e = ap (λ m. filter p (range_with_len a m)) e

rest_taken : (p : ℕ → Bool) (a n k : ℕ) → n ≡ suc k → p a ≡ true →
    filter p (range_with_len a n) ≡ a ∷ filter p (range_with_len (a + 1) k)
rest_taken p a n k e h = rest_at p a n k e ∙ cond-true _ _ _ h

pub kept_taken : (p : ℕ → Bool) (all items new : List ℕ) (a size : ℕ) →
    all ≡ items ++ filter p (range_with_len a (size - a)) → a < size → p a ≡ true →
    new ≡ items ++ a ∷ [] → all ≡ new ++ filter p (range_with_len (a + 1) (size - (a + 1)))
kept_taken p all items new a size e lt h f =
    let k : ℕ = size - (a + 1) in
    let s : size - a ≡ suc k = omega arith in
    e
    ∙ ap (λ xs. items ++ xs) (rest_taken p a (size - a) k s h)
    ∙ sym (append_assoc items (a ∷ []) (filter p (range_with_len (a + 1) k)))
    ∙ ap (λ xs. xs ++ filter p (range_with_len (a + 1) k)) (sym f)

pub kept_passed : (p : ℕ → Bool) (all items new : List ℕ) (a size : ℕ) →
    all ≡ items ++ filter p (range_with_len a (size - a)) → a < size → p a ≡ false → new ≡ items →
    all ≡ new ++ filter p (range_with_len (a + 1) (size - (a + 1)))
kept_passed p all items new a size e lt h f =
    let k : ℕ = size - (a + 1) in
    let s : size - a ≡ suc k = omega arith in
    e
    ∙ ap (λ xs. items ++ xs) (rest_at p a (size - a) k s ∙ cond-false _ _ _ h)
    ∙ ap (λ xs. xs ++ filter p (range_with_len (a + 1) k)) (sym f)

pub room_taken : (items new : List ℕ) (a : ℕ) → new ≡ items ++ a ∷ [] → length items < most_shown →
    length new ≤ most_shown
room_taken items new a f h = omega (arith, ap length f, length_push items a)

-- one more than the limit
pub too_many : (p : ℕ → Bool) (all items : List ℕ) (a size : ℕ) →
    all ≡ items ++ filter p (range_with_len a (size - a)) → a < size → p a ≡ true →
    most_shown ≤ length items → None ≡ few all
too_many p all items a size e lt h many =
    let k : ℕ = size - (a + 1) in
    let s : size - a ≡ suc k = omega arith in
    let more : most_shown < length all = omega (arith, ap length (e ∙ ap (λ xs. items ++ xs) (rest_taken p a (size - a) k s h)), length-append items (a ∷ filter p (range_with_len (a + 1) k))) in
    sym (cond-false _ _ _ (lt-leb (length all) most_shown more))
