-- Steps that may be refused.
use Rattle.std.specs.Prelude.{ℕ, Bool, cond, List, [], ◌∷◌, Option, Some, None, Result, Ok, Err}
use Rattle.dimacs_front.specs.declared.refused.TextRefused.{TextRefused}

-- a step behind another; the first refusal counts
abbrev pub and_then : {A B : Type 0} → (A → Result B TextRefused) → Result A TextRefused →
    Result B TextRefused
and_then f (Ok a) = f a
and_then f (Err r) = Err r

-- the rest, where the test holds, and else this refusal
abbrev pub needs : {A : Type 0} → Bool → TextRefused → Result A TextRefused →
    Result A TextRefused
needs b r x = cond b x (Err r)

-- the rest, where there is no such line, and else the refusal of this one
abbrev pub unless : {A : Type 0} → Option ℕ → (ℕ → TextRefused) →
    Result A TextRefused → Result A TextRefused
unless None f x = x
unless (Some n) f x = Err (f n)

-- one step for each item
abbrev pub steps : {A X : Type 0} → (A → X → Result A TextRefused) → A → List X →
    Result A TextRefused
steps f a [] = Ok a
steps f a (x ∷ xs) = and_then (λ b. steps f b xs) (f a x)
