-- Lists of places, each place once.
use Rattle.std.specs.Prelude.{◌≡◌, ℕ, Bool, false, cond, nat_eq, List, [], ◌∷◌}
use Rattle.std.specs.List.{list_any}

-- The place n is in the list.
abbrev pub has : ℕ → List ℕ → Bool
has n xs = list_any (nat_eq n) xs

-- No place is in the list twice.
abbrev pub AreApart : List ℕ → Type 0
AreApart [] = Unit {0}
AreApart (x ∷ xs) = (has x xs ≡ false) × AreApart xs

-- The first place, or s where there is none.
abbrev pub first_or : ℕ → List ℕ → ℕ
first_or s [] = s
first_or s (x ∷ xs) = x

-- The place after n, or s where none follows.
abbrev pub next_in : ℕ → List ℕ → ℕ → ℕ
next_in s [] n = s
next_in s (x ∷ xs) n = cond (nat_eq n x) (first_or s xs) (next_in s xs n)

-- The place before n, or s where n is the first one.
abbrev pub prev_in : ℕ → List ℕ → ℕ → ℕ
prev_in s [] n = s
prev_in s (x ∷ xs) n = cond (nat_eq n x) s (prev_in x xs n)

-- The list without its first n.
abbrev pub delete : ℕ → List ℕ → List ℕ
delete n [] = []
delete n (x ∷ xs) = cond (nat_eq n x) xs (x ∷ delete n xs)
