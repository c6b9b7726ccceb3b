-- The values of a model, and what its cube and its hidden literals say of the formula.
use Rattle.std.specs.Prelude.{◌≡◌, ℕ, ◌≤◌, Bool, true, not, ◌||◌, cond, List, length, map, filter, take, ℤ, pos, neg_ℤ, nat_abs}
use Rattle.std.specs.List.{list_any, list_all, range_with_len}
use Rattle.std.specs.Ordering.{int_eq}
use Rattle.sat_terms.specs.Cubes.{is_among, has_literal, has_pair}
use Rattle.chrono_trail.specs.declared.item.Item.{Item}
use Rattle.implicant_shrink.specs.Levels.{marked}

-- The literal of a variable that is true by these values.
abbrev pub literal_at : (ℕ → Bool) → ℕ → ℤ
literal_at values v = cond (values v) (pos v) (neg_ℤ (pos v))

-- The true literals of the variables of 1 to n that are not shown, rising.
abbrev pub hidden_literals : ℕ → List ℕ → (ℕ → Bool) → List ℤ
hidden_literals n p values =
    map (literal_at values) (filter (λ v. not (is_among p v)) (range_with_len 1 n))

-- Each clause has a literal in c or in w, or a literal and its negation.
abbrev pub IsImplicant : List (List ℤ) → List ℤ → List ℤ → Type 0
IsImplicant f c w =
    list_all (λ d. has_pair d || list_any (λ l. has_literal c l || has_literal w l) d) f ≡ true

-- The item says the same of its variable as the values.
abbrev pub has_value : (ℕ → Bool) → Item → Bool
has_value values i = int_eq i.lit (literal_at values (nat_abs i.lit))

-- So do the first items, so many of them.
pub record AreCopied (items : List Item) (count : ℕ) (values : List Bool) : Type 0 where
  pub within : count ≤ length items
  pub same : list_all (has_value (marked values)) (take count items) ≡ true
