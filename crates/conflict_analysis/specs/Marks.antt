-- Marks of variables, a place for each.
use Rattle.std.specs.Prelude.{◌≡◌, ℕ, ◌+◌, ◌<◌, ◌≤◌, ◌^◌, Bool, false, not, ◌&&◌, nat_eq, List, length, slice_index_or, ℤ, nat_abs}
use Rattle.std.specs.List.{list_any, count_by}
use Rattle.std.specs.Ordering.{int_eq}

-- The variable is marked.
abbrev pub is_marked : List Bool → ℕ → Bool
is_marked marks v = slice_index_or marks v false

abbrev pub mark_count : List Bool → ℕ
mark_count marks = count_by (λ b. b) marks

-- A literal of the clause other than l is of the variable v.
abbrev pub names_beside : ℤ → List ℤ → ℕ → Bool
names_beside l c v = list_any (λ m. not (int_eq m l) && nat_eq v (nat_abs m)) c

-- Nothing is marked, and a place is kept for a literal of each variable.
pub record IsRested (marks : List Bool) (wide : ℕ) : Type 0 where
  pub clean : mark_count marks ≡ 0
  pub places : 0 < length marks
  pub small : length marks ≤ 2 ^ 31
  pub room : length marks ≤ wide + 1
