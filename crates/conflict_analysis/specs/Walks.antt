-- The walk from a false clause back along the trail. A marked variable stands for its literal that
-- is false, in a clause whose other literals are those written down.
use Rattle.std.specs.Prelude.{◌≡◌, ℕ, ◌+◌, ◌≤◌, Bool, true, false, not, ◌&&◌, ◌||◌, is_some, nat_eq, List, ◌++◌, length, take, drop, reverse, ℤ, nat_abs}
use Rattle.std.specs.List.{All, list_any, list_all}
use Rattle.sat_terms.specs.Literals.{IsLiteralOf, lit_true}
use Rattle.sat_terms.specs.Truth.{sat, sat_clause}
use Rattle.clause_arena.specs.Clauses.{HasDistinctVariables}
use Rattle.chrono_trail.specs.declared.item.Item.{Item}
use Rattle.chrono_trail.specs.Items.{item_of}
use Rattle.chrono_trail.specs.Trails.{IsTrail}
use Rattle.chrono_trail.specs.Reasons.{AreReasoned}
use Rattle.conflict_analysis.specs.Lemmas.{negates_branch, holds_variables, IsTraced}
use Rattle.conflict_analysis.specs.Marks.{is_marked, mark_count}

-- What the walk stands on: a trail with its reasons among the clauses.
pub record IsWalkable (clauses : List (List ℤ)) (n : ℕ) (items : List Item)
    (level : ℕ) : Type 0 where
  pub trail : IsTrail n items level
  pub named : All (All (IsLiteralOf n)) clauses
  pub reasoned : AreReasoned clauses items

-- The literal of a marked item is false in the assignment.
abbrev pub is_amiss : (ℕ → Bool) → (ℕ → Bool) → List Item → Bool
is_amiss t marked items = list_any (λ i. marked (nat_abs i.lit) && not (lit_true t i.lit)) items

-- A literal of the clause is of the variable v.
abbrev pub has_variable : List ℤ → ℕ → Bool
has_variable c v = list_any (λ l. nat_eq v (nat_abs l)) c

-- The variable is that of one of the first items.
abbrev pub stands_before : List Item → ℕ → ℕ → Bool
stands_before items at v = is_some (item_of (take at items) v)

-- The items from the place `at` on were visited: `left` variables are marked, each of an item
-- before that; where all clauses are true, a literal written down is true or a marked item false.
pub record IsWalk (clauses : List (List ℤ)) (n : ℕ) (items : List Item) (id at : ℕ)
    (marks : List Bool) (lits : List ℤ) (left : ℕ) : Type 0 where
  pub inside : at ≤ length items
  pub counted : left ≡ mark_count marks
  pub room : length lits + at ≤ length items
  pub placed : (v : ℕ) → is_marked marks v ≡ true → stands_before items at v ≡ true
  pub apart : (v : ℕ) → stands_before items at v ≡ true → has_variable lits v ≡ false
  pub explains : (t : ℕ → Bool) → sat clauses t ≡ true →
      (sat_clause t lits || is_amiss t (is_marked marks) (take at items)) ≡ true
  pub named : All (IsLiteralOf n) lits
  pub distinct : HasDistinctVariables lits
  pub negated : list_all (negates_branch items) lits ≡ true
  pub traced : (s : ℕ → Bool) → IsTraced clauses items id s → (v : ℕ) →
      is_marked marks v ≡ true → s v ≡ true
  pub reached : (s : ℕ → Bool) → IsTraced clauses items id s → holds_variables s lits ≡ true

-- The first two literals, and the others in reverse.
abbrev pub turned_round : List ℤ → List ℤ
turned_round lits = take 2 lits ++ reverse (drop 2 lits)
