-- What an analysis of a conflict tells: a clause that follows, and the levels of its literals.
use Rattle.std.specs.Prelude.{◌≡◌, ℕ, Bool, true, cond, ◌&&◌, is_none, find, List, [], slice_index_or, ℤ, pos, neg_ℤ, nat_abs, Option, Some, None}
use Rattle.std.specs.Option.{unwrap_or}
use Rattle.std.specs.List.{All, Contains, list_any, list_all}
use Rattle.std.specs.Ordering.{int_eq}
use Rattle.sat_terms.specs.Literals.{IsLiteralOf}
use Rattle.sat_terms.specs.Cubes.{has_literal}
use Rattle.search_region.specs.Steady.{Follows}
use Rattle.clause_arena.specs.Clauses.{HasDistinctVariables}
use Rattle.chrono_trail.specs.declared.item.Item.{Item}
use Rattle.chrono_trail.specs.Items.{reason_id, decides}
use Rattle.chrono_trail.specs.Clauses.{rest_level}

-- The literal is the negation of an item that stands by no clause: an assumed, decided or flipped
-- one.
abbrev pub negates_branch : List Item → ℤ → Bool
negates_branch items l =
    list_any (λ i. int_eq l (neg_ℤ i.lit) && is_none (reason_id i.kind)) items

-- A set holds the variables of the clause.
abbrev pub holds_variables : (ℕ → Bool) → List ℤ → Bool
holds_variables s c = list_all (λ l. s (nat_abs l)) c

-- A set holds the variables of clause id, and with the variable of an item that stands by a clause
-- those of this clause.
pub record IsTraced (clauses : List (List ℤ)) (items : List Item) (id : ℕ)
    (s : ℕ → Bool) : Type 0 where
  pub start : holds_variables s (slice_index_or clauses id []) ≡ true
  pub back : (i : Item) (r : ℕ) → Contains items i → reason_id i.kind ≡ Some r →
      s (nat_abs i.lit) ≡ true → holds_variables s (slice_index_or clauses r []) ≡ true

-- The variable is reached from clause id through reasons: it is in each such set.
abbrev pub IsReached : List (List ℤ) → List Item → ℕ → ℕ → Type 0
IsReached clauses items id v = (s : ℕ → Bool) → IsTraced clauses items id s → s v ≡ true

-- The clause that resolution comes to, from clause id back through reasons: it follows, its
-- literals are of distinct variables of 1 to n, and each is reached and negates an item without a
-- reason.
pub record IsResolvent (clauses : List (List ℤ)) (n : ℕ) (items : List Item) (id : ℕ)
    (lits : List ℤ) : Type 0 where
  pub follows : Follows clauses lits
  pub named : All (IsLiteralOf n) lits
  pub distinct : HasDistinctVariables lits
  pub negated : All (λ l. negates_branch items l ≡ true) lits
  pub reached : All (λ l. IsReached clauses items id (nat_abs l)) lits

-- The negation of the item, where there is one and the clause has it.
abbrev pub negation_in : List ℤ → Option Item → Option ℤ
negation_in lits None = None
negation_in lits (Some d) = cond (has_literal lits (neg_ℤ d.lit)) (Some (neg_ℤ d.lit)) None

-- The negation of the decision of level k, where the clause has it.
abbrev pub asserted : List Item → ℕ → List ℤ → Option ℤ
asserted items k lits = negation_in lits (find (decides k) items)

-- The clause lits was learnt from clause id, whose greatest level is k. It asserts x, if any, and r
-- is the greatest level of its other literals. Where nothing is asserted, x is taken as 0, which is
-- no literal.
pub record IsLearnt (clauses : List (List ℤ)) (n : ℕ) (items : List Item) (id : ℕ) (lits : List ℤ)
    (k r : ℕ) (x : Option ℤ) : Type 0 where
  pub resolvent : IsResolvent clauses n items id lits
  pub conflict : k ≡ rest_level items (pos 0) (slice_index_or clauses id [])
  pub asserts : x ≡ asserted items k lits
  pub rest : r ≡ rest_level items (unwrap_or x (pos 0)) lits
