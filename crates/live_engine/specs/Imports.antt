-- Clauses of others, kept where their negations are refuted by unit propagation.
use Rattle.std.specs.Prelude.{◌≡◌, ◌⊎◌, Bool, true, false, not, ◌&&◌, cond, List, [], ◌∷◌, ◌++◌, length, map, ℤ, neg_ℤ, MatchBool}
use Rattle.sat_terms.specs.Cubes.{has_pair}
use Rattle.search_region.specs.Steady.{Follows}
use Rattle.unit_closure.specs.Closure.{Closes}
use Rattle.clause_arena.specs.Clauses.{Clauses, has_room}
use Rattle.clause_arena.specs.Once.{once}
use Rattle.chrono_trail.specs.declared.item.Kind.TheVariants.{Assumed}
use Rattle.chrono_trail.specs.declared.item.Item.{Item}
use Rattle.live_engine.specs.declared.search.Search.{Search}
use Rattle.live_engine.specs.declared.importing.Negations.{Negations}
use Rattle.live_engine.specs.declared.importing.Negations.TheVariants.{Pair, Conflict, Quiet}
use Rattle.live_engine.specs.Searching.{search_formula}

-- The clause holds a pair, or unit propagation from the negations of its literals closes.
abbrev pub IsRefuted : List (List ℤ) → List ℤ → Type 0
IsRefuted clauses c = (has_pair c ≡ true) ⊎ Closes clauses (map neg_ℤ c)

-- What the negations came to says whether it is so, and by which of the two.
abbrev pub NegationsTell : List (List ℤ) → List ℤ → Negations → Type 0
NegationsTell clauses c Pair = has_pair c ≡ true
NegationsTell clauses c Conflict = (has_pair c ≡ false) × Closes clauses (map neg_ℤ c)
NegationsTell clauses c Quiet = (has_pair c ≡ false) × (Closes clauses (map neg_ℤ c) → ⊥)

-- The negation of a literal, as it is assumed.
abbrev pub assumed_negation : ℤ → Item
assumed_negation l = record { lit = neg_ℤ l; level = 0; kind = Assumed }

-- The clauses after an import: where the clause was refuted and holds no pair, and there is room,
-- it joins behind the others, each literal once.
abbrev pub clauses_with : Clauses → List ℤ → Bool → List (List ℤ)
clauses_with arena c refuted =
    cond (refuted && (not (has_pair c) && has_room arena (length (once c))))
    (arena.clauses ++ once c ∷ []) arena.clauses

-- A search without a job has imported the clause, or not: exactly where it is refuted, and then it
-- follows from the formula.
pub record Imports (old new : Search) (c : List ℤ) (refuted : Bool) : Type 0 where
  pub tells : MatchBool refuted (IsRefuted old.arena.clauses c) (IsRefuted old.arena.clauses c → ⊥)
  pub follows : refuted ≡ true → Follows (search_formula old) c
  pub clauses : new.arena.clauses ≡ clauses_with old.arena c refuted
  pub base : new.arena.base ≡ old.arena.base
  pub rest : new ≡ record old {
    arena = new.arena;
    propagator = new.propagator;
    trail = new.trail;
  }
