-- An arena in the making: the clauses of the formula so far.
use Rattle.std.proofs.Common.{◌≡◌, ℕ, ◌+◌, ◌<◌, ◌≤◌, ◌^◌, List, [], ◌∷◌, ◌++◌, length, take, map, get_or, ℤ, refl, sym, ap, subst, ◌∙◌, arith, length-append, take_all}
use Rattle.std.specs.List.{sum_by}
use Rattle.std.proofs.lemmas.List.{take_more, length-map, map-append}
use Rattle.std.proofs.lemmas.List.Sums.{sum_by_more, sum_by-take-le}
use Rattle.sat_terms.specs.Subjects.{IsFormula}
use Rattle.clause_arena.specs.Layout.{pieces, AreEnds, IsLaidOut}
use Rattle.clause_arena.specs.Once.{once}
use Rattle.clause_arena.proofs.Kept.{arena_made}
use Rattle.clause_arena.proofs.Literals.{length-once}
use Rattle.clause_arena.proofs.Pieces.{length-pieces, ends-push, pieces_grow}

-- the first i clauses of the formula f lie in the memory
pub record IsMade (lits : List ℤ) (ends : List ℕ) (f : List (List ℤ)) (i : ℕ) : Type 0 where
  pub clauses : pieces lits 0 ends ≡ map once (take i f)
  pub filled : AreEnds 0 ends (length lits)
  pub short : length lits ≤ sum_by length (take i f)

pub made_none : (f : List (List ℤ)) → IsMade [] [] f 0
made_none f = record { clauses = refl; filled = refl; short = omega arith }

pub made_more : (lits : List ℤ) (ends : List ℕ) (f : List (List ℤ)) (i e : ℕ) → i < length f → IsMade lits ends f i → e ≡ length (lits ++ once (get_or f i [])) → IsMade (lits ++ once (get_or f i [])) (ends ++ e ∷ []) f (i + 1)
made_more lits ends f i e inside h is =
    let long = length-append lits (once (get_or f i [])) in
    let fewer = length-once (get_or f i []) in
    let sum = sum_by_more length f i [] inside in
    let before = h.short in
    record {
      clauses =
          pieces_grow lits (once (get_or f i [])) ends e h.filled (is ∙ long)
          ∙ ap (λ cs. cs ++ once (get_or f i []) ∷ []) h.clauses
          ∙ sym (ap (map once) (take_more f i [] inside) ∙ map-append once (take i f) (get_or f i [] ∷ []));
      filled = subst (AreEnds 0 (ends ++ e ∷ [])) is (ends-push 0 ends (length lits) e h.filled (omega arith));
      short = omega arith;
    }

-- it stays within the sizes of a formula
pub made_short : (n : ℕ) (lits : List ℤ) (ends : List ℕ) (f : List (List ℤ)) (i : ℕ) → IsFormula n f → IsMade lits ends f i → length lits < 2 ^ 31
made_short n lits ends f i g h =
    let before = h.short in
    let part = sum_by-take-le length f i in
    let sum = g.literals in
    omega arith

last_end : (start : ℕ) (ends : List ℕ) (stop : ℕ) → AreEnds start ends stop → get_or (start ∷ ends) (length ends) 0 ≡ stop
last_end start [] stop h = h
last_end start (e ∷ ends) stop h = last_end e ends stop h.1

pub made_count : (lits : List ℤ) (ends : List ℕ) (f : List (List ℤ)) (i : ℕ) → length f ≤ i → IsMade lits ends f i → length ends ≡ length f
made_count lits ends f i all h =
    sym (length-pieces lits 0 ends) ∙ ap length h.clauses ∙ length-map (take i f) once ∙ ap length (take_all i f all)

-- all of it is an arena without lemmas
pub made_laid : (n : ℕ) (lits : List ℤ) (ends : List ℕ) (f : List (List ℤ)) (i base : ℕ) → IsFormula n f → length f ≤ i → base ≡ length ends → IsMade lits ends f i → IsLaidOut lits ends base
made_laid n lits ends f i base g all is h =
    let count = made_count lits ends f i all h in
    let last : get_or (0 ∷ ends) base 0 ≡ length lits = ap (λ k. get_or (0 ∷ ends) k 0) is ∙ last_end 0 ends (length lits) h.filled in
    let short = made_short n lits ends f i g h in
    let few = g.clauses in
    let clauses : pieces lits 0 ends ≡ map once f = h.clauses ∙ ap (map once) (take_all i f all) in
    record {
      arena = arena_made n f (pieces lits 0 ends) base g clauses (omega (arith, length-pieces lits 0 ends));
      filled = h.filled;
      based = omega arith;
      clauses = omega arith;
      literals = omega arith;
      lemmas = omega arith;
      lemma_literals = omega arith;
    }
