-- What each arena keeps, as clauses come and go.
use Rattle.std.proofs.Common.{◌≡◌, ℕ, ◌+◌, ◌-◌, ◌<◌, ◌≤◌, List, [], ◌∷◌, ◌++◌, length, take, drop, map, get_or, ℤ, not, nat_abs, sym, ap, subst, arith, length-append, length-take, length-drop}
use Rattle.std.specs.List.{All}
use Rattle.std.proofs.lemmas.List.{drop-append-le, drop-take, drop_all, get_or-drop}
use Rattle.std.proofs.lemmas.List.Elements.{All-nil, All-cons, All-head, All-tail, All-push, All-take, All-map, All-filter}
use Rattle.std.specs.Ordering.{int_eq}
use Rattle.sat_terms.specs.Literals.{IsLiteral, IsLiteralOf}
use Rattle.sat_terms.specs.Subjects.{IsFormula}
use Rattle.clause_arena.specs.Clauses.{Clauses, HasDistinctVariables, IsArena}
use Rattle.clause_arena.specs.Once.{once, without, HasEachOnce}
use Rattle.clause_arena.proofs.Literals.{once-distinct}

-- what holds of each literal of a clause does so where each stands once
once_all : (P : ℤ → Type 0) (c : List ℤ) → All P c → All P (once c)
once_all P [] h = h
once_all P (l ∷ c) h =
    let rest = once_all P c (All-tail P l c h) in
    All-cons P l (without l (once c)) (All-head P l c h)
    (All-filter (λ m. not (int_eq m l)) P (once c) rest)

pub all_once_named : (n : ℕ) (f : List (List ℤ)) → All (All (IsLiteralOf n)) f →
    All (All (IsLiteralOf n)) (map once f)
all_once_named n f named =
    All-map (All (IsLiteralOf n)) once f
    (λ k d inside. once_all (IsLiteralOf n) (get_or f k d) (named k d inside))

literal_of : (n : ℕ) → n ≤ 1000000 → (l : ℤ) → IsLiteralOf n l → IsLiteral l
literal_of n small l h = let below = h.1 in (h.0, omega arith)

-- the clauses of a formula alone
pub arena_made : (n : ℕ) (f clauses : List (List ℤ)) (base : ℕ) → IsFormula n f → clauses ≡ map once f →
    base ≡ length clauses → IsArena (record { clauses = clauses; base = base })
arena_made n f clauses base g is all = record {
  based = omega arith;
  literals = subst (All (All IsLiteral)) (sym is) (All-map (All IsLiteral) once f literals);
  once =
      subst (All HasEachOnce) (sym is)
      (All-map HasEachOnce once f (λ k d inside. once-distinct (get_or f k d)));
  variables =
      subst (All HasDistinctVariables) (sym (drop_all base clauses (omega arith)))
      (All-nil HasDistinctVariables);
}
  where
    literals : All (λ c. All IsLiteral (once c)) f
    literals k d inside =
        once_all IsLiteral (get_or f k d)
        (λ j e here. literal_of n g.variables (get_or (get_or f k d) j e) (g.named k d inside j e here))

-- one lemma more
pub arena_grown : (clauses : List (List ℤ)) (base : ℕ) (c : List ℤ) → base ≤ length clauses →
    IsArena (record { clauses = clauses; base = base }) → All IsLiteral c → HasDistinctVariables c →
    IsArena (record { clauses = clauses ++ c ∷ []; base = base })
arena_grown clauses base c based h literals apart = record {
  based = let long = length-append clauses (c ∷ []) in omega arith;
  literals = All-push (All IsLiteral) clauses c h.literals literals;
  once =
      All-push HasEachOnce clauses c h.once
      (λ i j d before inside same. apart i j d before inside (ap nat_abs same));
  variables =
      subst (All HasDistinctVariables) (sym (drop-append-le base clauses (c ∷ []) based))
      (All-push HasDistinctVariables (drop base clauses) c h.variables apart);
}

-- the first k clauses
pub arena_popped : (clauses : List (List ℤ)) (base k : ℕ) → base ≤ k → k ≤ length clauses →
    IsArena (record { clauses = clauses; base = base }) →
    IsArena (record { clauses = take k clauses; base = base })
arena_popped clauses base k above low h =
    let split : base + (k - base) ≡ k = omega arith in
    record {
      based = let long = length-take k clauses in omega arith;
      literals = All-take (All IsLiteral) k clauses h.literals;
      once = All-take HasEachOnce k clauses h.once;
      variables =
          subst (λ n. All HasDistinctVariables (drop base (take n clauses))) split
          (subst (All HasDistinctVariables) (sym (drop-take base (k - base) clauses))
          (All-take HasDistinctVariables (k - base) (drop base clauses) h.variables));
    }

-- a clause after those of the formula is a lemma
pub lemma_at : (arena : Clauses) (id : ℕ) → id < length arena.clauses → IsArena arena →
    arena.base ≤ id → HasDistinctVariables (get_or arena.clauses id [])
lemma_at arena id inside h after =
    let split : arena.base + (id - arena.base) ≡ id = omega arith in
    subst (λ n. HasDistinctVariables (get_or arena.clauses n [])) split
    (subst HasDistinctVariables (get_or-drop arena.base arena.clauses (id - arena.base) [])
    (h.variables (id - arena.base) [] (omega (arith, length-drop arena.base arena.clauses))))
