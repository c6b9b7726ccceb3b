-- How clauses lie in memory as they come and go.
use Rattle.std.proofs.Common.{◌≡◌, ℕ, zero, suc, ◌+◌, ◌-◌, ◌<◌, ◌≤◌, List, [], ◌∷◌, ◌++◌, length, take, drop, get_or, ℤ, refl, sym, ap, ap₂, ◌∙◌, arith, length-take, length-drop, take_all}
use Rattle.std.specs.List.{sum_by}
use Rattle.std.proofs.lemmas.List.{drop-append-le, take-append-le, drop_at, take-append-drop}
use Rattle.std.proofs.lemmas.List.Sums.{sum_by-cons}
use Rattle.clause_arena.specs.Layout.{pieces, AreEnds}

pub ends_rise : (start : ℕ) (ends : List ℕ) (stop : ℕ) → AreEnds start ends stop → start ≤ stop
ends_rise start [] stop h = omega arith
ends_rise start (e ∷ ends) stop h = let rest = ends_rise e ends stop h.1 in let first = h.0 in omega arith

-- the place of the start of a clause, and of its end
pub start_at : (start : ℕ) (ends : List ℕ) (stop k : ℕ) → AreEnds start ends stop → k ≤ length ends → get_or (start ∷ ends) k 0 ≤ stop
start_at start ends stop zero h i = ends_rise start ends stop h
start_at start [] stop (suc k) h i = absurd (omega arith)
start_at start (e ∷ ends) stop (suc k) h i = start_at e ends stop k h.1 (omega arith)

pub end_at : (start : ℕ) (ends : List ℕ) (stop k : ℕ) → AreEnds start ends stop → k < length ends → (get_or (start ∷ ends) k 0 ≤ get_or ends k 0) × (get_or ends k 0 ≤ stop)
end_at start [] stop k h i = absurd (omega arith)
end_at start (e ∷ ends) stop zero h i = (h.0, ends_rise e ends stop h.1)
end_at start (e ∷ ends) stop (suc k) h i = end_at e ends stop k h.1 (omega arith)

pub length-pieces : (lits : List ℤ) (start : ℕ) (ends : List ℕ) → length (pieces lits start ends) ≡ length ends
length-pieces lits start [] = refl
length-pieces lits start (e ∷ ends) = ap suc (length-pieces lits e ends)

pub piece_at : (lits : List ℤ) (start : ℕ) (ends : List ℕ) (k : ℕ) → k < length ends →
    get_or (pieces lits start ends) k [] ≡ take (get_or ends k 0 - get_or (start ∷ ends) k 0) (drop (get_or (start ∷ ends) k 0) lits)
piece_at lits start [] k h = absurd (omega arith)
piece_at lits start (e ∷ ends) zero h = refl
piece_at lits start (e ∷ ends) (suc k) h = piece_at lits e ends k (omega arith)

-- literals after the last clause change nothing
pub pieces-append : (lits more : List ℤ) (start : ℕ) (ends : List ℕ) (stop : ℕ) → AreEnds start ends stop → stop ≤ length lits → pieces (lits ++ more) start ends ≡ pieces lits start ends
pieces-append lits more start [] stop h l = refl
pieces-append lits more start (e ∷ ends) stop h l =
    let first = h.0 in
    let rest = ends_rise e ends stop h.1 in
    let whole = length-drop start lits in
    let here : take (e - start) (drop start (lits ++ more)) ≡ take (e - start) (drop start lits)
    = ap (take (e - start)) (drop-append-le start lits more (omega arith)) ∙ take-append-le (e - start) (drop start lits) more (omega arith) in
    ap₂ (λ (c : List ℤ) (cs : List (List ℤ)). c ∷ cs) here (pieces-append lits more e ends stop h.1 l)

pieces-push : (lits : List ℤ) (start : ℕ) (ends : List ℕ) (stop e : ℕ) → AreEnds start ends stop → pieces lits start (ends ++ e ∷ []) ≡ pieces lits start ends ++ take (e - stop) (drop stop lits) ∷ []
pieces-push lits start [] stop e h = ap (λ s. take (e - s) (drop s lits) ∷ []) h
pieces-push lits start (d ∷ ends) stop e h = ap (λ cs. take (d - start) (drop start lits) ∷ cs) (pieces-push lits d ends stop e h.1)

pub ends-push : (start : ℕ) (ends : List ℕ) (stop e : ℕ) → AreEnds start ends stop → stop ≤ e → AreEnds start (ends ++ e ∷ []) e
ends-push start [] stop e h l = (omega arith, refl)
ends-push start (d ∷ ends) stop e h l = (h.0, ends-push d ends stop e h.1 l)

-- one more clause at the end
pub pieces_grow : (lits new : List ℤ) (ends : List ℕ) (e : ℕ) → AreEnds 0 ends (length lits) → e ≡ length lits + length new → pieces (lits ++ new) 0 (ends ++ e ∷ []) ≡ pieces lits 0 ends ++ new ∷ []
pieces_grow lits new ends e h k =
    let last : take (e - length lits) (drop (length lits) (lits ++ new)) ≡ new
    = ap (take (e - length lits)) (drop_at lits new (length lits) refl) ∙ take_all (e - length lits) new (omega arith) in
    pieces-push (lits ++ new) 0 ends (length lits) e h
    ∙ ap₂ (λ (cs : List (List ℤ)) (c : List ℤ). cs ++ c ∷ []) (pieces-append lits new 0 ends (length lits) h (omega arith)) last

-- the first k clauses
pieces_taken : (lits : List ℤ) (start : ℕ) (ends : List ℕ) (k : ℕ) → pieces lits start (take k ends) ≡ take k (pieces lits start ends)
pieces_taken lits start ends zero = refl
pieces_taken lits start [] (suc k) = refl
pieces_taken lits start (e ∷ ends) (suc k) = ap (λ cs. take (e - start) (drop start lits) ∷ cs) (pieces_taken lits e ends k)

pub ends_taken : (start : ℕ) (ends : List ℕ) (stop k : ℕ) → AreEnds start ends stop → k ≤ length ends → AreEnds start (take k ends) (get_or (start ∷ ends) k 0)
ends_taken start ends stop zero h i = refl
ends_taken start [] stop (suc k) h i = absurd (omega arith)
ends_taken start (e ∷ ends) stop (suc k) h i = (h.0, ends_taken e ends stop k h.1 (omega arith))

pieces_cut : (lits : List ℤ) (ends : List ℕ) (stop : ℕ) → AreEnds 0 ends stop → stop ≤ length lits → pieces (take stop lits) 0 ends ≡ pieces lits 0 ends
pieces_cut lits ends stop h l =
    sym (pieces-append (take stop lits) (drop stop lits) 0 ends stop h (omega (arith, length-take stop lits)))
    ∙ ap (λ ls. pieces ls 0 ends) (take-append-drop stop lits)

-- the first k clauses, with their literals alone
pub pieces_popped : (lits : List ℤ) (ends : List ℕ) (k s : ℕ) → AreEnds 0 ends (length lits) → k ≤ length ends → s ≡ get_or (0 ∷ ends) k 0 → pieces (take s lits) 0 (take k ends) ≡ take k (pieces lits 0 ends)
pieces_popped lits ends k s h i is =
    ap (λ n. pieces (take n lits) 0 (take k ends)) is
    ∙ pieces_cut lits (take k ends) (get_or (0 ∷ ends) k 0) (ends_taken 0 ends (length lits) k h i) (start_at 0 ends (length lits) k h i)
    ∙ pieces_taken lits 0 ends k

-- how many literals the clauses from k on have
literals-pieces : (lits : List ℤ) (start : ℕ) (ends : List ℕ) (stop : ℕ) → AreEnds start ends stop → stop ≤ length lits → sum_by length (pieces lits start ends) + start ≡ stop
literals-pieces lits start [] stop h l = omega arith
literals-pieces lits start (e ∷ ends) stop h l =
    let first = h.0 in
    let later = ends_rise e ends stop h.1 in
    let rest = literals-pieces lits e ends stop h.1 l in
    let here = length-take (e - start) (drop start lits) in
    let whole = length-drop start lits in
    let sum = sum_by-cons length (take (e - start) (drop start lits)) (pieces lits e ends) in
    omega arith

pieces_dropped : (lits : List ℤ) (start : ℕ) (ends : List ℕ) (k : ℕ) → k ≤ length ends → drop k (pieces lits start ends) ≡ pieces lits (get_or (start ∷ ends) k 0) (drop k ends)
pieces_dropped lits start ends zero i = refl
pieces_dropped lits start [] (suc k) i = absurd (omega arith)
pieces_dropped lits start (e ∷ ends) (suc k) i = pieces_dropped lits e ends k (omega arith)

ends_dropped : (start : ℕ) (ends : List ℕ) (stop k : ℕ) → AreEnds start ends stop → k ≤ length ends → AreEnds (get_or (start ∷ ends) k 0) (drop k ends) stop
ends_dropped start ends stop zero h i = h
ends_dropped start [] stop (suc k) h i = absurd (omega arith)
ends_dropped start (e ∷ ends) stop (suc k) h i = ends_dropped e ends stop k h.1 (omega arith)

pub literals_from : (lits : List ℤ) (ends : List ℕ) (k : ℕ) → AreEnds 0 ends (length lits) → k ≤ length ends → sum_by length (drop k (pieces lits 0 ends)) + get_or (0 ∷ ends) k 0 ≡ length lits
literals_from lits ends k h i =
    ap (λ cs. sum_by length cs + get_or (0 ∷ ends) k 0) (pieces_dropped lits 0 ends k i)
    ∙ literals-pieces lits (get_or (0 ∷ ends) k 0) (drop k ends) (length lits) (ends_dropped 0 ends (length lits) k h i) (omega arith)
