-- The layout of an arena as lemmas come and go, and the room that it has.
use Rattle.std.proofs.Common.{◌≡◌, ℕ, suc, ◌+◌, ◌-◌, ◌<◌, ◌≤◌, Bool, true, ◌&&◌, nat_lt, nat_le, List, [], ◌∷◌, ◌++◌, length, take, drop, get_or, ℤ, sym, ap, ap₂, subst, ◌∙◌, inl, inr, arith, length-append, length-take, length-drop}
use Rattle.std.specs.List.{All, sum_by}
use Rattle.std.proofs.lemmas.Bool.{and_parts, ltb-true, leb-true, leb-false, lt-ltb, le-ltb, le-leb, lt-leb, cases_Bool}
use Rattle.std.proofs.lemmas.List.{get_or_append_left, get_or-take}
use Rattle.sat_terms.specs.Literals.{IsLiteral}
use Rattle.clause_arena.specs.Clauses.{IsArena, HasDistinctVariables, has_room}
use Rattle.clause_arena.specs.Layout.{pieces, AreEnds, IsLaidOut}
use Rattle.clause_arena.proofs.Kept.{arena_grown, arena_popped}
use Rattle.clause_arena.proofs.Pieces.{length-pieces, ends-push, ends_taken, start_at, piece_at, pieces_grow, pieces_popped, literals_from}

-- how many lemmas there are
lemmas_count : (lits : List ℤ) (ends : List ℕ) (base : ℕ) → length (drop base (pieces lits 0 ends)) ≡ length ends - base
lemmas_count lits ends base = length-drop base (pieces lits 0 ends) ∙ ap (λ n. n - base) (length-pieces lits 0 ends)

pub room_tested : (lits : List ℤ) (ends : List ℕ) (base count : ℕ) → IsLaidOut lits ends base →
    has_room (record { clauses = pieces lits 0 ends; base = base }) count ≡ (nat_lt (length ends - base) 1000000 && nat_le count (16000000 - (length lits - get_or (0 ∷ ends) base 0)))
room_tested lits ends base count h =
    ap₂ (λ a b. a && b) (ap (λ n. nat_lt n 1000000) (lemmas_count lits ends base)) same
  where
    literals : ℕ
    literals = sum_by length (drop base (pieces lits 0 ends))

    total : literals + get_or (0 ∷ ends) base 0 ≡ length lits
    total = literals_from lits ends base h.filled h.based

    few : literals ≤ 16000000
    few = let bound = h.lemma_literals in let sum = total in omega arith

    same : nat_le (literals + count) 16000000 ≡ nat_le count (16000000 - (length lits - get_or (0 ∷ ends) base 0))
    same = elim (cases_Bool (nat_le (literals + count) 16000000)) [
      | inl fits ↦ fits ∙ sym (le-leb count (16000000 - (length lits - get_or (0 ∷ ends) base 0)) (let le = leb-true (literals + count) 16000000 fits in let sum = total in omega arith))
      | inr beyond ↦ beyond ∙ sym (lt-leb count (16000000 - (length lits - get_or (0 ∷ ends) base 0)) (let lt = leb-false (literals + count) 16000000 beyond in let sum = total in let bound = few in omega arith))
    ]

-- what room is, in the memory
pub room_there : (lits : List ℤ) (ends : List ℕ) (base count : ℕ) → IsLaidOut lits ends base →
    has_room (record { clauses = pieces lits 0 ends; base = base }) count ≡ true →
    (length ends < base + 1000000) × (length lits + count ≤ get_or (0 ∷ ends) base 0 + 16000000)
room_there lits ends base count h room =
    let (few, short) = and_parts (nat_lt (length (drop base (pieces lits 0 ends))) 1000000) (nat_le (sum_by length (drop base (pieces lits 0 ends)) + count) 16000000) room in
    let lt = ltb-true (length (drop base (pieces lits 0 ends))) 1000000 few in
    let le = leb-true (sum_by length (drop base (pieces lits 0 ends)) + count) 16000000 short in
    let many = lemmas_count lits ends base in
    let total = literals_from lits ends base h.filled h.based in
    let based = h.based in
    (omega arith, omega arith)

pub laid_grown : (lits new : List ℤ) (ends : List ℕ) (base e : ℕ) → IsLaidOut lits ends base → All IsLiteral new → HasDistinctVariables new → (length ends < base + 1000000) × (length lits + length new ≤ get_or (0 ∷ ends) base 0 + 16000000) →
    e ≡ length lits + length new → IsLaidOut (lits ++ new) (ends ++ e ∷ []) base
laid_grown lits new ends base e h literals apart room is =
    let based = h.based in
    let start : get_or (0 ∷ (ends ++ e ∷ [])) base 0 ≡ get_or (0 ∷ ends) base 0 = get_or_append_left (0 ∷ ends) (e ∷ []) 0 base (omega arith) in
    let kept = h.literals in
    let many = length-pieces lits 0 ends in
    let few = room.0 in
    let short = room.1 in
    let longer = length-append lits new in
    let more = length-append ends (e ∷ []) in
    record {
      arena =
          subst (λ cs. IsArena (record { clauses = cs; base = base })) (sym (pieces_grow lits new ends e h.filled is))
          (arena_grown (pieces lits 0 ends) base new (omega arith) h.arena literals apart);
      filled = subst (AreEnds 0 (ends ++ e ∷ [])) (is ∙ sym longer) (ends-push 0 ends (length lits) e h.filled (omega arith));
      based = omega arith;
      clauses = h.clauses;
      literals = omega arith;
      lemmas = omega arith;
      lemma_literals = omega arith;
    }

pub laid_popped : (lits : List ℤ) (ends : List ℕ) (base k s : ℕ) → IsLaidOut lits ends base → base ≤ k → k ≤ length ends → s ≡ get_or (0 ∷ ends) k 0 → IsLaidOut (take s lits) (take k ends) base
laid_popped lits ends base k s h above inside is =
    let start : get_or (0 ∷ take k ends) base 0 ≡ get_or (0 ∷ ends) base 0 = get_or-take (suc k) (0 ∷ ends) base 0 (omega arith) in
    let stop = start_at 0 ends (length lits) k h.filled inside in
    let literals = h.literals in
    let lemmas = h.lemmas in
    let lemma_literals = h.lemma_literals in
    let shorter = length-take s lits in
    let fewer = length-take k ends in
    let long : s ≡ length (take s lits) = omega arith in
    record {
      arena =
          subst (λ cs. IsArena (record { clauses = cs; base = base })) (sym (pieces_popped lits ends k s h.filled inside is))
          (arena_popped (pieces lits 0 ends) base k above (let many = length-pieces lits 0 ends in omega arith) h.arena);
      filled = subst (AreEnds 0 (take k ends)) (sym is ∙ long) (ends_taken 0 ends (length lits) k h.filled inside);
      based = omega arith;
      clauses = h.clauses;
      literals = omega arith;
      lemmas = omega arith;
      lemma_literals = omega arith;
    }

-- the same as answers of a test of both limits, one after the other
pub room_yes : (lits : List ℤ) (ends : List ℕ) (base count lemmas literals : ℕ) → IsLaidOut lits ends base → lemmas ≡ length ends - base → literals ≡ length lits - get_or (0 ∷ ends) base 0 → lemmas < 1000000 →
    nat_le count (16000000 - literals) ≡ has_room (record { clauses = pieces lits 0 ends; base = base }) count
room_yes lits ends base count lemmas literals h many whole few =
    ap (λ n. nat_le count (16000000 - n)) whole
    ∙ sym (room_tested lits ends base count h ∙ ap (λ (b : Bool). b && nat_le count (16000000 - (length lits - get_or (0 ∷ ends) base 0))) (ap (λ n. nat_lt n 1000000) (sym many) ∙ lt-ltb lemmas 1000000 few))

pub room_no : (lits : List ℤ) (ends : List ℕ) (base count lemmas : ℕ) → IsLaidOut lits ends base → lemmas ≡ length ends - base → 1000000 ≤ lemmas →
    nat_lt lemmas 1000000 ≡ has_room (record { clauses = pieces lits 0 ends; base = base }) count
room_no lits ends base count lemmas h many full =
    le-ltb lemmas 1000000 full
    ∙ sym (room_tested lits ends base count h ∙ ap (λ (b : Bool). b && nat_le count (16000000 - (length lits - get_or (0 ∷ ends) base 0))) (ap (λ n. nat_lt n 1000000) (sym many) ∙ le-ltb lemmas 1000000 full))

-- the piece of the memory from the start of a clause to its end is the clause
pub clause_at : (lits given : List ℤ) (ends : List ℕ) (id start stop : ℕ) → id < length ends → given ≡ lits → start ≡ get_or (0 ∷ ends) id 0 → stop ≡ get_or ends id 0 →
    take (stop - start) (drop start given) ≡ get_or (pieces lits 0 ends) id []
clause_at lits given ends id start stop inside all begins stops =
    ap (λ e. take (e - start) (drop start given)) stops
    ∙ ap (λ s. take (get_or ends id 0 - s) (drop s given)) begins
    ∙ ap (λ (ls : List ℤ). take (get_or ends id 0 - get_or (0 ∷ ends) id 0) (drop (get_or (0 ∷ ends) id 0) ls)) all
    ∙ sym (piece_at lits 0 ends id inside)
