-- Clauses that stay of those that were looked at, and where they lie.
use Rattle.std.proofs.Common.{◌≡◌, ℕ, suc, ◌+◌, ◌-◌, ◌<◌, ◌≤◌, true, false, nat_le, List, [], ◌∷◌, ◌++◌, length, take, drop, filter, get_or, set, ℤ, refl, sym, ap, subst, ◌∙◌, arith, append_assoc, append-nil, length-append, length-take, length-drop, length-set, take_all}
use Rattle.std.specs.List.{All}
use Rattle.std.proofs.Math.Seq.{paste}
use Rattle.std.proofs.lemmas.Bool.{le-leb, lt-leb}
use Rattle.std.proofs.lemmas.Grind.{take-set_at}
use Rattle.std.proofs.lemmas.List.{take_more, take-append-le, drop-append-le, drop_all, get_or-take, get_or-drop, get_or_default, drop-drop, drop-set-lt}
use Rattle.std.proofs.lemmas.List.Edits.{take-paste, drop-paste, length-paste}
use Rattle.std.proofs.lemmas.List.Elements.{filter-append, All-append, All-take, All-drop, All-filter}
use Rattle.sat_terms.specs.Literals.{IsLiteral}
use Rattle.clause_arena.specs.Clauses.{IsArena, HasDistinctVariables, without_long}
use Rattle.clause_arena.specs.Once.{HasEachOnce}
use Rattle.clause_arena.specs.Layout.{pieces, AreEnds, IsLaidOut}
use Rattle.clause_arena.proofs.Pieces.{length-pieces, piece_at, end_at, start_at, ends-push, ends_taken, pieces_grow, pieces_popped}

-- the literals A and the ends E are what stays of the first id clauses
pub record IsShort (lits : List ℤ) (ends : List ℕ) (base keep id : ℕ) (A : List ℤ) (E : List ℕ) : Type 0 where
  pub clauses : pieces A 0 E ≡ without_long base keep (take id (pieces lits 0 ends))
  pub filled : AreEnds 0 E (length A)
  pub front : take base E ≡ take base ends
  pub based : base ≤ length E
  pub few : length E ≤ id
  pub short : length A ≤ get_or (0 ∷ ends) id 0

-- how long a clause is
pub piece_length : (lits : List ℤ) (ends : List ℕ) (id : ℕ) → AreEnds 0 ends (length lits) → id < length ends → length (get_or (pieces lits 0 ends) id []) ≡ get_or ends id 0 - get_or (0 ∷ ends) id 0
piece_length lits ends id h inside =
    let bounds = end_at 0 ends (length lits) id h inside in
    let low = bounds.0 in
    let high = bounds.1 in
    let whole = length-drop (get_or (0 ∷ ends) id 0) lits in
    ap length (piece_at lits 0 ends id inside)
    ∙ length-take (get_or ends id 0 - get_or (0 ∷ ends) id 0) (drop (get_or (0 ∷ ends) id 0) lits)
    ∙ (omega arith)

-- of the clauses of the formula each stays
take_twice : {X : Type 0} (n : ℕ) (xs : List X) → take n (take n xs) ≡ take n xs
take_twice n xs = take_all n (take n xs) (let long = length-take n xs in omega arith)

pub short_none : (lits : List ℤ) (ends : List ℕ) (base keep s : ℕ) → IsLaidOut lits ends base → s ≡ get_or (0 ∷ ends) base 0 → IsShort lits ends base keep base (take s lits) (take base ends)
short_none lits ends base keep s h is =
    let stop = start_at 0 ends (length lits) base h.filled h.based in
    let shorter = length-take s lits in
    let fewer = length-take base ends in
    let based = h.based in
    let long : s ≡ length (take s lits) = omega arith in
    let cs : List (List ℤ) = pieces lits 0 ends in
    let count = length-take base cs in
    record {
      clauses =
          pieces_popped lits ends base s h.filled h.based is
          ∙ sym (append-nil (take base cs))
          ∙ ap (λ xs. xs ++ []) (sym (take_twice base cs))
          ∙ ap (λ xs. take base (take base cs) ++ filter (λ c. nat_le (length c) keep) xs) (sym (drop_all base (take base cs) (omega arith)));
      filled = subst (AreEnds 0 (take base ends)) (sym is ∙ long) (ends_taken 0 ends (length lits) base h.filled h.based);
      front = take_twice base ends;
      based = omega arith;
      few = omega arith;
      short = omega arith;
    }

-- one clause more was looked at
looked : (base keep id : ℕ) (cs : List (List ℤ)) (c : List ℤ) (stays : List (List ℤ)) → base ≤ id → id < length cs → c ≡ get_or cs id [] → filter (λ d. nat_le (length d) keep) (c ∷ []) ≡ stays → without_long base keep (take (id + 1) cs) ≡ without_long base keep (take id cs) ++ stays
looked base keep id cs c stays above inside is kept =
    let long = length-take id cs in
    let more : take (id + 1) cs ≡ take id cs ++ c ∷ [] = take_more cs id [] inside ∙ ap (λ d. take id cs ++ d ∷ []) (sym is) in
    ap (without_long base keep) more
    ∙ ap (λ xs. xs ++ filter (λ d. nat_le (length d) keep) (drop base (take id cs ++ c ∷ []))) (take-append-le base (take id cs) (c ∷ []) (omega arith))
    ∙ ap (λ xs. take base (take id cs) ++ filter (λ d. nat_le (length d) keep) xs) (drop-append-le base (take id cs) (c ∷ []) (omega arith))
    ∙ ap (λ xs. take base (take id cs) ++ xs) (filter-append (λ d. nat_le (length d) keep) (drop base (take id cs)) (c ∷ []))
    ∙ ap (λ xs. take base (take id cs) ++ (filter (λ d. nat_le (length d) keep) (drop base (take id cs)) ++ xs)) kept
    ∙ sym (append_assoc (take base (take id cs)) (filter (λ d. nat_le (length d) keep) (drop base (take id cs))) stays)

pub short_more : (lits : List ℤ) (ends : List ℕ) (base keep id : ℕ) (A new : List ℤ) (E : List ℕ) (e : ℕ) → AreEnds 0 ends (length lits) → base ≤ id → id < length ends → IsShort lits ends base keep id A E → new ≡ get_or (pieces lits 0 ends) id [] → nat_le (length new) keep ≡ true → e ≡ length A + length new → IsShort lits ends base keep (id + 1) (A ++ new) (E ++ e ∷ [])
short_more lits ends base keep id A new E e ordered above inside h is stays sum =
    let cs : List (List ℤ) = pieces lits 0 ends in
    let many = length-pieces lits 0 ends in
    let one : filter (λ d. nat_le (length d) keep) (new ∷ []) ≡ new ∷ [] = rw stays refl in
    let long = length-append A new in
    let more = length-append E (e ∷ []) in
    let based = h.based in
    let few = h.few in
    let short = h.short in
    let size = piece_length lits ends id ordered inside in
    let same = ap length is in
    let bounds = (end_at 0 ends (length lits) id ordered inside).0 in
    let next : get_or (0 ∷ ends) (id + 1) 0 ≡ get_or ends id 0 = (let suc_id : id + 1 ≡ suc id = omega arith in ap (λ n. get_or (0 ∷ ends) n 0) suc_id) in
    record {
      clauses =
          pieces_grow A new E e h.filled sum
          ∙ ap (λ xs. xs ++ new ∷ []) h.clauses
          ∙ sym (looked base keep id cs new (new ∷ []) above (omega arith) is one);
      filled = subst (AreEnds 0 (E ++ e ∷ [])) (sum ∙ sym long) (ends-push 0 E (length A) e h.filled (omega arith));
      front = take-append-le base E (e ∷ []) h.based ∙ h.front;
      based = omega arith;
      few = omega arith;
      short = omega arith;
    }

pub short_same : (lits : List ℤ) (ends : List ℕ) (base keep id : ℕ) (A : List ℤ) (E : List ℕ) → AreEnds 0 ends (length lits) → base ≤ id → id < length ends → IsShort lits ends base keep id A E → nat_le (length (get_or (pieces lits 0 ends) id [])) keep ≡ false → IsShort lits ends base keep (id + 1) A E
short_same lits ends base keep id A E ordered above inside h leaves =
    let cs : List (List ℤ) = pieces lits 0 ends in
    let many = length-pieces lits 0 ends in
    let none : filter (λ d. nat_le (length d) keep) (get_or cs id [] ∷ []) ≡ [] = rw leaves refl in
    let few = h.few in
    let short = h.short in
    let bounds = (end_at 0 ends (length lits) id ordered inside).0 in
    let next : get_or (0 ∷ ends) (id + 1) 0 ≡ get_or ends id 0 = (let suc_id : id + 1 ≡ suc id = omega arith in ap (λ n. get_or (0 ∷ ends) n 0) suc_id) in
    record {
      clauses =
          h.clauses
          ∙ sym (append-nil (without_long base keep (take id cs)))
          ∙ sym (looked base keep id cs (get_or cs id []) [] above (omega arith) refl none);
      filled = h.filled;
      front = h.front;
      based = h.based;
      few = omega arith;
      short = omega arith;
    }

-- what stays of an arena is one
arena_short : (clauses : List (List ℤ)) (base keep : ℕ) → base ≤ length clauses → IsArena (record { clauses = clauses; base = base }) → IsArena (record { clauses = without_long base keep clauses; base = base })
arena_short clauses base keep based h =
    let front = length-take base clauses in
    let behind : drop base (without_long base keep clauses) ≡ filter (λ c. nat_le (length c) keep) (drop base clauses)
    = drop-append-le base (take base clauses) (filter (λ c. nat_le (length c) keep) (drop base clauses)) (omega arith)
    ∙ ap (λ xs. xs ++ filter (λ c. nat_le (length c) keep) (drop base clauses)) (drop_all base (take base clauses) (omega arith)) in
    record {
      based = let long = length-append (take base clauses) (filter (λ c. nat_le (length c) keep) (drop base clauses)) in omega arith;
      literals = All-append (All IsLiteral) (take base clauses) (filter (λ c. nat_le (length c) keep) (drop base clauses)) (All-take (All IsLiteral) base clauses h.literals) (All-filter (λ c. nat_le (length c) keep) (All IsLiteral) (drop base clauses) (All-drop (All IsLiteral) base clauses h.literals));
      once = All-append HasEachOnce (take base clauses) (filter (λ c. nat_le (length c) keep) (drop base clauses)) (All-take HasEachOnce base clauses h.once) (All-filter (λ c. nat_le (length c) keep) HasEachOnce (drop base clauses) (All-drop HasEachOnce base clauses h.once));
      variables = subst (All HasDistinctVariables) (sym behind) (All-filter (λ c. nat_le (length c) keep) HasDistinctVariables (drop base clauses) h.variables);
    }

pub short_all : (lits : List ℤ) (ends : List ℕ) (base keep id : ℕ) (A : List ℤ) (E : List ℕ) → id ≡ length ends → IsShort lits ends base keep id A E → pieces A 0 E ≡ without_long base keep (pieces lits 0 ends)
short_all lits ends base keep id A E all h =
    h.clauses ∙ ap (without_long base keep) (take_all id (pieces lits 0 ends) (let many = length-pieces lits 0 ends in omega arith))

pub short_laid : (lits : List ℤ) (ends : List ℕ) (base keep id : ℕ) (A : List ℤ) (E : List ℕ) → id ≡ length ends → IsLaidOut lits ends base → IsShort lits ends base keep id A E → IsLaidOut A E base
short_laid lits ends base keep id A E all laid h =
    let many = length-pieces lits 0 ends in
    let based = laid.based in
    let front : get_or (0 ∷ E) base 0 ≡ get_or (0 ∷ ends) base 0 =
    sym (get_or-take (suc base) (0 ∷ E) base 0 (omega arith)) ∙ ap (λ xs. get_or (0 ∷ xs) base 0) h.front ∙ get_or-take (suc base) (0 ∷ ends) base 0 (omega arith) in
    let stop = start_at 0 ends (length lits) id laid.filled (omega arith) in
    let few = h.few in
    let short = h.short in
    let literals = laid.literals in
    let lemmas = laid.lemmas in
    let lemma_literals = laid.lemma_literals in
    record {
      arena = subst (λ cs. IsArena (record { clauses = cs; base = base })) (sym (short_all lits ends base keep id A E all h)) (arena_short (pieces lits 0 ends) base keep (omega arith) laid.arena);
      filled = h.filled;
      based = h.based;
      clauses = laid.clauses;
      literals = omega arith;
      lemmas = omega arith;
      lemma_literals = omega arith;
    }

-- the walk over the lemmas: the memory holds what stays, and behind it what is still to be looked at
pub record IsWalk (lits : List ℤ) (ends : List ℕ) (base keep id : ℕ) (now : List ℤ) (now_ends : List ℕ) (start filled kept : ℕ) : Type 0 where
  pub made : IsShort lits ends base keep id (take filled now) (take kept now_ends)
  pub lits_rest : drop start now ≡ drop start lits
  pub ends_rest : drop id now_ends ≡ drop id ends
  pub begins : start ≡ get_or (0 ∷ ends) id 0
  pub lits_long : length now ≡ length lits
  pub ends_long : length now_ends ≡ length ends
  pub written : filled ≤ start
  pub behind : kept ≤ id
  pub above : base ≤ kept

-- what is still to be looked at is as it was
pub read_end : (now ends : List ℕ) (id e : ℕ) → drop id now ≡ drop id ends → id < length ends → e ≡ get_or now id e → e ≡ get_or ends id 0
read_end now ends id e rest inside is =
    let zero_more : id + 0 ≡ id = omega arith in
    let there : (xs : List ℕ) → get_or (drop id xs) 0 e ≡ get_or xs id e = λ xs. get_or-drop id xs 0 e ∙ ap (λ n. get_or xs n e) zero_more in
    is ∙ sym (there now) ∙ ap (λ xs. get_or xs 0 e) rest ∙ there ends ∙ get_or_default ends id e 0 inside

-- where the clause ends
pub walk_bounds : {lits : List ℤ} {ends : List ℕ} {base keep id : ℕ} {now : List ℤ} {now_ends : List ℕ} {start filled kept : ℕ} → IsLaidOut lits ends base → IsWalk lits ends base keep id now now_ends start filled kept → (e : ℕ) → id < length ends → e ≡ get_or ends id 0 → (start ≤ e) × (e ≤ length lits)
walk_bounds {lits} {ends} {id = id} laid walk e inside is =
    let bounds = end_at 0 ends (length lits) id laid.filled inside in
    let low = bounds.0 in
    let high = bounds.1 in
    let begins = walk.begins in
    (omega arith, omega arith)

pub walk_none : (lits : List ℤ) (ends : List ℕ) (base keep s : ℕ) → IsLaidOut lits ends base → s ≡ get_or (0 ∷ ends) base 0 → IsWalk lits ends base keep base lits ends s s base
walk_none lits ends base keep s laid is = record {
  made = short_none lits ends base keep s laid is;
  lits_rest = refl;
  ends_rest = refl;
  begins = is;
  lits_long = refl;
  ends_long = refl;
  written = omega arith;
  behind = omega arith;
  above = omega arith;
}

next_start : (ends : List ℕ) (id e : ℕ) → e ≡ get_or ends id 0 → e ≡ get_or (0 ∷ ends) (id + 1) 0
next_start ends id e is = let one : suc id ≡ id + 1 = omega arith in is ∙ ap (λ n. get_or (0 ∷ ends) n 0) one

-- the clause at hand
piece_read : {lits : List ℤ} {ends : List ℕ} {base keep id : ℕ} {now : List ℤ} {now_ends : List ℕ} {start filled kept : ℕ} → IsWalk lits ends base keep id now now_ends start filled kept → (e : ℕ) → id < length ends → e ≡ get_or ends id 0 → take (e - start) (drop start now) ≡ get_or (pieces lits 0 ends) id []
piece_read {lits} {ends} {id = id} {start = start} walk e inside is =
    ap (take (e - start)) walk.lits_rest
    ∙ ap (λ n. take (n - start) (drop start lits)) is
    ∙ ap (λ s. take (get_or ends id 0 - s) (drop s lits)) walk.begins
    ∙ sym (piece_at lits 0 ends id inside)

pub walk_yes : (lits : List ℤ) (ends : List ℕ) (base keep id : ℕ) (now : List ℤ) (now_ends : List ℕ) (start filled kept e f : ℕ) → IsLaidOut lits ends base → id < length ends → IsWalk lits ends base keep id now now_ends start filled kept → e ≡ get_or ends id 0 → e - start ≤ keep → f ≡ filled + (e - start) →
    IsWalk lits ends base keep (id + 1) (paste now filled (drop start now) (e - start)) (set now_ends kept f) e f (kept + 1)
walk_yes lits ends base keep id now now_ends start filled kept e f laid inside walk is short sum =
    let bounds = walk_bounds laid walk e inside is in
    let low = bounds.0 in
    let high = bounds.1 in
    let lits_long = walk.lits_long in
    let ends_long = walk.ends_long in
    let written = walk.written in
    let behind = walk.behind in
    let above = walk.above in
    let rest = length-drop start now in
    let n : ℕ = e - start in
    let new : List ℤ = take n (drop start now) in
    let piece : new ≡ get_or (pieces lits 0 ends) id [] = piece_read walk e inside is in
    let size : length new ≡ n = length-take n (drop start now) ∙ (omega arith) in
    let front = length-take filled now in
    let taken : take f (paste now filled (drop start now) n) ≡ take filled now ++ new =
    ap (λ k. take k (paste now filled (drop start now) n)) sum ∙ take-paste now filled (drop start now) n (omega arith) (omega arith) in
    let ended : take (kept + 1) (set now_ends kept f) ≡ take kept now_ends ++ f ∷ [] = take-set_at now_ends kept (kept + 1) f refl (omega arith) in
    let past : filled + n + (e - (filled + n)) ≡ e = omega arith in
    let gone : (xs : List ℤ) → drop (e - (filled + n)) (drop (filled + n) xs) ≡ drop e xs = λ xs. drop-drop (e - (filled + n)) (filled + n) xs ∙ ap (λ k. drop k xs) past in
    let further : (xs : List ℤ) → drop (e - start) (drop start xs) ≡ drop e xs = λ xs. drop-drop (e - start) start xs ∙ (let split : start + (e - start) ≡ e = omega arith in ap (λ k. drop k xs) split) in
    let further_ends : (xs : List ℕ) → drop 1 (drop id xs) ≡ drop (id + 1) xs = λ xs. drop-drop 1 id xs in
    record {
      made =
          subst (λ A. IsShort lits ends base keep (id + 1) A (take (kept + 1) (set now_ends kept f))) (sym taken)
          (subst (IsShort lits ends base keep (id + 1) (take filled now ++ new)) (sym ended)
          (short_more lits ends base keep id (take filled now) new (take kept now_ends) f laid.filled (omega arith) inside walk.made piece (le-leb (length new) keep (omega arith)) (omega arith)));
      lits_rest =
          sym (gone (paste now filled (drop start now) n))
          ∙ ap (drop (e - (filled + n))) (drop-paste now filled (drop start now) n (omega arith) (omega arith))
          ∙ gone now
          ∙ sym (further now)
          ∙ ap (drop (e - start)) walk.lits_rest
          ∙ further lits;
      ends_rest = drop-set-lt (id + 1) now_ends kept f (omega arith) ∙ sym (further_ends now_ends) ∙ ap (drop 1) walk.ends_rest ∙ further_ends ends;
      begins = next_start ends id e is;
      lits_long = length-paste now filled (drop start now) n (omega arith) (omega arith) ∙ lits_long;
      ends_long = length-set now_ends kept f ∙ ends_long;
      written = omega arith;
      behind = omega arith;
      above = omega arith;
    }

pub walk_no : (lits : List ℤ) (ends : List ℕ) (base keep id : ℕ) (now : List ℤ) (now_ends : List ℕ) (start filled kept e : ℕ) → IsLaidOut lits ends base → id < length ends → IsWalk lits ends base keep id now now_ends start filled kept → e ≡ get_or ends id 0 → keep < e - start →
    IsWalk lits ends base keep (id + 1) now now_ends e filled kept
walk_no lits ends base keep id now now_ends start filled kept e laid inside walk is long =
    let bounds = walk_bounds laid walk e inside is in
    let low = bounds.0 in
    let high = bounds.1 in
    let written = walk.written in
    let behind = walk.behind in
    let above = walk.above in
    let begins = walk.begins in
    let size = piece_length lits ends id laid.filled inside in
    let further : (xs : List ℤ) → drop (e - start) (drop start xs) ≡ drop e xs = λ xs. drop-drop (e - start) start xs ∙ (let split : start + (e - start) ≡ e = omega arith in ap (λ k. drop k xs) split) in
    let further_ends : (xs : List ℕ) → drop 1 (drop id xs) ≡ drop (id + 1) xs = λ xs. drop-drop 1 id xs in
    record {
      made = short_same lits ends base keep id (take filled now) (take kept now_ends) laid.filled (omega arith) inside walk.made (lt-leb (length (get_or (pieces lits 0 ends) id [])) keep (omega arith));
      lits_rest = sym (further now) ∙ ap (drop (e - start)) walk.lits_rest ∙ further lits;
      ends_rest = sym (further_ends now_ends) ∙ ap (drop 1) walk.ends_rest ∙ further_ends ends;
      begins = next_start ends id e is;
      lits_long = walk.lits_long;
      ends_long = walk.ends_long;
      written = omega arith;
      behind = omega arith;
      above = omega arith;
    }
