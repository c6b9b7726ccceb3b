-- What each line of a saved text says.
use Rattle.std.proofs.Common.{◌≡◌, ℕ, ◌+◌, ◌<◌, ◌≤◌, Bool, true, false, cond, ◌&&◌, eqb, List, [], ◌∷◌, ◌++◌, length, map, ℤ, pos, nat_abs, codes, Some, Result, Ok, refl, sym, ap, ◌∙◌, append-nil, append_assoc, arith}
use Rattle.std.specs.Fmt.{decimal, signed_decimal}
use Rattle.std.specs.List.{All, list_all, sum_by}
use Rattle.std.proofs.lemmas.Bool.{cond-true, cond-false, le-leb, lt-ltb}
use Rattle.std.proofs.lemmas.Bool.Decides.{nat_tests}
use Rattle.std.proofs.lemmas.List.{length_push}
use Rattle.std.proofs.lemmas.List.Elements.{All-head, All-tail, All-map, All-weaker}
use Rattle.std.proofs.lemmas.List.Sums.{sum_by-append}
use Rattle.dimacs_tokens.specs.Bytes.{is_white}
use Rattle.dimacs_tokens.specs.Cuts.{cut_tokens, tokens}
use Rattle.dimacs_tokens.specs.Numbers.{token_value}
use Rattle.dimacs_tokens.specs.Laws.{is_token}
use Rattle.dimacs_tokens.proofs.NumberLaws.{written_value}
use Rattle.sat_terms.specs.Literals.{IsLiteralOf}
use Rattle.sat_terms.specs.Cubes.{rises_above}
use Rattle.checkpoint.specs.SavedText.{version_line, clause_line, shown_line, given_line, found_line, open_line, closing_line}
use Rattle.dimacs_front.specs.declared.refused.TextRefused.{TextRefused}
use Rattle.dimacs_front.specs.declared.refused.TextRefused.TheVariants.{SavedBad, UnderBad, UnderUnended}
use Rattle.dimacs_front.specs.declared.under_lines.Given.{Given}
use Rattle.dimacs_front.specs.declared.saved_lines.SavedLine.{SavedLine}
use Rattle.dimacs_front.specs.declared.saved_lines.SavedList.TheVariants.{Cubes, Pending}
use Rattle.dimacs_front.specs.Limits.{most_variables, most_clauses, most_literals}
use Rattle.dimacs_front.specs.Steps.{and_then, needs, steps}
use Rattle.dimacs_front.specs.HeaderLines.{Below, header_of, natural, header_says}
use Rattle.dimacs_front.specs.LineWords.{words_of}
use Rattle.dimacs_front.specs.NumberLines.{literals_of, literal_added, number_says, numbers_say}
use Rattle.dimacs_front.specs.ListLines.{ListLine, list_says, in_line, is_literal, under_says}
use Rattle.dimacs_front.specs.SavedTexts.{SavedSaid, nothing_saved, is_version, is_met_version, with_line, rising_says}
use Rattle.dimacs_front.specs.TextLines.{Said, with_below, with_given, with_saved, line_says, Lines, nothing_said, no_line, next_line}
use Rattle.dimacs_front.specs.TextLaws.{IsVariable, variables}
use Rattle.dimacs_front.proofs.LawSteps.{numbers_line, show_line, steps_append}
use Rattle.dimacs_front.proofs.SavedEnd.{given_in, numbered}
use Rattle.dimacs_front.proofs.WrittenTokens.{IsSmall, listed_tokens, written_values, zero_value, header_tokens}

-- ---- steps

pub next_is : (j : Lines) (line : List ℕ) (ts : List (List ℕ)) (s : Said) → tokens line ≡ ts →
    line_says (j.count + 1) j.said ts ≡ Ok s → next_line j line ≡ Ok (record { count = j.count + 1; said = s })
next_is j line ts s e h =
    ap (and_then (λ u. Ok (record { count = j.count + 1; said = u }))) (ap (line_says (j.count + 1) j.said) e ∙ h)

pub step_is : (j k : Lines) (l : List ℕ) (ls : List (List ℕ)) → next_line j l ≡ Ok k →
    steps next_line j (l ∷ ls) ≡ steps next_line k ls
step_is j k l ls h = ap (and_then (λ b. steps next_line b ls)) h

pub steps_are : (j k : Lines) (xs ys : List (List ℕ)) → steps next_line j xs ≡ Ok k →
    steps next_line j (xs ++ ys) ≡ steps next_line k ys
steps_are j k xs ys h = steps_append next_line j xs ys ∙ ap (and_then (λ b. steps next_line b ys)) h

-- ---- the state within a saved text

abbrev pub saved_so_far : List SavedLine → List SavedLine → Bool → SavedSaid
saved_so_far cs ps e = record { named = true; cubes = cs; pending = ps; met = false; mets = []; ended = e }

abbrev pub said_so_far : Below → List ListLine → List Given → SavedSaid → Said
said_so_far w ms gs k = record { below = Some w; shows = ms; given = gs; saved = k; over = false }

abbrev pub lines_so_far : ℕ → Said → Lines
lines_so_far n s = record { count = n; said = s }

-- ---- the first two lines

abbrev pub named_only : Said
named_only = record nothing_said { saved = record nothing_saved { named = true } }

pub version_says : next_line no_line version_line ≡ Ok (lines_so_far 1 named_only)
unfolding line_says cut_tokens is_white
version_says = refl

abbrev pub below_header : ℕ → ℕ → List (List ℤ) → Below
below_header v m cs = record { variables = v; said = m; clauses = cs; open_clause = [] }

header_fits : (n v m : ℕ) → v ≤ most_variables → m ≤ most_clauses →
    header_of n (Some v) (Some m) ≡ Ok (below_header v m [])
header_fits n v m fits small =
    cond-true _ _ _ (le-leb v most_variables fits) ∙ cond-true _ _ _ (le-leb m most_clauses small)

header_numbers : (n v m : ℕ) → v ≤ most_variables → m ≤ most_clauses →
    header_says n (codes "p" ∷ codes "cnf" ∷ decimal v ∷ decimal m ∷ []) ≡ Ok (below_header v m [])
unfolding header_says
header_numbers n v m fits small =
    (λ i. header_of n (natural (written_value (pos v) (omega arith) i)) (natural (written_value (pos m) (omega arith) i)))
    ∙ header_fits n v m fits small

header_line_says : (n v m : ℕ) → v ≤ most_variables → m ≤ most_clauses →
    line_says n named_only (codes "p" ∷ codes "cnf" ∷ decimal v ∷ decimal m ∷ []) ≡
    Ok (said_so_far (below_header v m []) [] [] (saved_so_far [] [] false))
unfolding line_says
header_line_says n v m fits small =
    ap (and_then (λ w. Ok (with_below named_only w))) (header_numbers n v m fits small)

pub header_is_read : (v m : ℕ) → v ≤ most_variables → m ≤ most_clauses →
    next_line (lines_so_far 1 named_only) (codes "p cnf " ++ decimal v ++ codes " " ++ decimal m) ≡
    Ok (lines_so_far 2 (said_so_far (below_header v m []) [] [] (saved_so_far [] [] false)))
header_is_read v m fits small =
    next_is (lines_so_far 1 named_only) _ _ _ (header_tokens v m (omega arith) (omega arith)) (header_line_says 2 v m fits small)

-- ---- clauses

not_zero : (l : ℤ) → 0 < nat_abs l → eqb (nat_abs l) 0 ≡ false
not_zero l h = grind (arith, nat_tests)

clause_values : (n : ℕ) (w : Below) (c : List ℤ) → All (IsLiteralOf w.variables) c →
    length w.clauses < most_clauses → literals_of w + length c ≤ most_literals →
    numbers_say n w (map (λ l. Some l) c ++ Some (pos 0) ∷ []) ≡
    Ok (record w { clauses = w.clauses ++ (w.open_clause ++ c) ∷ []; open_clause = [] })
clause_values n w [] named room fits =
    ap (and_then (λ v. Ok v)) (cond-true _ _ _ (lt-ltb (length w.clauses) most_clauses room))
    ∙ ap (λ x. Ok (record w { clauses = w.clauses ++ x ∷ []; open_clause = [] })) (sym (append-nil w.open_clause))
clause_values n w (l ∷ c) named room fits =
    let here : IsLiteralOf w.variables l = All-head (IsLiteralOf w.variables) l c named in
    let one : number_says n w (Some l) ≡ Ok (literal_added w l) =
    cond-false _ _ _ (not_zero l here.0)
    ∙ cond-true _ _ _ (le-leb (nat_abs l) w.variables here.1)
    ∙ cond-true _ _ _ (lt-ltb (literals_of w) most_literals (omega arith)) in
    ap (and_then (λ v. numbers_say n v (map (λ k. Some k) c ++ Some (pos 0) ∷ []))) one
    ∙ clause_values n (literal_added w l) c (All-tail (IsLiteralOf w.variables) l c named) room
    (omega (arith, length_push w.open_clause l, fits))
    ∙ ap (λ x. Ok (record w { clauses = w.clauses ++ x ∷ []; open_clause = [] })) (append_assoc w.open_clause (l ∷ []) c)

pub small_literals : (v : ℕ) (c : List ℤ) → v ≤ most_variables → All (IsLiteralOf v) c → All IsSmall c
small_literals v c fits h = λ i d lt. let here = h i d lt in omega (arith, here.1)

clause_tokens_say : (n : ℕ) (w v : Below) (ms : List ListLine) (gs : List Given) (k : SavedSaid) (c : List ℤ) → All IsSmall c →
    numbers_say n w (map (λ l. Some l) c ++ Some (pos 0) ∷ []) ≡ Ok v →
    line_says n (said_so_far w ms gs k) (map signed_decimal c ++ codes "0" ∷ []) ≡ Ok (said_so_far v ms gs k)
clause_tokens_say n w v ms gs k [] small h =
    numbers_line n w v ms gs k (codes "0") [] (pos 0) zero_value (ap (numbers_say n w) (written_values [] small) ∙ h)
clause_tokens_say n w v ms gs k (l ∷ c) small h =
    numbers_line n w v ms gs k (signed_decimal l) (map signed_decimal c ++ codes "0" ∷ []) l
    (written_value l (All-head IsSmall l c small)) (ap (numbers_say n w) (written_values (l ∷ c) small) ∙ h)

module _ (v m : ℕ) (ms : List ListLine) (gs : List Given) (k : SavedSaid) where
  abbrev among : ℕ → List (List ℤ) → Lines
  among n cs = lines_so_far n (said_so_far (below_header v m cs) ms gs k)

  clause_is_read : (n : ℕ) (cs : List (List ℤ)) (c : List ℤ) → v ≤ most_variables → All (IsLiteralOf v) c →
      length cs < most_clauses → sum_by length cs + length c ≤ most_literals →
      next_line (among n cs) (clause_line c) ≡ Ok (among (n + 1) (cs ++ c ∷ []))
  clause_is_read n cs c fits named room literals =
      let small : All IsSmall c = small_literals v c fits named in
      next_is (among n cs) (clause_line c) _ _ (listed_tokens [] c refl small)
      (clause_tokens_say (n + 1) (below_header v m cs) (below_header v m (cs ++ c ∷ [])) ms gs k c small
      (clause_values (n + 1) (below_header v m cs) c named room (omega (arith, literals))))

  pub clauses_are_read : (n : ℕ) (cs xs : List (List ℤ)) → v ≤ most_variables → All (All (IsLiteralOf v)) xs →
      length cs + length xs ≤ most_clauses → sum_by length cs + sum_by length xs ≤ most_literals →
      steps next_line (among n cs) (map clause_line xs) ≡ Ok (among (n + length xs) (cs ++ xs))
  clauses_are_read n cs [] fits named room literals =
      let same : n ≡ n + 0 = omega arith in (λ i. Ok (among (same i) (sym (append-nil cs) i)))
  clauses_are_read n cs (x ∷ xs) fits named room literals =
      let one = sum_by-append length (x ∷ []) xs in
      let more = sum_by-append length cs (x ∷ []) in
      let same : n + 1 + length xs ≡ n + length (x ∷ xs) = omega arith in
      step_is (among n cs) (among (n + 1) (cs ++ x ∷ [])) (clause_line x) (map clause_line xs)
      (clause_is_read n cs x fits (All-head (All (IsLiteralOf v)) x xs named) (omega (arith, room)) (omega (arith, one, literals)))
      ∙ clauses_are_read (n + 1) (cs ++ x ∷ []) xs fits (All-tail (All (IsLiteralOf v)) x xs named)
      (omega (arith, room, length_push cs x)) (omega (arith, one, more, literals))
      ∙ (λ i. Ok (among (same i) (append_assoc cs (x ∷ []) xs i)))

-- ---- the list lines

pub words_are_tokens : (kind : List ℕ) → is_token kind ≡ true → list_all is_token (words_of kind) ≡ true
unfolding is_white
words_are_tokens kind h = ap (λ b. b && true) h

pub show_is_token : is_token (codes "show") ≡ true
unfolding is_white
show_is_token = refl

pub under_is_token : is_token (codes "under") ≡ true
unfolding is_white
under_is_token = refl

pub cube_is_token : is_token (codes "cube") ≡ true
unfolding is_white
cube_is_token = refl

pub open_is_token : is_token (codes "open") ≡ true
unfolding is_white
open_is_token = refl

-- a list that its 0 ends is read back
abbrev pub MayHold : (ℤ → Bool) → ℤ → Type 0
MayHold p l = (0 < nat_abs l) × (p l ≡ true)

pub list_back : (p : ℤ → Bool) (bad unended : TextRefused) (ls : List ℤ) → All (MayHold p) ls →
    list_says p bad unended (map (λ l. Some l) ls ++ Some (pos 0) ∷ []) ≡ Ok ls
list_back p bad unended [] h = refl
list_back p bad unended (l ∷ ls) h =
    let here : MayHold p l = All-head (MayHold p) l ls h in
    cond-false _ _ _ (not_zero l here.0)
    ∙ cond-true _ _ _ here.1
    ∙ ap (and_then (λ ks. Ok (l ∷ ks))) (list_back p bad unended ls (All-tail (MayHold p) l ls h))

variables_back : (vs : List ℕ) → map (λ l. Some l) (map (λ v. pos v) vs) ≡ variables vs
variables_back [] = refl
variables_back (v ∷ vs) = ap (λ x. Some (pos v) ∷ x) (variables_back vs)

pub small_variables : (vs : List ℕ) → All IsVariable vs → All IsSmall (map (λ v. pos v) vs)
small_variables vs h =
    All-map IsSmall (λ v. pos v) vs
    (All-weaker IsVariable (λ v. IsSmall (pos v)) (λ v here. let le = here.1 in omega arith) vs h)

-- the show line, in the line n + 1
pub show_is_read : (n : ℕ) (w : Below) (ms : List ListLine) (gs : List Given) (k : SavedSaid) (vs : List ℕ) → All IsVariable vs →
    next_line (lines_so_far n (said_so_far w ms gs k)) (shown_line vs) ≡
    Ok (lines_so_far (n + 1) (said_so_far w (ms ++ record { line = n + 1; values = map (λ v. pos v) vs } ∷ []) gs k))
show_is_read n w ms gs k vs h =
    let small : All IsSmall (map (λ v. pos v) vs) = small_variables vs h in
    let ts : List (List ℕ) = map signed_decimal (map (λ v. pos v) vs) ++ codes "0" ∷ [] in
    let values : map token_value ts ≡ variables vs ++ Some (pos 0) ∷ [] =
    written_values (map (λ v. pos v) vs) small ∙ ap (λ x. x ++ Some (pos 0) ∷ []) (variables_back vs) in
    next_is (lines_so_far n (said_so_far w ms gs k)) (shown_line vs) _ _
    (listed_tokens (words_of (codes "show")) (map (λ v. pos v) vs) (words_are_tokens (codes "show") show_is_token) small)
    (show_line (n + 1) (Some w) ms gs k ts vs values h)

-- literals of a line
abbrev pub IsListed : ℤ → Type 0
IsListed l = (0 < nat_abs l) × (nat_abs l ≤ most_variables)

pub small_listed : (ls : List ℤ) → All IsListed ls → All IsSmall ls
small_listed ls h = All-weaker IsListed IsSmall (λ l here. let le = here.1 in omega arith) ls h

may_hold : (ls : List ℤ) → All IsListed ls → All (MayHold is_literal) ls
may_hold ls h =
    All-weaker IsListed (MayHold is_literal) (λ l here. (here.0, le-leb (nat_abs l) most_variables here.1)) ls h

abbrev written : List ℤ → List (List ℕ)
written ls = map signed_decimal ls ++ codes "0" ∷ []

under_tokens_say : (n : ℕ) (w : Below) (ms : List ListLine) (gs : List Given) (k : SavedSaid) (ls : List ℤ) → All IsListed ls →
    line_says n (said_so_far w ms gs k) (words_of (codes "under") ++ written ls) ≡
    Ok (said_so_far w ms (gs ++ given_in n ls) k)
unfolding line_says
under_tokens_say n w ms gs k ls h =
    let s : Said = said_so_far w ms gs k in
    ap (λ os. and_then (λ m. Ok (with_given s m)) (under_says n os)) (written_values ls (small_listed ls h))
    ∙ ap (λ x. and_then (λ m. Ok (with_given s m)) (in_line n x)) (list_back is_literal (UnderBad n) (UnderUnended n) ls (may_hold ls h))

pub under_is_read : (n : ℕ) (w : Below) (ms : List ListLine) (gs : List Given) (k : SavedSaid) (ls : List ℤ) → All IsListed ls →
    next_line (lines_so_far n (said_so_far w ms gs k)) (given_line ls) ≡
    Ok (lines_so_far (n + 1) (said_so_far w ms (gs ++ given_in (n + 1) ls) k))
under_is_read n w ms gs k ls h =
    next_is (lines_so_far n (said_so_far w ms gs k)) (given_line ls) _ _
    (listed_tokens (words_of (codes "under")) ls (words_are_tokens (codes "under") under_is_token) (small_listed ls h))
    (under_tokens_say (n + 1) w ms gs k ls h)

-- ---- cubes and prefixes

and_false : (b : Bool) → (b && false) ≡ false
and_false true = refl
and_false false = refl

rising_back : (n : ℕ) (ls : List ℤ) → All IsListed ls → rises_above 0 ls ≡ true →
    rising_says n (map token_value (written ls)) ≡ Ok ls
rising_back n ls h up =
    ap (rising_says n) (written_values ls (small_listed ls h))
    ∙ ap (and_then (λ ks. needs (rises_above 0 ks) (SavedBad n) (Ok ks))) (list_back is_literal (SavedBad n) (SavedBad n) ls (may_hold ls h))
    ∙ cond-true _ _ _ up

-- a cube that is written and read back
pub record CanBeListed (c : List ℤ) : Type 0 where
  pub listed : All IsListed c
  pub rising : rises_above 0 c ≡ true

module _ (w : Below) (ms : List ListLine) (gs : List Given) where
  abbrev pub saving : ℕ → List SavedLine → List SavedLine → Bool → Lines
  saving n cs ps e = lines_so_far n (said_so_far w ms gs (saved_so_far cs ps e))

  cube_tokens_say : (n : ℕ) (cs ps : List SavedLine) (c : List ℤ) → All IsListed c → rises_above 0 c ≡ true →
      line_says n (said_so_far w ms gs (saved_so_far cs ps false)) (words_of (codes "cube") ++ written c) ≡
      Ok (said_so_far w ms gs (saved_so_far (cs ++ record { line = n; cube = c } ∷ []) ps false))
  unfolding line_says
  cube_tokens_say n cs ps c h up =
      let s : Said = said_so_far w ms gs (saved_so_far cs ps false) in
      let k : SavedSaid = saved_so_far cs ps false in
      let x : Result SavedSaid TextRefused = and_then (λ ls. Ok (with_line Cubes k (record { line = n; cube = ls }))) (rising_says n (map token_value (written c))) in
      ap (λ b. and_then (λ m. Ok (with_saved s m)) (cond b (needs (is_met_version (written c)) (SavedBad n) (Ok (record k { met = true }))) (cond b (needs (is_version (written c)) (SavedBad n) (Ok (record k { named = true }))) x))) (and_false (eqb n 1))
      ∙ ap (λ y. and_then (λ m. Ok (with_saved s m)) (and_then (λ ls. Ok (with_line Cubes k (record { line = n; cube = ls }))) y)) (rising_back n c h up)

  open_tokens_say : (n : ℕ) (cs ps : List SavedLine) (c : List ℤ) → All IsListed c → rises_above 0 c ≡ true →
      line_says n (said_so_far w ms gs (saved_so_far cs ps false)) (words_of (codes "open") ++ written c) ≡
      Ok (said_so_far w ms gs (saved_so_far cs (ps ++ record { line = n; cube = c } ∷ []) false))
  unfolding line_says
  open_tokens_say n cs ps c h up =
      let s : Said = said_so_far w ms gs (saved_so_far cs ps false) in
      let k : SavedSaid = saved_so_far cs ps false in
      let x : Result SavedSaid TextRefused = and_then (λ ls. Ok (with_line Pending k (record { line = n; cube = ls }))) (rising_says n (map token_value (written c))) in
      ap (λ b. and_then (λ m. Ok (with_saved s m)) (cond b (needs (is_met_version (written c)) (SavedBad n) (Ok (record k { met = true }))) (cond b (needs (is_version (written c)) (SavedBad n) (Ok (record k { named = true }))) x))) (and_false (eqb n 1))
      ∙ ap (λ y. and_then (λ m. Ok (with_saved s m)) (and_then (λ ls. Ok (with_line Pending k (record { line = n; cube = ls }))) y)) (rising_back n c h up)

  cube_is_read : (n : ℕ) (cs ps : List SavedLine) (c : List ℤ) → CanBeListed c →
      next_line (saving n cs ps false) (found_line c) ≡ Ok (saving (n + 1) (cs ++ record { line = n + 1; cube = c } ∷ []) ps false)
  cube_is_read n cs ps c h =
      next_is (saving n cs ps false) (found_line c) _ _
      (listed_tokens (words_of (codes "cube")) c (words_are_tokens (codes "cube") cube_is_token) (small_listed c h.listed))
      (cube_tokens_say (n + 1) cs ps c h.listed h.rising)

  open_is_read : (n : ℕ) (cs ps : List SavedLine) (c : List ℤ) → CanBeListed c →
      next_line (saving n cs ps false) (open_line c) ≡ Ok (saving (n + 1) cs (ps ++ record { line = n + 1; cube = c } ∷ []) false)
  open_is_read n cs ps c h =
      next_is (saving n cs ps false) (open_line c) _ _
      (listed_tokens (words_of (codes "open")) c (words_are_tokens (codes "open") open_is_token) (small_listed c h.listed))
      (open_tokens_say (n + 1) cs ps c h.listed h.rising)

  pub cubes_are_read : (n : ℕ) (cs ps : List SavedLine) (xs : List (List ℤ)) → All CanBeListed xs →
      steps next_line (saving n cs ps false) (map found_line xs) ≡ Ok (saving (n + length xs) (cs ++ numbered n xs) ps false)
  cubes_are_read n cs ps [] h =
      let same : n ≡ n + 0 = omega arith in (λ i. Ok (saving (same i) (sym (append-nil cs) i) ps false))
  cubes_are_read n cs ps (x ∷ xs) h =
      let m : SavedLine = record { line = n + 1; cube = x } in
      let same : n + 1 + length xs ≡ n + length (x ∷ xs) = omega arith in
      step_is (saving n cs ps false) (saving (n + 1) (cs ++ m ∷ []) ps false) (found_line x) (map found_line xs)
      (cube_is_read n cs ps x (All-head CanBeListed x xs h))
      ∙ cubes_are_read (n + 1) (cs ++ m ∷ []) ps xs (All-tail CanBeListed x xs h)
      ∙ (λ i. Ok (saving (same i) (append_assoc cs (m ∷ []) (numbered (n + 1) xs) i) ps false))

  pub prefixes_are_read : (n : ℕ) (cs ps : List SavedLine) (xs : List (List ℤ)) → All CanBeListed xs →
      steps next_line (saving n cs ps false) (map open_line xs) ≡ Ok (saving (n + length xs) cs (ps ++ numbered n xs) false)
  prefixes_are_read n cs ps [] h =
      let same : n ≡ n + 0 = omega arith in (λ i. Ok (saving (same i) cs (sym (append-nil ps) i) false))
  prefixes_are_read n cs ps (x ∷ xs) h =
      let m : SavedLine = record { line = n + 1; cube = x } in
      let same : n + 1 + length xs ≡ n + length (x ∷ xs) = omega arith in
      step_is (saving n cs ps false) (saving (n + 1) cs (ps ++ m ∷ []) false) (open_line x) (map open_line xs)
      (open_is_read n cs ps x (All-head CanBeListed x xs h))
      ∙ prefixes_are_read (n + 1) cs (ps ++ m ∷ []) xs (All-tail CanBeListed x xs h)
      ∙ (λ i. Ok (saving (same i) cs (append_assoc ps (m ∷ []) (numbered (n + 1) xs) i) false))

  -- the end line
  end_tokens_say : (n : ℕ) (cs ps : List SavedLine) →
      line_says n (said_so_far w ms gs (saved_so_far cs ps false)) (words_of (codes "end")) ≡
      Ok (said_so_far w ms gs (saved_so_far cs ps true))
  unfolding line_says
  end_tokens_say n cs ps =
      let s : Said = said_so_far w ms gs (saved_so_far cs ps false) in
      let k : SavedSaid = saved_so_far cs ps false in
      ap (λ b. and_then (λ m. Ok (with_saved s m)) (cond b (needs false (SavedBad n) (Ok (record k { met = true }))) (cond b (needs false (SavedBad n) (Ok (record k { named = true }))) (Ok (saved_so_far cs ps true))))) (and_false (eqb n 1))

  end_tokens : tokens closing_line ≡ words_of (codes "end")
  unfolding cut_tokens is_white
  end_tokens = refl

  pub end_is_read : (n : ℕ) (cs ps : List SavedLine) →
      next_line (saving n cs ps false) closing_line ≡ Ok (saving (n + 1) cs ps true)
  end_is_read n cs ps = next_is (saving n cs ps false) closing_line _ _ end_tokens (end_tokens_say (n + 1) cs ps)
