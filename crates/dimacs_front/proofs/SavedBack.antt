-- A saved text says what was saved.
use Rattle.std.proofs.Common.{◌≡◌, ℕ, ◌+◌, ◌<◌, ◌≤◌, Bool, true, false, not, ◌||◌, eqb, List, [], ◌∷◌, ◌++◌, length, map, flat_map, ℤ, pos, nat_abs, codes, Some, None, Ok, refl, sym, ap, subst, ◌∙◌, arith}
use Rattle.std.specs.Prelude.{nat_le}
use Rattle.std.specs.List.{All, list_all, list_any}
use Rattle.std.proofs.lemmas.Bool.{cond-true, cond-false, le-leb, eqb-true, and_parts, and_from}
use Rattle.std.specs.Cmp.{nat_eq_equiv}
use Rattle.std.proofs.lemmas.List.Elements.{All-cons, All-head, All-tail, All-weaker}
use Rattle.std.proofs.lemmas.List.Folds.{list_all-append}
use Rattle.sat_terms.specs.declared.subject.Subject.{Subject}
use Rattle.sat_terms.specs.Literals.{IsLiteralOf}
use Rattle.sat_terms.specs.Cubes.{is_among, IsCube}
use Rattle.dimacs_tokens.specs.Texts.{is_line}
use Rattle.dimacs_tokens.proofs.LineLaws.{lines-text_of}
use Rattle.checkpoint.specs.SavedText.{version_line, formula_line, clause_line, shown_line, given_line, found_line, open_line, closing_line, saved_text}
use Rattle.dimacs_front.specs.declared.refused.TextRefused.TheVariants.{ShowBad, UnderBad, SavedBad}
use Rattle.dimacs_front.specs.declared.under_lines.Given.{Given}
use Rattle.dimacs_front.specs.Limits.{most_bytes, most_variables, most_shown}
use Rattle.dimacs_front.specs.Steps.{and_then, unless, steps}
use Rattle.dimacs_front.specs.HeaderLines.{Below}
use Rattle.dimacs_front.specs.LineWords.{words_of}
use Rattle.dimacs_front.specs.ListLines.{ListLine}
use Rattle.dimacs_front.specs.SavedTexts.{SavedSaid}
use Rattle.dimacs_front.specs.TextLaws.{IsVariable}
use Rattle.dimacs_front.specs.TextLines.{no_line, next_line, lines_say}
use Rattle.dimacs_front.specs.TextEnds.{given_for, lower_line, shown_of, first_above, under_of, lowest_outside, input_of, shown_says, end_says}
use Rattle.dimacs_front.specs.Whole.{last_line, reads}
use Rattle.dimacs_front.specs.Answers.{IsWithinLimits, AreInside}
use Rattle.dimacs_front.specs.SavedLaws.{saved_input, SavedTextReadsBack}
use Rattle.dimacs_front.proofs.UnderCube.{rises, rises_from_increasing}
use Rattle.dimacs_front.proofs.WrittenTokens.{listed_line, header_line}
use Rattle.dimacs_front.proofs.WrittenLines.{step_is, steps_are, saved_so_far, said_so_far, lines_so_far, named_only, version_says, below_header, header_is_read, clauses_are_read, words_are_tokens, show_is_token, under_is_token, cube_is_token, open_is_token, small_variables, show_is_read, IsListed, small_listed, small_literals, under_is_read, CanBeListed, saving, cubes_are_read, prefixes_are_read, end_is_read}
use Rattle.dimacs_front.proofs.SavedEnd.{IsWithin, filter_range, tells_variables, none_above, under_back, given_in, given_literals, none_misplaced, numbered, numbered_cubes, none_outside}

module _ (s : Subject) (found pending : List (List ℤ)) (limits : IsWithinLimits (saved_input s found pending))
    (cubes : AreInside s.shown s.under found) (prefixes : AreInside s.shown s.under pending) where
  abbrev v : ℕ
  v = s.formula.variables

  abbrev cs : List (List ℤ)
  cs = s.formula.clauses

  abbrev m : ℕ
  m = length cs

  fits : v ≤ most_variables
  fits = let h = limits.subject.formula.variables in omega arith

  -- ---- variables and literals

  IsOf : ℕ → Type 0
  IsOf u = (0 < u) × (u ≤ v)

  variables_of : (p : List ℕ) → All (λ u. (0 < u) × (u ≤ v)) p → All IsVariable p
  variables_of p h =
      All-weaker (λ u. (0 < u) × (u ≤ v)) IsVariable (λ u here. (here.0, (let le = here.1 in let top = fits in omega arith))) p h

  one_of : (p : List ℕ) (u : ℕ) → All IsVariable p → is_among p u ≡ true → IsVariable u
  one_of [] u h e = absurd (cc)
  one_of (w ∷ p) u h e = at (λ g. one_of p u (All-tail IsVariable w p h) g) (eqb u w) refl e
    where
      at : (is_among p u ≡ true → IsVariable u) → (b : Bool) → eqb u w ≡ b → (b || is_among p u) ≡ true → IsVariable u
      at more true same e = subst IsVariable (sym (eqb-true u w same)) (All-head IsVariable w p h)
      at more false other e = more e

  literals_of_cube : (p : List ℕ) (c : List ℤ) → All IsVariable p → list_all (λ l. is_among p (nat_abs l)) c ≡ true → All IsListed c
  literals_of_cube p [] h over = λ i d lt. absurd (omega arith)
  literals_of_cube p (l ∷ c) h over =
      let (first, rest) = and_parts (is_among p (nat_abs l)) (list_all (λ k. is_among p (nat_abs k)) c) over in
      All-cons IsListed l c (one_of p (nat_abs l) h first) (literals_of_cube p c h rest)

  shown_variables : All IsVariable s.shown
  shown_variables = variables_of s.shown limits.subject.shown.named

  can_be_listed : (c : List ℤ) → IsCube s.shown c → CanBeListed c
  can_be_listed c h = record { listed = literals_of_cube s.shown c shown_variables h.over; rising = h.rising }

  all_listed : (xs : List (List ℤ)) → All (IsCube s.shown) xs → All CanBeListed xs
  all_listed xs h = All-weaker (IsCube s.shown) CanBeListed can_be_listed xs h

  given_listed : All IsListed s.under
  given_listed = (can_be_listed s.under limits.subject.under).listed

  -- ---- the lines

  abbrev first_lines : List (List ℕ)
  first_lines = version_line ∷ formula_line s.formula ∷ map clause_line cs

  abbrev upper_lines : List (List ℕ)
  upper_lines = first_lines ++ shown_line s.shown ∷ given_line s.under ∷ []

  abbrev cube_lines : List (List ℕ)
  cube_lines = upper_lines ++ map found_line found

  abbrev list_lines : List (List ℕ)
  list_lines = cube_lines ++ map open_line pending

  abbrev all_lines : List (List ℕ)
  all_lines = list_lines ++ closing_line ∷ []

  -- the state behind the clauses, the show line, the under line and the cubes
  abbrev shows : List ListLine
  shows = record { line = 2 + m + 1; values = map (λ u. pos u) s.shown } ∷ []

  abbrev above : ℕ
  above = 2 + m + 1 + 1

  abbrev given : List Given
  given = given_in above s.under

  abbrev w : Below
  w = below_header v m cs

  abbrev nothing : SavedSaid
  nothing = saved_so_far [] [] false

  abbrev before : ℕ
  before = above + length found

  first_are_read : steps next_line no_line first_lines ≡ Ok (lines_so_far (2 + m) (said_so_far w [] [] nothing))
  first_are_read =
      step_is no_line (lines_so_far 1 named_only) version_line (formula_line s.formula ∷ map clause_line cs) version_says
      ∙ step_is (lines_so_far 1 named_only) (lines_so_far 2 (said_so_far (below_header v m []) [] [] nothing)) (formula_line s.formula) (map clause_line cs) (header_is_read v m fits limits.clauses)
      ∙ clauses_are_read v m [] [] nothing 2 [] cs fits limits.subject.formula.named (let room = limits.clauses in omega arith) (let room = limits.literals in omega arith)

  upper_are_read : steps next_line no_line upper_lines ≡ Ok (saving w shows given above [] [] false)
  upper_are_read =
      steps_are no_line (lines_so_far (2 + m) (said_so_far w [] [] nothing)) first_lines (shown_line s.shown ∷ given_line s.under ∷ []) first_are_read
      ∙ step_is (lines_so_far (2 + m) (said_so_far w [] [] nothing)) (lines_so_far (2 + m + 1) (said_so_far w shows [] nothing)) (shown_line s.shown) (given_line s.under ∷ [])
      (show_is_read (2 + m) w [] [] nothing s.shown shown_variables)
      ∙ step_is (lines_so_far (2 + m + 1) (said_so_far w shows [] nothing)) (saving w shows given above [] [] false) (given_line s.under) []
      (under_is_read (2 + m + 1) w shows [] nothing s.under given_listed)

  cubes_follow : steps next_line no_line cube_lines ≡ Ok (saving w shows given before (numbered above found) [] false)
  cubes_follow =
      steps_are no_line (saving w shows given above [] [] false) upper_lines (map found_line found) upper_are_read
      ∙ cubes_are_read w shows given above [] [] found (all_listed found cubes.over)

  prefixes_follow : steps next_line no_line list_lines ≡ Ok (saving w shows given (before + length pending) (numbered above found) (numbered before pending) false)
  prefixes_follow =
      steps_are no_line (saving w shows given before (numbered above found) [] false) cube_lines (map open_line pending) cubes_follow
      ∙ prefixes_are_read w shows given before (numbered above found) [] pending (all_listed pending prefixes.over)

  lines_are_read : steps next_line no_line all_lines ≡ Ok (saving w shows given (before + length pending + 1) (numbered above found) (numbered before pending) true)
  lines_are_read =
      steps_are no_line (saving w shows given (before + length pending) (numbered above found) (numbered before pending) false) list_lines (closing_line ∷ []) prefixes_follow
      ∙ step_is (saving w shows given (before + length pending) (numbered above found) (numbered before pending) false) (saving w shows given (before + length pending + 1) (numbered above found) (numbered before pending) true) closing_line []
      (end_is_read w shows given (before + length pending) (numbered above found) (numbered before pending))

  -- ---- no byte 10

  clause_lines : (xs : List (List ℤ)) → All (All (IsLiteralOf v)) xs → list_all is_line (map clause_line xs) ≡ true
  clause_lines [] h = refl
  clause_lines (x ∷ xs) h =
      and_from (is_line (clause_line x)) _ (listed_line [] x refl (small_literals v x fits (All-head (All (IsLiteralOf v)) x xs h)))
      (clause_lines xs (All-tail (All (IsLiteralOf v)) x xs h))

  found_lines : (xs : List (List ℤ)) → All CanBeListed xs → list_all is_line (map found_line xs) ≡ true
  found_lines [] h = refl
  found_lines (x ∷ xs) h =
      and_from (is_line (found_line x)) _ (listed_line (words_of (codes "cube")) x (words_are_tokens (codes "cube") cube_is_token) (small_listed x (All-head CanBeListed x xs h).listed))
      (found_lines xs (All-tail CanBeListed x xs h))

  open_lines : (xs : List (List ℤ)) → All CanBeListed xs → list_all is_line (map open_line xs) ≡ true
  open_lines [] h = refl
  open_lines (x ∷ xs) h =
      and_from (is_line (open_line x)) _ (listed_line (words_of (codes "open")) x (words_are_tokens (codes "open") open_is_token) (small_listed x (All-head CanBeListed x xs h).listed))
      (open_lines xs (All-tail CanBeListed x xs h))

  two_parts : (xs ys : List (List ℕ)) → list_all is_line xs ≡ true → list_all is_line ys ≡ true → list_all is_line (xs ++ ys) ≡ true
  two_parts xs ys h k = list_all-append is_line xs ys ∙ and_from (list_all is_line xs) (list_all is_line ys) h k

  first_lines_are : list_all is_line first_lines ≡ true
  first_lines_are =
      and_from (is_line (formula_line s.formula)) _ (header_line v m (let top = fits in omega arith) (let top = limits.clauses in omega arith))
      (clause_lines cs limits.subject.formula.named)

  upper_lines_are : list_all is_line upper_lines ≡ true
  upper_lines_are =
      two_parts first_lines _ first_lines_are
      (and_from (is_line (shown_line s.shown)) _ (listed_line (words_of (codes "show")) (map (λ u. pos u) s.shown) (words_are_tokens (codes "show") show_is_token) (small_variables s.shown shown_variables))
      (and_from (is_line (given_line s.under)) true (listed_line (words_of (codes "under")) s.under (words_are_tokens (codes "under") under_is_token) (small_listed s.under given_listed)) refl))

  all_lines_are_lines : list_all is_line all_lines ≡ true
  all_lines_are_lines =
      two_parts list_lines (closing_line ∷ [])
      (two_parts cube_lines (map open_line pending)
      (two_parts upper_lines (map found_line found) upper_lines_are (found_lines found (all_listed found cubes.over)))
      (open_lines pending (all_listed pending prefixes.over)))
      refl

  -- ---- the end

  shown_rise : rises 0 s.shown ≡ true
  shown_rise = rises_from_increasing 0 s.shown limits.subject.shown.rising (λ h. (limits.subject.shown.named 0 0 h).0)

  shown_within : All (IsWithin v) s.shown
  shown_within = All-weaker (λ u. (0 < u) × (u ≤ v)) (IsWithin v) (λ u here. here.1) s.shown limits.subject.shown.named

  shown_back : shown_of w shows ≡ s.shown
  shown_back =
      filter_range _ v 0 s.shown shown_rise (λ i d h. let le = shown_within i d h in omega arith)
      (λ u h. or-false (list_any (λ l. eqb (nat_abs l) u) (map (λ x. pos x) s.shown)) ∙ tells_variables u s.shown)
    where
      or-false : (b : Bool) → (b || false) ≡ b
      or-false true = refl
      or-false false = refl

  given_back : under_of given s.shown ≡ s.under
  given_back = ap (λ ls. flat_map (given_for ls) s.shown) (given_literals above s.under) ∙ under_back s.shown s.under shown_rise limits.subject.under

  none_shown_above : first_above v shows ≡ None
  none_shown_above =
      cond-false (list_any (λ l. not (nat_le (nat_abs l) v)) (map (λ u. pos u) s.shown)) (Some (2 + m + 1)) None (none_above v s.shown shown_within)

  end_is_said : (n a b : ℕ) →
      end_says n (said_so_far w shows given (saved_so_far (numbered a found) (numbered b pending) true)) (Some w) ≡ Ok (saved_input s found pending)
  end_is_said n a b =
      let k : SavedSaid = saved_so_far (numbered a found) (numbered b pending) true in
      cond-true (eqb m m) _ _ (nat_eq_equiv.refl m)
      ∙ ap (λ o. unless o ShowBad (shown_says n w given k (shown_of w shows))) none_shown_above
      ∙ ap (shown_says n w given k) shown_back
      ∙ cond-true (nat_le (length s.shown) most_shown) _ _ (le-leb (length s.shown) most_shown limits.shown)
      ∙ ap (λ o. unless o UnderBad (unless (lowest_outside s.shown (under_of given s.shown) k) SavedBad (Ok (input_of v cs s.shown (under_of given s.shown) k))))
      (none_misplaced above s.shown [] 0 s.under limits.subject.under.over limits.subject.under.rising (λ l h. refl))
      ∙ ap (λ u. unless (lowest_outside s.shown u k) SavedBad (Ok (input_of v cs s.shown u k))) given_back
      ∙ (λ i. unless (lower_line (none_outside s.shown s.under a found cubes i) (none_outside s.shown s.under b pending prefixes i)) SavedBad (Ok (input_of v cs s.shown s.under k)))
      ∙ (λ i. Ok (record { subject = s; saved = Some (record { cubes = numbered_cubes a found i; pending = numbered_cubes b pending i }); met = None }))

  pub saved_back : length (saved_text s found pending) ≤ most_bytes → reads (saved_text s found pending) ≡ Ok (saved_input s found pending)
  unfolding reads lines_say
  saved_back fits =
      cond-true (nat_le (length (saved_text s found pending)) most_bytes) _ _ (le-leb (length (saved_text s found pending)) most_bytes fits)
      ∙ ap (λ ls. and_then (λ j. end_says (last_line j.count) j.said j.said.below) (steps next_line no_line ls)) (lines-text_of all_lines all_lines_are_lines)
      ∙ ap (and_then (λ j. end_says (last_line j.count) j.said j.said.below)) lines_are_read
      ∙ end_is_said (last_line (before + length pending + 1)) above before

pub reads_back : SavedTextReadsBack
reads_back s found pending limits cubes prefixes fits = saved_back s found pending limits cubes prefixes fits
