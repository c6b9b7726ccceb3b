-- The sizes of a formula that is read, of which variables its literals are, and how many names are kept.
use Rattle.std.proofs.Common.{◌≡◌, ℕ, ◌+◌, ◌<◌, ◌≤◌, Bool, true, false, not, cond, eqb, leb, ltb, List, [], ◌∷◌, length, map, ℤ, pos, nat_abs, Option, Some, None, Result, Ok, Err, IfOk, refl, sym, ◌∙◌, subst, arith}
use Rattle.std.specs.Prelude.{neg_ℤ, codes, ◌&&◌, ◌||◌}
use Rattle.std.specs.Str.{bytes_eq}
use Rattle.std.specs.List.{All, sum_by, range_with_len}
use Rattle.std.specs.List.Sorted.{IsStrictlyIncreasing}
use Rattle.std.proofs.lemmas.Bool.{leb-true, ltb-true, eqb-false}
use Rattle.std.proofs.lemmas.List.{length_push}
use Rattle.std.proofs.lemmas.List.Elements.{All-nil, All-push, All-filter}
use Rattle.std.proofs.lemmas.List.Kept.{IsStrictlyIncreasing-filter}
use Rattle.std.proofs.lemmas.List.FromFn.{length-range_with_len, get_or-range_with_len}
use Rattle.std.proofs.lemmas.List.Sums.{sum_by-append}
use Rattle.dimacs_tokens.specs.Cuts.{lines, tokens}
use Rattle.dimacs_tokens.specs.Numbers.{value_of}
use Rattle.dimacs_tokens.specs.Seen.{SeenView, seen_token, begins_with}
use Rattle.dimacs_tokens.specs.Reading.{eats, line_read, lines_read}
use Rattle.sat_terms.specs.Literals.{IsLiteralOf}
use Rattle.dimacs_front.specs.declared.refused.TextRefused.{TextRefused}
use Rattle.dimacs_front.specs.declared.refused.TextRefused.TheVariants.{HeaderTwice, VariableTooLarge, ShowBad, TooManyVariables, TooManyClauses, TooManyLiterals, UnderBad, SavedBad}
use Rattle.dimacs_front.specs.declared.refused.ReadRefused.{ReadRefused}
use Rattle.dimacs_front.specs.declared.line_place.LinePlace.{LinePlace}
use Rattle.dimacs_front.specs.declared.header_place.HeaderPlace.{HeaderPlace}
use Rattle.dimacs_front.specs.declared.header_place.HeaderPlace.TheVariants.{Word, Variables, Clauses, End, Broken}
use Rattle.dimacs_front.specs.declared.line_place.LinePlace.TheVariants.{Beginning, Header, Numbers, Comment, Show, ShowEnd, Under, UnderEnd, Saved, Over, Refused}
use Rattle.dimacs_front.specs.declared.saved_place.OpenList.{OpenList}
use Rattle.dimacs_front.specs.declared.saved_place.OpenList.TheVariants.{Line, Shown, Hidden}
use Rattle.dimacs_front.specs.declared.saved_place.SavedPlace.{SavedPlace}
use Rattle.dimacs_front.specs.declared.saved_place.SavedPlace.TheVariants as saved
use Rattle.dimacs_front.specs.declared.saved_place.SavedPlace.TheVariants.{First, MetFirst, Listed, Complete}
use Rattle.dimacs_front.specs.declared.show_lines.Named.{Named}
use Rattle.dimacs_front.specs.declared.under_lines.Given.{Given}
use Rattle.dimacs_front.specs.declared.input.Input.{Input}
use Rattle.dimacs_front.specs.TextEnds.{first_misplaced, under_of, lowest_outside, first_unmet, input_of}
use Rattle.sat_terms.specs.Cubes.{has_literal, last_variable}
use Rattle.sat_terms.specs.Subjects.{IsVariableList}
use Rattle.dimacs_front.specs.HeaderLines.{natural}
use Rattle.dimacs_front.specs.Limits.{most_bytes, most_variables, most_clauses, most_literals, most_shown}
use Rattle.dimacs_front.specs.MachinePlaces.{above_begun, in_comment}
use Rattle.dimacs_front.specs.MachineComment.{comment_begun}
use Rattle.dimacs_front.specs.Machine.{WrittenView, nothing_written, clause_written, literal_written, StateView, at_place, refuse, in_clauses, zero_eaten, literal_eaten, number_eaten, show_ended, variable_named, shown_eaten, literal_given, under_eaten, below_begun, line_begun, eaten_at, eaten, below_header, header_ended, closed_at, closed, literal_listed, list_ended, listed_eaten, text_named, met_named, saved_eaten}
use Rattle.dimacs_front.specs.MachineEnd.{end_refusal, or_named, names_shown, few, with_met_lines, with_saved_lines, with_under, with_shown, by_end, end_of}
use Rattle.dimacs_front.specs.Whole.{last_line}
use Rattle.dimacs_front.specs.MachineText.{TextView, text_at_start, eat_token, close_line, text_after, answer_by, answer, machine_reads}
use Rattle.fault_io.specs.Sources.{SourceView}
use Rattle.dimacs_front.specs.Answers.{ReadsText, IsWithinLimits}
use Rattle.dimacs_front.proofs.TextTie.{reads_same}
use Rattle.dimacs_front.proofs.UnderCube.{tested_cube}
use Rattle.dimacs_front.proofs.FewNames.{AreFew, none_few, once_few, few_length}

-- what holds of the formula behind every token
pub record IsSound (w : WrittenView) : Type 0 where
  pub within : w.variables ≤ most_variables
  pub named : All (All (IsLiteralOf w.variables)) w.clauses
  pub open_named : All (IsLiteralOf w.variables) w.open_clause
  pub few_clauses : length w.clauses ≤ most_clauses
  pub counted : sum_by length w.clauses + length w.open_clause ≡ w.literals
  pub few_literals : w.literals ≤ most_literals

nothing_sound : (v c : ℕ) → v ≤ most_variables → IsSound (nothing_written v c)
nothing_sound v c h = record {
  within = h;
  named = All-nil (All (IsLiteralOf v));
  open_named = All-nil (IsLiteralOf v);
  few_clauses = omega arith;
  counted = refl;
  few_literals = omega arith;
}

ended_sound : (w : WrittenView) → IsSound w → length w.clauses < most_clauses →
    IsSound (clause_written w)
ended_sound w s h = record {
  within = s.within;
  named = All-push (All (IsLiteralOf w.variables)) w.clauses w.open_clause s.named s.open_named;
  open_named = All-nil (IsLiteralOf w.variables);
  few_clauses = omega (arith, length_push w.clauses w.open_clause);
  counted = omega (arith, s.counted, sum_by-append length w.clauses (w.open_clause ∷ []));
  few_literals = s.few_literals;
}

added_sound : (w : WrittenView) (l : ℤ) → IsSound w → 0 < nat_abs l → nat_abs l ≤ w.variables →
    w.literals < most_literals → IsSound (literal_written w l)
added_sound w l s some le h = record {
  within = s.within;
  named = s.named;
  open_named = All-push (IsLiteralOf w.variables) w.open_clause l s.open_named (some, le);
  few_clauses = s.few_clauses;
  counted = omega (arith, s.counted, length_push w.open_clause l);
  few_literals = omega arith;
}

-- what holds of the state
abbrev IsSoundState : StateView → Type 0
IsSoundState s = IsSound s.formula × AreFew s.named

-- a token among the clauses
zero_sound : (n : ℕ) (s : StateView) (q : Bool) → ltb (length s.formula.clauses) most_clauses ≡ q →
    IsSoundState s →
    IsSoundState (cond q (in_clauses s (clause_written s.formula)) (refuse s (TooManyClauses n)))
zero_sound n s true e h =
    (ended_sound s.formula h.0 (ltb-true (length s.formula.clauses) most_clauses e), h.1)
zero_sound n s false e h = h

literal_sound : (n : ℕ) (s : StateView) (l : ℤ) (m q : Bool) →
    leb (nat_abs l) s.formula.variables ≡ m → ltb s.formula.literals most_literals ≡ q →
    0 < nat_abs l → IsSoundState s →
    IsSoundState (cond m (cond q (in_clauses s (literal_written s.formula l)) (refuse s (TooManyLiterals n)))
    (refuse s (VariableTooLarge n)))
literal_sound n s l true true e f some h =
    let le : nat_abs l ≤ s.formula.variables = leb-true (nat_abs l) s.formula.variables e in
    (added_sound s.formula l h.0 some le (ltb-true s.formula.literals most_literals f), h.1)
literal_sound n s l true false e f some h = h
literal_sound n s l false q e f some h = h

value_sound : (n : ℕ) (s : StateView) (l : ℤ) (z : Bool) → eqb (nat_abs l) 0 ≡ z → IsSoundState s →
    IsSoundState (cond z (zero_eaten n s) (literal_eaten n s l))
value_sound n s l true e h = zero_sound n s (ltb (length s.formula.clauses) most_clauses) refl h
value_sound n s l false e h =
    let some : nat_abs l ≡ 0 → ⊥ = eqb-false (nat_abs l) 0 e in
    literal_sound n s l (leb (nat_abs l) s.formula.variables) (ltb s.formula.literals most_literals) refl refl (omega arith) h

number_sound : (n : ℕ) (s : StateView) (o : Option ℤ) → IsSoundState s →
    IsSoundState (number_eaten n s o)
number_sound n s None h = h
number_sound n s (Some l) h = value_sound n s l (eqb (nat_abs l) 0) refl h

-- of two states
either_sound : (q : Bool) (s u : StateView) → IsSoundState s → IsSoundState u →
    IsSoundState (cond q s u)
either_sound true s u h k = h
either_sound false s u h k = k

shown_sound-at : (n : ℕ) (s : StateView) (v : ℕ) (z m : Bool) → eqb v 0 ≡ z →
    leb v most_variables ≡ m → IsSoundState s →
    IsSoundState (cond z (show_ended s) (cond m (variable_named n s v) (refuse s (ShowBad n))))
shown_sound-at n s v true m e f h = h
shown_sound-at n s v false true e f h =
    let m : Named = record { variable = v; line = n } in
    (h.0, once_few s.named m (eqb-false v 0 e) (leb-true v most_variables f) h.1)
shown_sound-at n s v false false e f h = h

shown_sound : (n : ℕ) (s : StateView) (o : Option ℕ) → IsSoundState s →
    IsSoundState (shown_eaten n s o)
shown_sound n s None h = h
shown_sound n s (Some v) h = shown_sound-at n s v (eqb v 0) (leb v most_variables) refl refl h

under_sound : (n : ℕ) (s : StateView) (o : Option ℤ) → IsSoundState s →
    IsSoundState (under_eaten n s o)
under_sound n s None h = h
under_sound n s (Some l) h =
    either_sound (eqb (nat_abs l) 0) _ _ h
    (either_sound (leb (nat_abs l) most_variables) (literal_given n s l) (refuse s (UnderBad n)) h h)

begun_sound : (n : ℕ) (s : StateView) (t : SeenView) → IsSoundState s →
    IsSoundState (line_begun n s t)
begun_sound n s t h =
    let numbered : IsSoundState (number_eaten n s (value_of t.number)) = number_sound n s (value_of t.number) h in
    either_sound (begins_with t 99) (at_place s (in_comment s.saved n (comment_begun t))) _ h
    (either_sound s.started (below_begun n s t) (at_place s (above_begun n t))
    (either_sound (begins_with t 112) (refuse s (HeaderTwice n)) _ h (either_sound (begins_with t 37) (at_place s Over) _ h numbered))
    h)

list_sound : (list : OpenList) (n : ℕ) (s : StateView) → IsSoundState s → IsSoundState (list_ended list n s)
list_sound (Line kind) n s h = h
list_sound Shown n s h = h
list_sound Hidden n s h = h

listed_sound : (list : OpenList) (n : ℕ) (s : StateView) (o : Option ℤ) → IsSoundState s →
    IsSoundState (listed_eaten list n s o)
listed_sound list n s None h = h
listed_sound list n s (Some l) h =
    either_sound (eqb (nat_abs l) 0) _ _ (list_sound list n s h)
    (either_sound (leb (nat_abs l) most_variables && ltb (last_variable 0 s.lits) (nat_abs l)) (literal_listed s l) (refuse s (SavedBad n)) h h)

saved_sound : (p : SavedPlace) (n : ℕ) (s : StateView) (t : SeenView) → IsSoundState s →
    IsSoundState (saved_eaten p n s t)
saved_sound First n s t h =
    either_sound (bytes_eq t.head (codes "1") || bytes_eq t.head (codes "2")) (text_named s) (refuse s (SavedBad n)) h h
saved_sound MetFirst n s t h =
    either_sound (bytes_eq t.head (codes "1")) (met_named s) (refuse s (SavedBad n)) h h
saved_sound (Listed list) n s t h = listed_sound list n s (value_of t.number) h
saved_sound Complete n s t h = h
saved_sound saved.End n s t h = h

eaten_sound-at : (p : LinePlace) (n : ℕ) (s : StateView) (t : SeenView) → IsSoundState s →
    IsSoundState (eaten_at p n s t)
eaten_sound-at Beginning n s t h = begun_sound n s t h
eaten_sound-at (Header k) n s t h = h
eaten_sound-at Numbers n s t h = number_sound n s (value_of t.number) h
eaten_sound-at (Comment c) n s t h = h
eaten_sound-at Show n s t h = shown_sound n s (natural (value_of t.number)) h
eaten_sound-at ShowEnd n s t h = h
eaten_sound-at Under n s t h = under_sound n s (value_of t.number) h
eaten_sound-at UnderEnd n s t h = h
eaten_sound-at (Saved p) n s t h = saved_sound p n s t h
eaten_sound-at Over n s t h = h
eaten_sound-at (Refused r) n s t h = h

eaten_sound : (n : ℕ) (s : StateView) (t : SeenView) → IsSoundState s → IsSoundState (eaten n s t)
unfolding eaten
eaten_sound n s t h = eaten_sound-at s.place n s t h

-- the end of a line
header_sound : (n : ℕ) (s : StateView) (v c : ℕ) (m : Bool) → leb v most_variables ≡ m →
    IsSoundState s →
    IsSoundState (cond m (cond (leb c most_clauses) (below_header s v c) (refuse s (TooManyClauses n)))
    (refuse s (TooManyVariables n)))
header_sound n s v c true e h =
    either_sound (leb c most_clauses) (below_header s v c) (refuse s (TooManyClauses n))
    (nothing_sound v c (leb-true v most_variables e), h.1) h
header_sound n s v c false e h = h

header_sound-at : (k : HeaderPlace) (n : ℕ) (s : StateView) → IsSoundState s →
    IsSoundState (header_ended k n s)
header_sound-at Word n s h = h
header_sound-at Variables n s h = h
header_sound-at (Clauses v) n s h = h
header_sound-at (End v c) n s h = header_sound n s v c (leb v most_variables) refl h
header_sound-at Broken n s h = h

closed_sound-at : (p : LinePlace) (n : ℕ) (s : StateView) → IsSoundState s →
    IsSoundState (closed_at p n s)
closed_sound-at Beginning n s h = h
closed_sound-at (Header k) n s h = header_sound-at k n s h
closed_sound-at Numbers n s h = h
closed_sound-at (Comment c) n s h = h
closed_sound-at Show n s h = h
closed_sound-at ShowEnd n s h = h
closed_sound-at Under n s h = h
closed_sound-at UnderEnd n s h = h
closed_sound-at (Saved First) n s h = h
closed_sound-at (Saved MetFirst) n s h = h
closed_sound-at (Saved (Listed list)) n s h = h
closed_sound-at (Saved Complete) n s h = h
closed_sound-at (Saved saved.End) n s h = h
closed_sound-at Over n s h = h
closed_sound-at (Refused r) n s h = h

closed_sound : (n : ℕ) (s : StateView) → IsSoundState s → IsSoundState (closed n s)
unfolding closed
closed_sound n s h = closed_sound-at s.place n s h

eats_sound : (j : TextView) (ts : List (List ℕ)) → IsSoundState j.state →
    IsSoundState (eats eat_token j ts).state
unfolding eats
eats_sound j [] h = h
eats_sound j (t ∷ ts) h = eats_sound (eat_token j (seen_token t)) ts (eaten_sound (j.lines + 1) j.state (seen_token t) h)

lines_sound : (j : TextView) (ls : List (List ℕ)) → IsSoundState j.state →
    IsSoundState (lines_read eat_token close_line j ls).state
unfolding lines_read
lines_sound j [] h = h
lines_sound j (l ∷ ls) h =
    let k : TextView = eats eat_token j (tokens l) in
    lines_sound (line_read eat_token close_line j l) ls (closed_sound (k.lines + 1) k.state (eats_sound j (tokens l) h))

text_sound : (ls : List (List ℕ)) → IsSoundState (text_after ls).state
text_sound ls = lines_sound text_at_start ls (nothing_sound 0 0 (omega arith), none_few)

-- the variables 1 to n
range_rises : (a n : ℕ) → IsStrictlyIncreasing (range_with_len a n)
range_rises a n = λ k lt.
    let size = length-range_with_len a n in
    let here = get_or-range_with_len a n k 0 (omega arith) in
    let next = get_or-range_with_len a n (k + 1) 0 (omega arith) in
    omega arith

abbrev IsVariableOf : ℕ → ℕ → Type 0
IsVariableOf n v = (0 < v) × (v ≤ n)

range_named : (n : ℕ) → All (IsVariableOf n) (range_with_len 1 n)
range_named n = λ k d lt.
    let size = length-range_with_len 1 n in
    let here = get_or-range_with_len 1 n k d (omega arith) in
    (omega arith, omega arith)

-- the shown variables
names_rise : (g : Bool) (ms : List Named) (v : ℕ) → IsStrictlyIncreasing (names_shown g ms v)
names_rise g ms v =
    IsStrictlyIncreasing-filter (or_named (not g) ms) (range_with_len 1 v) (range_rises 1 v)

names_named : (g : Bool) (ms : List Named) (v : ℕ) → All (IsVariableOf v) (names_shown g ms v)
names_named g ms v =
    All-filter (or_named (not g) ms) (IsVariableOf v) (range_with_len 1 v) (range_named v)

pub names_are_variables : (g : Bool) (ms : List Named) (v : ℕ) (vs : List ℕ) → v ≤ most_variables →
    Some vs ≡ few (names_shown g ms v) → IsVariableList vs
names_are_variables g ms v vs le e = at (leb (length (names_shown g ms v)) most_shown) e
  where
    at : (q : Bool) → Some vs ≡ cond q (Some (names_shown g ms v)) None → IsVariableList vs
    at true e =
        let same : vs ≡ names_shown g ms v = cc in
        subst IsVariableList (sym same) (record {
          rising = names_rise g ms v;
          named = λ k d lt. let h = names_named g ms v k d lt in (h.0, omega (arith, h.1));
        })
    at false e = absurd (cc)

-- the input of a text that ends
shown_limits : (s : StateView) (vs : List ℕ) → vs ≡ names_shown s.given s.named s.formula.variables →
    length vs ≤ most_shown → IsSound s.formula →
    IsWithinLimits (input_of s.formula.variables s.formula.clauses vs (under_of s.under vs) s.saved)
shown_limits s vs e le h =
    let v : ℕ = s.formula.variables in
    let ls : List ℤ = map (λ g. Given.literal g) s.under in
    let rises : IsStrictlyIncreasing vs = subst IsStrictlyIncreasing (sym e) (names_rise s.given s.named v) in
    let named : All (IsVariableOf v) vs = subst (λ (xs : List ℕ). All (IsVariableOf v) xs) (sym e) (names_named s.given s.named v) in
    record {
      subject = record {
        formula = record {
          variables = omega (arith, h.within);
          clauses = omega (arith, h.few_clauses);
          literals = omega (arith, h.counted, h.few_literals);
          named = h.named;
        };
        shown = record { rising = rises; named = named };
        under = tested_cube (λ u. has_literal ls (pos u)) (λ u. has_literal ls (neg_ℤ (pos u))) vs rises
            (λ k d lt. (named k d lt).0);
      };
      clauses = h.few_clauses;
      literals = omega (arith, h.counted, h.few_literals);
      shown = le;
    }

met_limits : (s : StateView) (input : Input) (vs : List ℕ) (o : Option ℕ) →
    vs ≡ names_shown s.given s.named s.formula.variables → length vs ≤ most_shown →
    IsSound s.formula → with_met_lines s.formula vs (under_of s.under vs) s.saved o ≡ Ok input → IsWithinLimits input
met_limits s input vs None e le h k =
    let same : input_of s.formula.variables s.formula.clauses vs (under_of s.under vs) s.saved ≡ input = cc in
    subst IsWithinLimits same (shown_limits s vs e le h)
met_limits s input vs (Some line) e le h k = absurd (cc)

saved_limits : (s : StateView) (input : Input) (vs : List ℕ) (o : Option ℕ) →
    vs ≡ names_shown s.given s.named s.formula.variables → length vs ≤ most_shown →
    IsSound s.formula → with_saved_lines s.formula vs (under_of s.under vs) s.saved o ≡ Ok input → IsWithinLimits input
saved_limits s input vs None e le h k =
    met_limits s input vs (first_unmet s.formula.variables vs (under_of s.under vs) s.saved.mets) e le h k
saved_limits s input vs (Some line) e le h k = absurd (cc)

under_limits : (s : StateView) (input : Input) (vs : List ℕ) (o : Option ℕ) →
    vs ≡ names_shown s.given s.named s.formula.variables → length vs ≤ most_shown →
    IsSound s.formula → with_under s.formula s.under s.saved vs o ≡ Ok input → IsWithinLimits input
under_limits s input vs None e le h k =
    saved_limits s input vs (lowest_outside vs (under_of s.under vs) s.saved) e le h k
under_limits s input vs (Some line) e le h k = absurd (cc)

few_limits : (n : ℕ) (s : StateView) (input : Input) (vs : List ℕ) (q : Bool) →
    leb (length vs) most_shown ≡ q → vs ≡ names_shown s.given s.named s.formula.variables →
    IsSound s.formula → with_shown n s.formula s.under s.saved (cond q (Some vs) None) ≡ Ok input →
    IsWithinLimits input
few_limits n s input vs true e f h k =
    under_limits s input vs (first_misplaced vs [] s.under) f (leb-true (length vs) most_shown e) h k
few_limits n s input vs false e f h k = absurd (cc)

by_end_limits : (o : Option TextRefused) (n : ℕ) (s : StateView) (input : Input) →
    IsSound s.formula → by_end o n s ≡ Ok input → IsWithinLimits input
by_end_limits (Some r) n s input h k = absurd (cc)
by_end_limits None n s input h k =
    let vs : List ℕ = names_shown s.given s.named s.formula.variables in
    few_limits n s input vs (leb (length vs) most_shown) refl refl h k

end_limits : (n : ℕ) (s : StateView) (input : Input) → IsSound s.formula → end_of n s ≡ Ok input →
    IsWithinLimits input
unfolding end_of
end_limits n s input h k = by_end_limits (end_refusal n s) n s input h k

answer_limits : (o : Option TextRefused) (n : ℕ) (s : StateView) (input : Input) →
    IsSound s.formula → answer_by o n s ≡ Ok input → IsWithinLimits input
answer_limits (Some r) n s input h k = absurd (cc)
answer_limits None n s input h k = end_limits (last_line n) s input h k

reads_limits-at : (q : Bool) (j : TextView) (r : TextRefused) (input : Input) →
    IsSound j.state.formula → cond q (answer j) (Err r) ≡ Ok input → IsWithinLimits input
reads_limits-at true j r input h k = answer_limits j.stopped j.lines j.state input h k
reads_limits-at false j r input h k = absurd (cc)

reads_limits : (bs : List ℕ) (input : Input) → machine_reads bs ≡ Ok input → IsWithinLimits input
unfolding machine_reads
reads_limits bs input k =
    reads_limits-at (leb (length bs) most_bytes) (text_after (lines bs)) _ input (text_sound (lines bs)).0 k

-- what is read is within the limits
pub text_limits : (old new : SourceView) (result : Result Input ReadRefused) →
    ReadsText old new result → IfOk result IsWithinLimits
text_limits old new (Ok input) r =
    reads_limits r.bytes input (sym (reads_same r.bytes) ∙ r.says.says)
text_limits old new (Err failed) r = tt

-- however long the text is, few names are kept
pub names_few : (ls : List (List ℕ)) → length (text_after ls).state.named ≤ most_variables
names_few ls = few_length (text_after ls).state.named (text_sound ls).1
