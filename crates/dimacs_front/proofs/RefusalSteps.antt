-- The lines that are refused, kind by kind.
use Rattle.std.proofs.Common.{◌≡◌, ℕ, ◌<◌, ◌≤◌, Bool, true, false, not, cond, ◌&&◌, ◌||◌, eqb, append-nil, List, [], ◌∷◌, ◌++◌, length, map, ℤ, pos, negsuc, nat_abs, Option, Some, None, Result, Ok, Err, codes, refl, sym, ap, ◌∙◌, arith}
use Rattle.std.specs.Prelude.{nat_le, nat_lt}
use Rattle.std.specs.Str.{bytes_eq}
use Rattle.std.specs.List.{All}
use Rattle.std.proofs.lemmas.Bool.{cond-true, cond-false, eqb-true, and_parts, le-leb, le-ltb, lt-leb}
use Rattle.std.proofs.lemmas.Bool.Decides.{nat_tests}
use Rattle.std.proofs.lemmas.List.Elements.{All-head, All-tail}
use Rattle.dimacs_tokens.specs.Numbers.{token_value}
use Rattle.dimacs_tokens.specs.Seen.{list_begins, is_nil}
use Rattle.sat_terms.specs.Cubes.{rises_above}
use Rattle.dimacs_front.specs.declared.under_lines.Given.{Given}
use Rattle.dimacs_front.specs.declared.saved_lines.SavedList.{SavedList}
use Rattle.dimacs_front.specs.declared.saved_lines.SavedList.TheVariants.{Cubes, Pending}
use Rattle.dimacs_front.specs.declared.refused.TextRefused.{TextRefused}
use Rattle.dimacs_front.specs.declared.refused.TextRefused.TheVariants.{BadStart, BadHeader, HeaderTwice, TooManyVariables, TooManyClauses, UnderBad, UnderUnended, SavedBad}
use Rattle.dimacs_front.specs.Limits.{most_variables, most_clauses, most_literals}
use Rattle.dimacs_front.specs.Steps.{and_then, needs}
use Rattle.dimacs_front.specs.HeaderLines.{Below, natural, header_of, header_says}
use Rattle.dimacs_front.specs.NumberLines.{literals_of, number_says, numbers_say}
use Rattle.dimacs_front.specs.ListLines.{ListLine, list_says, in_line, is_literal}
use Rattle.dimacs_front.specs.LineWords.{words_of, own_words}
use Rattle.dimacs_front.specs.SavedTexts.{SavedSaid, is_version, is_met_version, with_line, with_met, rising_says, up_to_zero, behind_zero, hidden_says, last_says}
use Rattle.dimacs_front.specs.TextLines.{Said, with_below, with_given, with_saved, comment_says, line_says}
use Rattle.dimacs_front.specs.RefusalLaws.{said_above, said_below, IsHeader, LinesAboveTheHeaderAreRefused, BeginsNumbers, LinesBelowTheHeaderAreRefused, IsHeld, values, is_barred, ListsAreRefused, UnderLinesAreLists, word_of, said_saved, SavedLinesAreRefused, said_met, MetLinesAreRefused}
use Rattle.dimacs_front.proofs.LawSteps.{first_number}

-- a token that begins with one byte begins with no other
begins_only : (t : List ℕ) (b c : ℕ) → eqb b c ≡ false → list_begins t b ≡ true → list_begins t c ≡ false
begins_only [] b c other h = refl
begins_only (x ∷ xs) b c other h = ap (λ (y : ℕ). eqb y c) (eqb-true x b h) ∙ other

-- ---- the header

natural_is : (o : Option ℤ) (v : ℕ) → natural o ≡ Some v → o ≡ Some (pos v)
natural_is None v e = absurd (cc)
natural_is (Some (pos n)) v e = let same : n ≡ v = cc in ap (λ m. Some (pos m)) same
natural_is (Some (negsuc n)) v e = absurd (cc)

no_numbers : (n : ℕ) (a b : Option ℕ) → ((v c : ℕ) → a ≡ Some v → b ≡ Some c → ⊥) → header_of n a b ≡ Err (BadHeader n)
no_numbers n None b none = refl
no_numbers n (Some v) None none = refl
no_numbers n (Some v) (Some c) none = absurd (none v c refl refl)

word_is : (t w : List ℕ) → bytes_eq t w ≡ true → t ≡ w
word_is [] [] h = refl
word_is [] (y ∷ ys) h = absurd (cc)
word_is (x ∷ xs) [] h = absurd (cc)
word_is (x ∷ xs) (y ∷ ys) h =
    let k = and_parts (eqb x y) (bytes_eq xs ys) h in
    (λ i. eqb-true x y k.0 i ∷ word_is xs ys k.1 i)

four_tokens : (n : ℕ) (t u a b : List ℕ) (q : Bool) → (bytes_eq t (codes "p") && bytes_eq u (codes "cnf")) ≡ q →
    ((v c : ℕ) → IsHeader (t ∷ u ∷ a ∷ b ∷ []) v c → ⊥) →
    needs q (BadHeader n) (header_of n (natural (token_value a)) (natural (token_value b))) ≡ Err (BadHeader n)
four_tokens n t u a b true e none =
    let k = and_parts (bytes_eq t (codes "p")) (bytes_eq u (codes "cnf")) e in
    no_numbers n (natural (token_value a)) (natural (token_value b)) (λ v c f g. none v c (record {
      variables = a;
      clauses = b;
      tokens = (λ i. word_is t (codes "p") k.0 i ∷ word_is u (codes "cnf") k.1 i ∷ a ∷ b ∷ []);
      variables_are = natural_is (token_value a) v f;
      clauses_are = natural_is (token_value b) c g;
    }))
four_tokens n t u a b false e none = refl

no_header : (n : ℕ) (t : List ℕ) (ts : List (List ℕ)) → ((v c : ℕ) → IsHeader (t ∷ ts) v c → ⊥) →
    header_says n (t ∷ ts) ≡ Err (BadHeader n)
unfolding header_says
no_header n t [] none = refl
no_header n t (u ∷ []) none = refl
no_header n t (u ∷ a ∷ []) none = refl
no_header n t (u ∷ a ∷ b ∷ []) none = four_tokens n t u a b _ refl none
no_header n t (u ∷ a ∷ b ∷ d ∷ ts) none = refl

bad_header : (n : ℕ) (ms : List ListLine) (gs : List Given) (k : SavedSaid) (t : List ℕ) (ts : List (List ℕ)) →
    list_begins t 112 ≡ true → ((v c : ℕ) → IsHeader (t ∷ ts) v c → ⊥) →
    line_says n (said_above ms gs k) (t ∷ ts) ≡ Err (BadHeader n)
unfolding line_says
bad_header n ms gs k t ts h none =
    cond-false (list_begins t 99) _ _ (begins_only t 112 99 refl h)
    ∙ cond-true (list_begins t 112) _ _ h
    ∙ ap (and_then (λ w. Ok (with_below (said_above ms gs k) w))) (no_header n t ts none)

-- a header, by its numbers
header_line_is : (n v c : ℕ) (ms : List ListLine) (gs : List Given) (k : SavedSaid) (ts : List (List ℕ)) (x : Result Below TextRefused) →
    IsHeader ts v c → header_of n (Some v) (Some c) ≡ x →
    line_says n (said_above ms gs k) ts ≡ and_then (λ w. Ok (with_below (said_above ms gs k) w)) x
unfolding line_says header_says
header_line_is n v c ms gs k ts x h e =
    ap (line_says n (said_above ms gs k)) h.tokens
    ∙ (λ i. and_then (λ w. Ok (with_below (said_above ms gs k) w)) (header_of n (natural (h.variables_are i)) (natural (h.clauses_are i))))
    ∙ ap (and_then (λ w. Ok (with_below (said_above ms gs k) w))) e

header_numbers_fit : (n v c : ℕ) → v ≤ most_variables → c ≤ most_clauses →
    header_of n (Some v) (Some c) ≡ Ok (record { variables = v; said = c; clauses = []; open_clause = [] })
header_numbers_fit n v c le small =
    cond-true (nat_le v most_variables) _ _ (le-leb v most_variables le)
    ∙ cond-true (nat_le c most_clauses) _ _ (le-leb c most_clauses small)

too_many_variables : (n v c : ℕ) → most_variables < v → header_of n (Some v) (Some c) ≡ Err (TooManyVariables n)
too_many_variables n v c h = cond-false (nat_le v most_variables) _ _ (lt-leb v most_variables h)

too_many_clauses : (n v c : ℕ) → v ≤ most_variables → most_clauses < c → header_of n (Some v) (Some c) ≡ Err (TooManyClauses n)
too_many_clauses n v c le h =
    cond-true (nat_le v most_variables) _ _ (le-leb v most_variables le)
    ∙ cond-false (nat_le c most_clauses) _ _ (lt-leb c most_clauses h)

bad_start : (n : ℕ) (ms : List ListLine) (gs : List Given) (k : SavedSaid) (t : List ℕ) (ts : List (List ℕ)) →
    list_begins t 99 ≡ false → list_begins t 112 ≡ false →
    line_says n (said_above ms gs k) (t ∷ ts) ≡ Err (BadStart n)
unfolding line_says
bad_start n ms gs k t ts c p = cond-false (list_begins t 99) _ _ c ∙ cond-false (list_begins t 112) _ _ p

pub above_refused : LinesAboveTheHeaderAreRefused
above_refused = record {
  start = bad_start;
  header = bad_header;
  variables = λ n v c ms gs k ts h lt. header_line_is n v c ms gs k ts (Err (TooManyVariables n)) h (too_many_variables n v c lt);
  clauses = λ n v c ms gs k ts h le lt. header_line_is n v c ms gs k ts (Err (TooManyClauses n)) h (too_many_clauses n v c le lt);
  accepted = λ n v c ms gs k ts h le small. header_line_is n v c ms gs k ts _ h (header_numbers_fit n v c le small);
}

-- ---- lines of numbers

second_header : (n : ℕ) (w : Below) (ms : List ListLine) (gs : List Given) (k : SavedSaid) (t : List ℕ) (ts : List (List ℕ)) →
    list_begins t 112 ≡ true → line_says n (said_below w ms gs k) (t ∷ ts) ≡ Err (HeaderTwice n)
unfolding line_says
second_header n w ms gs k t ts h =
    cond-false (list_begins t 99) _ _ (begins_only t 112 99 refl h)
    ∙ ap (λ b. needs (not b) (HeaderTwice n) (cond (list_begins t 37) (Ok (record (said_below w ms gs k) { over = true })) (and_then (λ v. Ok (with_below (said_below w ms gs k) v)) (numbers_say n w (map token_value (t ∷ ts)))))) h

first_refused : (n : ℕ) (w v : Below) (ms : List ListLine) (gs : List Given) (k : SavedSaid) (t : List ℕ) (ts : List (List ℕ))
    (os ps : List (Option ℤ)) (o : Option ℤ) (r : TextRefused) → BeginsNumbers t →
    map token_value (t ∷ ts) ≡ os ++ o ∷ ps → numbers_say n w os ≡ Ok v → number_says n v o ≡ Err r →
    line_says n (said_below w ms gs k) (t ∷ ts) ≡ Err r
unfolding line_says
first_refused n w v ms gs k t ts os ps o r h e ok bad =
    let s : Said = said_below w ms gs k in
    cond-false (list_begins t 99) _ _ h.no_comment
    ∙ (λ i. needs (not (h.no_header i)) (HeaderTwice n) (cond (h.no_end i) (Ok (record s { over = true })) (and_then (λ u. Ok (with_below s u)) (numbers_say n w (e i)))))
    ∙ ap (and_then (λ u. Ok (with_below s u))) (first_number n w v os ps o r ok bad)

some_size : (l : ℤ) → 0 < nat_abs l → eqb (nat_abs l) 0 ≡ false
some_size l h = grind (arith, nat_tests)

pub below_refused : LinesBelowTheHeaderAreRefused
below_refused = record {
  twice = second_header;
  first = first_refused;
  none = λ n w. refl;
  zero = λ n w h. cond-false (nat_lt (length w.clauses) most_clauses) _ _ (le-ltb (length w.clauses) most_clauses h);
  large = λ n w l h. cond-false (eqb (nat_abs l) 0) _ _ (some_size l (omega (arith, h))) ∙ cond-false (nat_le (nat_abs l) w.variables) _ _ (lt-leb (nat_abs l) w.variables h);
  literal = λ n w l some le h. cond-false (eqb (nat_abs l) 0) _ _ (some_size l some) ∙ cond-true (nat_le (nat_abs l) w.variables) _ _ (le-leb (nat_abs l) w.variables le) ∙ cond-false (nat_lt (literals_of w) most_literals) _ _ (le-ltb (literals_of w) most_literals h);
}

-- ---- lists

module _ (p : ℤ → Bool) (bad unended : TextRefused) where
  abbrev list : List (Option ℤ) → Result (List ℤ) TextRefused
  list os = list_says p bad unended os

  abbrev with_values : List ℤ → Result (List ℤ) TextRefused → Result (List ℤ) TextRefused
  with_values ls x = and_then (λ ks. Ok (ls ++ ks)) x

  nothing_more : (x : Result (List ℤ) TextRefused) → x ≡ with_values [] x
  nothing_more (Ok ls) = refl
  nothing_more (Err r) = refl

  one_more : (l : ℤ) (ls : List ℤ) (x : Result (List ℤ) TextRefused) →
      and_then (λ ks. Ok (l ∷ ks)) (with_values ls x) ≡ with_values (l ∷ ls) x
  one_more l ls (Ok ks) = refl
  one_more l ls (Err r) = refl

  behind_values : (ls : List ℤ) (os : List (Option ℤ)) → All (IsHeld p) ls → list (values ls ++ os) ≡ with_values ls (list os)
  behind_values [] os h = nothing_more (list os)
  behind_values (l ∷ ls) os h =
      let here : IsHeld p l = All-head (IsHeld p) l ls h in
      cond-false (eqb (nat_abs l) 0) _ _ (some_size l here.0)
      ∙ cond-true (p l) _ _ here.1
      ∙ ap (and_then (λ ks. Ok (l ∷ ks))) (behind_values ls os (All-tail (IsHeld p) l ls h))
      ∙ one_more l ls (list os)

  barred_value : (o : Option ℤ) (ps : List (Option ℤ)) → is_barred p o ≡ true → list (o ∷ ps) ≡ Err bad
  barred_value None ps h = refl
  barred_value (Some l) ps h = at (eqb (nat_abs l) 0) (p l) h
    where
      at : (z m : Bool) → cond z false (not m) ≡ true →
          cond z (needs (is_nil ps) bad (Ok [])) (needs m bad (and_then (λ ls. Ok (l ∷ ls)) (list_says p bad unended ps))) ≡ Err bad
      at true m h = absurd (cc)
      at false true h = absurd (cc)
      at false false h = refl

  refused_behind : (ls : List ℤ) (os : List (Option ℤ)) (r : TextRefused) → All (IsHeld p) ls → list os ≡ Err r → list (values ls ++ os) ≡ Err r
  refused_behind ls os r h e = behind_values ls os h ∙ ap (with_values ls) e

  accepted_behind : (ls : List ℤ) → All (IsHeld p) ls → list (values ls ++ Some (pos 0) ∷ []) ≡ Ok ls
  accepted_behind ls h = behind_values ls (Some (pos 0) ∷ []) h ∙ ap (λ ks. Ok ks) (append-nil ls)

  unended_list : (ls : List ℤ) → All (IsHeld p) ls → list (values ls) ≡ Err unended
  unended_list ls h = ap list (sym (append-nil (values ls))) ∙ refused_behind ls [] unended h refl

pub lists_refused : ListsAreRefused
lists_refused = record {
  barred = λ p bad unended ls o ps h b. refused_behind p bad unended ls (o ∷ ps) bad h (barred_value p bad unended o ps b);
  behind = λ p bad unended ls o ps h. refused_behind p bad unended ls (Some (pos 0) ∷ o ∷ ps) bad h refl;
  unended = unended_list;
  accepted = accepted_behind;
}

-- ---- under lines

under_given : (n : ℕ) (s : Said) (ts : List (List ℕ)) (x : Result (List ℤ) TextRefused) → s.over ≡ false →
    list_says is_literal (UnderBad n) (UnderUnended n) (map token_value ts) ≡ x →
    line_says n s (words_of (codes "under") ++ ts) ≡ and_then (λ m. Ok (with_given s m)) (in_line n x)
unfolding line_says
under_given n s ts x going e =
    ap (λ b. cond b (Ok s) (comment_says n s (words_of (codes "under") ++ ts))) going
    ∙ ap (λ y. and_then (λ m. Ok (with_given s m)) (in_line n y)) e

pub under_lists : UnderLinesAreLists
under_lists = record {
  given = λ n o ms gs k ts ls e. under_given n (record { below = o; shows = ms; given = gs; saved = k; over = false }) ts (Ok ls) refl e;
  refused = λ n o ms gs k ts r e. under_given n (record { below = o; shows = ms; given = gs; saved = k; over = false }) ts (Err r) refl e;
}

-- ---- the lines of a saved text's own

and_false : (b : Bool) → (b && false) ≡ false
and_false true = refl
and_false false = refl

-- a comment line of a saved text that names neither a text nor a list of another kind
own_line : (n : ℕ) (s : Said) (v : List (List ℕ)) (x y : Result SavedSaid TextRefused) → x ≡ y →
    and_then (λ k. Ok (with_saved s k)) (cond (eqb n 1 && false) (needs (is_met_version v) (SavedBad n) (Ok (record s.saved { met = true }))) (cond (eqb n 1 && false) (needs (is_version v) (SavedBad n) (Ok (record s.saved { named = true }))) x)) ≡
    and_then (λ k. Ok (with_saved s k)) y
own_line n s v x y e =
    ap (λ b. and_then (λ k. Ok (with_saved s k)) (cond b (needs (is_met_version v) (SavedBad n) (Ok (record s.saved { met = true }))) (cond b (needs (is_version v) (SavedBad n) (Ok (record s.saved { named = true }))) x))) (and_false (eqb n 1))
    ∙ ap (and_then (λ k. Ok (with_saved s k))) e

list_line : (n : ℕ) (o : Option Below) (ms : List ListLine) (gs : List Given) (k : SavedSaid) (list : SavedList) (ts : List (List ℕ)) →
    rising_says n (map token_value ts) ≡ Err (SavedBad n) →
    line_says n (said_saved o ms gs k false) (words_of (word_of list) ++ ts) ≡ Err (SavedBad n)
unfolding line_says
list_line n o ms gs k Cubes ts e =
    own_line n (said_saved o ms gs k false) ts _ (Err (SavedBad n)) (ap (and_then (λ ls. Ok (with_line Cubes (record k { named = true; ended = false }) (record { line = n; cube = ls })))) e)
list_line n o ms gs k Pending ts e =
    own_line n (said_saved o ms gs k false) ts _ (Err (SavedBad n)) (ap (and_then (λ ls. Ok (with_line Pending (record k { named = true; ended = false }) (record { line = n; cube = ls })))) e)

list_after : (n : ℕ) (o : Option Below) (ms : List ListLine) (gs : List Given) (k : SavedSaid) (list : SavedList) (ts : List (List ℕ)) →
    line_says n (said_saved o ms gs k true) (words_of (word_of list) ++ ts) ≡ Err (SavedBad n)
unfolding line_says
list_after n o ms gs k Cubes ts = own_line n (said_saved o ms gs k true) ts _ (Err (SavedBad n)) refl
list_after n o ms gs k Pending ts = own_line n (said_saved o ms gs k true) ts _ (Err (SavedBad n)) refl

end_after : (n : ℕ) (o : Option Below) (ms : List ListLine) (gs : List Given) (k : SavedSaid) (ts : List (List ℕ)) →
    line_says n (said_saved o ms gs k true) (words_of (codes "end") ++ ts) ≡ Err (SavedBad n)
unfolding line_says
end_after n o ms gs k ts = own_line n (said_saved o ms gs k true) ts _ (Err (SavedBad n)) refl

end_with_more : (n : ℕ) (o : Option Below) (ms : List ListLine) (gs : List Given) (k : SavedSaid) (t : List ℕ) (ts : List (List ℕ)) →
    line_says n (said_saved o ms gs k false) (words_of (codes "end") ++ t ∷ ts) ≡ Err (SavedBad n)
unfolding line_says
end_with_more n o ms gs k t ts = own_line n (said_saved o ms gs k false) (t ∷ ts) _ (Err (SavedBad n)) refl

other_version : (s : Said) (ts : List (List ℕ)) → s.over ≡ false → is_version ts ≡ false →
    line_says 1 s (own_words (codes "saved") ++ ts) ≡ Err (SavedBad 1)
unfolding line_says
other_version s ts going e =
    ap (λ b. cond b (Ok s) (comment_says 1 s (own_words (codes "saved") ++ ts))) going
    ∙ ap (λ b. and_then (λ k. Ok (with_saved s k)) (needs b (SavedBad 1) (Ok (record s.saved { named = true })))) e

-- ---- the lines of a met text's own

module _ (n : ℕ) (o : Option Below) (ms : List ListLine) (gs : List Given) (k : SavedSaid) (ts : List (List ℕ)) where
  abbrev met_so_far : SavedSaid
  met_so_far = record k { met = true; ended = false }

  abbrev held : List (Option ℤ)
  held = map token_value ts

  first_list : (r : TextRefused) → rising_says n (up_to_zero held) ≡ Err r →
      line_says n (said_met o ms gs k false) (words_of (codes "met") ++ ts) ≡ Err r
  unfolding line_says
  first_list r e = own_line n (said_met o ms gs k false) ts _ (Err r) (ap (and_then (hidden_says n met_so_far (behind_zero held))) e)

  second_list : (ls : List ℤ) (r : TextRefused) → rising_says n (up_to_zero held) ≡ Ok ls → rising_says n (behind_zero held) ≡ Err r →
      line_says n (said_met o ms gs k false) (words_of (codes "met") ++ ts) ≡ Err r
  unfolding line_says
  second_list ls r e f =
      own_line n (said_met o ms gs k false) ts _ (Err r)
      (ap (and_then (hidden_says n met_so_far (behind_zero held))) e
      ∙ ap (and_then (λ hs. Ok (with_met met_so_far (record { line = n; met = record { cube = ls; hidden = hs } })))) f)

  met_behind : line_says n (said_met o ms gs k true) (words_of (codes "met") ++ ts) ≡ Err (SavedBad n)
  unfolding line_says
  met_behind = own_line n (said_met o ms gs k true) ts _ (Err (SavedBad n)) refl

  or_true : (b : Bool) → (b || true) ≡ true
  or_true true = refl
  or_true false = refl

  met_end_behind : line_says n (said_met o ms gs k true) (words_of (codes "end") ++ ts) ≡ Err (SavedBad n)
  unfolding line_says
  met_end_behind =
      let before : SavedSaid = record k { met = true; ended = true } in
      own_line n (said_met o ms gs k true) ts _ (Err (SavedBad n))
      (ap (λ b. cond b (needs false (SavedBad n) (last_says n before ts)) (Ok before)) (or_true k.named))

other_met_version : (s : Said) (ts : List (List ℕ)) → s.over ≡ false → is_met_version ts ≡ false →
    line_says 1 s (own_words (codes "met") ++ ts) ≡ Err (SavedBad 1)
unfolding line_says
other_met_version s ts going e =
    ap (λ b. cond b (Ok s) (comment_says 1 s (own_words (codes "met") ++ ts))) going
    ∙ ap (λ b. and_then (λ k. Ok (with_saved s k)) (needs b (SavedBad 1) (Ok (record s.saved { met = true })))) e

pub met_refused : MetLinesAreRefused
met_refused = record {
  cube = first_list;
  hidden = second_list;
  behind = met_behind;
  end_behind = met_end_behind;
  version = other_met_version;
}

pub saved_refused : SavedLinesAreRefused
saved_refused = record {
  list = λ n o ms gs k list ts e. list_line n o ms gs k list ts (ap (and_then (λ ls. needs (rises_above 0 ls) (SavedBad n) (Ok ls))) e);
  falls = λ n o ms gs k list ts ls e f. list_line n o ms gs k list ts (ap (and_then (λ ls. needs (rises_above 0 ls) (SavedBad n) (Ok ls))) e ∙ cond-false (rises_above 0 ls) _ _ f);
  end_line = end_with_more;
  list_behind = list_after;
  end_behind = end_after;
  version = other_version;
}
