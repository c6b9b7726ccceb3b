-- Which lines are refused, and why: for each refusal of a line the lines that get it.
use Rattle.std.specs.Prelude.{◌≡◌, ℕ, ◌<◌, ◌≤◌, ℤ, pos, nat_abs, Bool, true, false, not, cond, ◌==◌, List, [], ◌∷◌, ◌++◌, length, map, Option, Some, None, Ok, Err, codes}
use Rattle.std.specs.List.{All}
use Rattle.dimacs_tokens.specs.Numbers.{token_value}
use Rattle.dimacs_tokens.specs.Seen.{list_begins}
use Rattle.sat_terms.specs.Cubes.{rises_above}
use Rattle.dimacs_front.specs.declared.under_lines.Given.{Given}
use Rattle.dimacs_front.specs.declared.saved_lines.SavedList.{SavedList}
use Rattle.dimacs_front.specs.declared.saved_lines.SavedList.TheVariants.{Cubes, Pending}
use Rattle.dimacs_front.specs.declared.refused.TextRefused.{TextRefused}
use Rattle.dimacs_front.specs.declared.refused.TextRefused.TheVariants.{BadStart, BadHeader, HeaderTwice, BadNumber, VariableTooLarge, TooManyVariables, TooManyClauses, TooManyLiterals, UnderBad, UnderUnended, SavedBad}
use Rattle.dimacs_front.specs.Limits.{most_variables, most_clauses, most_literals}
use Rattle.dimacs_front.specs.HeaderLines.{Below}
use Rattle.dimacs_front.specs.NumberLines.{literals_of, number_says, numbers_say}
use Rattle.dimacs_front.specs.ListLines.{ListLine, list_says, is_literal}
use Rattle.dimacs_front.specs.LineWords.{words_of, own_words}
use Rattle.dimacs_front.specs.SavedTexts.{SavedSaid, is_version, is_met_version, rising_says, up_to_zero, behind_zero}
use Rattle.dimacs_front.specs.TextLines.{Said, line_says}

-- what is said above the header, and below it
abbrev pub said_above : List ListLine → List Given → SavedSaid → Said
said_above ms gs k = record { below = None; shows = ms; given = gs; saved = k; over = false }

abbrev pub said_below : Below → List ListLine → List Given → SavedSaid → Said
said_below w ms gs k = record { below = Some w; shows = ms; given = gs; saved = k; over = false }

-- ---- the header

-- these tokens are a header with these numbers of variables and of clauses
pub record IsHeader (ts : List (List ℕ)) (v c : ℕ) : Type 0 where
  pub variables : List ℕ
  pub clauses : List ℕ
  pub tokens : ts ≡ codes "p" ∷ codes "cnf" ∷ variables ∷ clauses ∷ []
  pub variables_are : token_value variables ≡ Some (pos v)
  pub clauses_are : token_value clauses ≡ Some (pos c)

-- Above the header a line is refused that begins neither with `c` (99) nor with `p` (112), one that
-- begins with `p` and is no header, and a header whose numbers are too large; else the header says
-- its numbers.
pub record LinesAboveTheHeaderAreRefused : Type 0 where
  pub start : (n : ℕ) (ms : List ListLine) (gs : List Given) (k : SavedSaid) (t : List ℕ)
      (ts : List (List ℕ)) → list_begins t 99 ≡ false → list_begins t 112 ≡ false →
      line_says n (said_above ms gs k) (t ∷ ts) ≡ Err (BadStart n)
  pub header : (n : ℕ) (ms : List ListLine) (gs : List Given) (k : SavedSaid) (t : List ℕ)
      (ts : List (List ℕ)) → list_begins t 112 ≡ true →
      ((v c : ℕ) → IsHeader (t ∷ ts) v c → ⊥) →
      line_says n (said_above ms gs k) (t ∷ ts) ≡ Err (BadHeader n)
  pub variables : (n v c : ℕ) (ms : List ListLine) (gs : List Given) (k : SavedSaid)
      (ts : List (List ℕ)) → IsHeader ts v c → most_variables < v →
      line_says n (said_above ms gs k) ts ≡ Err (TooManyVariables n)
  pub clauses : (n v c : ℕ) (ms : List ListLine) (gs : List Given) (k : SavedSaid)
      (ts : List (List ℕ)) → IsHeader ts v c → v ≤ most_variables → most_clauses < c →
      line_says n (said_above ms gs k) ts ≡ Err (TooManyClauses n)
  pub accepted : (n v c : ℕ) (ms : List ListLine) (gs : List Given) (k : SavedSaid)
      (ts : List (List ℕ)) → IsHeader ts v c → v ≤ most_variables → c ≤ most_clauses →
      line_says n (said_above ms gs k) ts ≡
      Ok (said_below (record { variables = v; said = c; clauses = []; open_clause = [] }) ms gs k)

-- ---- lines of numbers

-- the first byte is none of `c` (99), `p` (112) and `%` (37)
pub record BeginsNumbers (t : List ℕ) : Type 0 where
  pub no_comment : list_begins t 99 ≡ false
  pub no_header : list_begins t 112 ≡ false
  pub no_end : list_begins t 37 ≡ false

-- Below the header a second header is refused, and of the numbers the first one that is none, that
-- ends one clause too many, whose variable is above the header's, or that is one literal too many.
pub record LinesBelowTheHeaderAreRefused : Type 0 where
  pub twice : (n : ℕ) (w : Below) (ms : List ListLine) (gs : List Given) (k : SavedSaid)
      (t : List ℕ) (ts : List (List ℕ)) → list_begins t 112 ≡ true →
      line_says n (said_below w ms gs k) (t ∷ ts) ≡ Err (HeaderTwice n)
  pub first : (n : ℕ) (w v : Below) (ms : List ListLine) (gs : List Given) (k : SavedSaid)
      (t : List ℕ) (ts : List (List ℕ)) (os ps : List (Option ℤ)) (o : Option ℤ)
      (r : TextRefused) → BeginsNumbers t → map token_value (t ∷ ts) ≡ os ++ o ∷ ps →
      numbers_say n w os ≡ Ok v → number_says n v o ≡ Err r →
      line_says n (said_below w ms gs k) (t ∷ ts) ≡ Err r
  pub none : (n : ℕ) (w : Below) → number_says n w None ≡ Err (BadNumber n)
  pub zero : (n : ℕ) (w : Below) → most_clauses ≤ length w.clauses →
      number_says n w (Some (pos 0)) ≡ Err (TooManyClauses n)
  pub large : (n : ℕ) (w : Below) (l : ℤ) → w.variables < nat_abs l →
      number_says n w (Some l) ≡ Err (VariableTooLarge n)
  pub literal : (n : ℕ) (w : Below) (l : ℤ) → 0 < nat_abs l → nat_abs l ≤ w.variables →
      most_literals ≤ literals_of w → number_says n w (Some l) ≡ Err (TooManyLiterals n)

-- ---- lists that a 0 ends

-- a value that the line may hold before its 0
abbrev pub IsHeld : (ℤ → Bool) → ℤ → Type 0
IsHeld may_hold l = (0 < nat_abs l) × (may_hold l ≡ true)

abbrev pub values : List ℤ → List (Option ℤ)
values ls = map (λ l. Some l) ls

-- a value that it may not: no number, or one that is no 0 and not allowed
abbrev pub is_barred : (ℤ → Bool) → Option ℤ → Bool
is_barred may_hold None = true
is_barred may_hold (Some l) = cond (nat_abs l == 0) false (not (may_hold l))

-- A list of numbers is refused for the first value that the line may not hold and for a token
-- behind its 0, whatever follows, and for want of a 0; else it holds the values before its 0.
pub record ListsAreRefused : Type 0 where
  pub barred : (may_hold : ℤ → Bool) (bad unended : TextRefused) (ls : List ℤ)
      (o : Option ℤ) (ps : List (Option ℤ)) → All (IsHeld may_hold) ls →
      is_barred may_hold o ≡ true →
      list_says may_hold bad unended (values ls ++ o ∷ ps) ≡ Err bad
  pub behind : (may_hold : ℤ → Bool) (bad unended : TextRefused) (ls : List ℤ)
      (o : Option ℤ) (ps : List (Option ℤ)) → All (IsHeld may_hold) ls →
      list_says may_hold bad unended (values ls ++ Some (pos 0) ∷ o ∷ ps) ≡ Err bad
  pub unended : (may_hold : ℤ → Bool) (bad unended : TextRefused) (ls : List ℤ) →
      All (IsHeld may_hold) ls → list_says may_hold bad unended (values ls) ≡ Err unended
  pub accepted : (may_hold : ℤ → Bool) (bad unended : TextRefused) (ls : List ℤ) →
      All (IsHeld may_hold) ls →
      list_says may_hold bad unended (values ls ++ Some (pos 0) ∷ []) ≡ Ok ls

-- ---- under lines

-- An under line gives the literals of its list, above the header and below, and is refused with
-- its list.
pub record UnderLinesAreLists : Type 0 where
  pub given : (n : ℕ) (o : Option Below) (ms : List ListLine) (gs : List Given) (k : SavedSaid)
      (ts : List (List ℕ)) (ls : List ℤ) →
      list_says is_literal (UnderBad n) (UnderUnended n) (map token_value ts) ≡ Ok ls →
      line_says n (record { below = o; shows = ms; given = gs; saved = k; over = false })
      (words_of (codes "under") ++ ts) ≡
      Ok (record {
        below = o;
        shows = ms;
        given = gs ++ map (λ l. record { literal = l; line = n }) ls;
        saved = k;
        over = false;
      })
  pub refused : (n : ℕ) (o : Option Below) (ms : List ListLine) (gs : List Given) (k : SavedSaid)
      (ts : List (List ℕ)) (r : TextRefused) →
      list_says is_literal (UnderBad n) (UnderUnended n) (map token_value ts) ≡ Err r →
      line_says n (record { below = o; shows = ms; given = gs; saved = k; over = false })
      (words_of (codes "under") ++ ts) ≡ Err r

-- ---- the lines of a saved text's own

abbrev pub word_of : SavedList → List ℕ
word_of Cubes = codes "cube"
word_of Pending = codes "open"

-- in a saved text, whose end line did not stand yet, or did
abbrev pub said_saved : Option Below → List ListLine → List Given → SavedSaid →
    Bool → Said
said_saved o ms gs k ended = record {
  below = o;
  shows = ms;
  given = gs;
  saved = record k { named = true; ended = ended };
  over = false;
}

-- and in a met text
abbrev pub said_met : Option Below → List ListLine → List Given → SavedSaid → Bool → Said
said_met o ms gs k ended = record {
  below = o;
  shows = ms;
  given = gs;
  saved = record k { met = true; ended = ended };
  over = false;
}

-- In a saved text a cube line and an open line are refused with their lists, and where the
-- variables do not rise; an end line where a token follows; and each of these behind the end line.
-- Its first line is refused where the version is none that is known.
pub record SavedLinesAreRefused : Type 0 where
  pub list : (n : ℕ) (o : Option Below) (ms : List ListLine) (gs : List Given) (k : SavedSaid)
      (list : SavedList) (ts : List (List ℕ)) →
      list_says is_literal (SavedBad n) (SavedBad n) (map token_value ts) ≡ Err (SavedBad n) →
      line_says n (said_saved o ms gs k false) (words_of (word_of list) ++ ts) ≡ Err (SavedBad n)
  pub falls : (n : ℕ) (o : Option Below) (ms : List ListLine) (gs : List Given) (k : SavedSaid)
      (list : SavedList) (ts : List (List ℕ)) (ls : List ℤ) →
      list_says is_literal (SavedBad n) (SavedBad n) (map token_value ts) ≡ Ok ls →
      rises_above 0 ls ≡ false →
      line_says n (said_saved o ms gs k false) (words_of (word_of list) ++ ts) ≡ Err (SavedBad n)
  pub end_line : (n : ℕ) (o : Option Below) (ms : List ListLine) (gs : List Given) (k : SavedSaid)
      (t : List ℕ) (ts : List (List ℕ)) →
      line_says n (said_saved o ms gs k false) (words_of (codes "end") ++ t ∷ ts) ≡
      Err (SavedBad n)
  pub list_behind : (n : ℕ) (o : Option Below) (ms : List ListLine) (gs : List Given)
      (k : SavedSaid) (list : SavedList) (ts : List (List ℕ)) →
      line_says n (said_saved o ms gs k true) (words_of (word_of list) ++ ts) ≡ Err (SavedBad n)
  pub end_behind : (n : ℕ) (o : Option Below) (ms : List ListLine) (gs : List Given)
      (k : SavedSaid) (ts : List (List ℕ)) →
      line_says n (said_saved o ms gs k true) (words_of (codes "end") ++ ts) ≡ Err (SavedBad n)
  pub version : (s : Said) (ts : List (List ℕ)) → s.over ≡ false →
      is_version ts ≡ false →
      line_says 1 s (own_words (codes "saved") ++ ts) ≡ Err (SavedBad 1)

-- In a met text a met line is refused with the first of its lists, and else with the second; and
-- each met line, and an end line, behind the end line. Its first line is refused where the version
-- is not 1.
pub record MetLinesAreRefused : Type 0 where
  pub cube : (n : ℕ) (o : Option Below) (ms : List ListLine) (gs : List Given) (k : SavedSaid)
      (ts : List (List ℕ)) (r : TextRefused) →
      rising_says n (up_to_zero (map token_value ts)) ≡ Err r →
      line_says n (said_met o ms gs k false) (words_of (codes "met") ++ ts) ≡ Err r
  pub hidden : (n : ℕ) (o : Option Below) (ms : List ListLine) (gs : List Given) (k : SavedSaid)
      (ts : List (List ℕ)) (ls : List ℤ) (r : TextRefused) →
      rising_says n (up_to_zero (map token_value ts)) ≡ Ok ls →
      rising_says n (behind_zero (map token_value ts)) ≡ Err r →
      line_says n (said_met o ms gs k false) (words_of (codes "met") ++ ts) ≡ Err r
  pub behind : (n : ℕ) (o : Option Below) (ms : List ListLine) (gs : List Given) (k : SavedSaid)
      (ts : List (List ℕ)) →
      line_says n (said_met o ms gs k true) (words_of (codes "met") ++ ts) ≡ Err (SavedBad n)
  pub end_behind : (n : ℕ) (o : Option Below) (ms : List ListLine) (gs : List Given)
      (k : SavedSaid) (ts : List (List ℕ)) →
      line_says n (said_met o ms gs k true) (words_of (codes "end") ++ ts) ≡ Err (SavedBad n)
  pub version : (s : Said) (ts : List (List ℕ)) → s.over ≡ false →
      is_met_version ts ≡ false →
      line_says 1 s (own_words (codes "met") ++ ts) ≡ Err (SavedBad 1)
