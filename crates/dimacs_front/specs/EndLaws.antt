-- Which texts are refused at their end, and why, where no line of them is refused.
use Rattle.std.specs.Prelude.{◌≡◌, ℕ, ◌<◌, ◌≤◌, ◌⊎◌, ℤ, nat_abs, true, false, ◌||◌, List, [], ◌∷◌, ◌++◌, length, map, None, Err, Some}
use Rattle.std.specs.Prelude.{neg_ℤ}
use Rattle.std.specs.List.{All}
use Rattle.sat_terms.specs.Cubes.{is_among, has_literal}
use Rattle.dimacs_front.specs.declared.under_lines.Given.{Given}
use Rattle.dimacs_front.specs.declared.refused.TextRefused.TheVariants.{NoHeader, Unfinished, ClauseCount, ShowBad, TooManyShown, UnderBad, SavedBad, SavedUnended}
use Rattle.dimacs_front.specs.Limits.{most_shown}
use Rattle.dimacs_front.specs.HeaderLines.{Below}
use Rattle.dimacs_front.specs.ListLines.{ListLine}
use Rattle.dimacs_front.specs.SavedTexts.{SavedSaid}
use Rattle.dimacs_front.specs.TextLines.{Said}
use Rattle.dimacs_front.specs.TextEnds.{shown_of, first_misplaced, under_of, lowest_outside, first_unmet, end_says, below_says}

-- each clause has its 0, a saved text and a met text have their end line, and there are as many
-- clauses as said
pub record IsComplete (w : Below) (k : SavedSaid) : Type 0 where
  pub closed : w.open_clause ≡ []
  pub ended : (k.named || k.met) ≡ true → k.ended ≡ true
  pub counted : length w.clauses ≡ w.said

-- no variable of the line is above v
abbrev pub IsUpTo : ℕ → ListLine → Type 0
IsUpTo v m = All (λ l. nat_abs l ≤ v) m.values

-- each literal is of a shown variable, and its negation is not given before it
abbrev pub ArePlaced : List ℕ → List Given → Type 0
ArePlaced vs gs = first_misplaced vs [] gs ≡ None

-- the literal is of no shown variable, or its negation is given before it
abbrev pub IsMisplaced : List ℕ → List Given → Given → Type 0
IsMisplaced vs before g =
    (is_among vs (nat_abs g.literal) ≡ false)
    ⊎ (has_literal (map (λ h. Given.literal h) before) (neg_ℤ g.literal) ≡ true)

-- A text without a header is refused, with a clause that has no 0, a saved or a met one without its
-- end line, with another number of clauses than was said, for the first show line with a variable
-- above the header's, for too many shown variables, for the first given literal that is misplaced,
-- for the lowest line whose cube cannot be saved, and for the first met line that shows no cube: in
-- this order.
pub record TextsAreRefusedAtTheEnd : Type 0 where
  pub no_header : (n : ℕ) (s : Said) → end_says n s None ≡ Err (NoHeader n)
  pub unfinished : (n : ℕ) (w : Below) (ms : List ListLine) (gs : List Given) (k : SavedSaid)
      (l : ℤ) (ls : List ℤ) → w.open_clause ≡ l ∷ ls →
      below_says n w ms gs k ≡ Err (Unfinished n)
  pub unended : (n : ℕ) (w : Below) (ms : List ListLine) (gs : List Given) (k : SavedSaid) →
      w.open_clause ≡ [] → (k.named || k.met) ≡ true → k.ended ≡ false →
      below_says n w ms gs k ≡ Err (SavedUnended n)
  pub count : (n : ℕ) (w : Below) (ms : List ListLine) (gs : List Given) (k : SavedSaid) →
      w.open_clause ≡ [] → ((k.named || k.met) ≡ true → k.ended ≡ true) →
      (length w.clauses ≡ w.said → ⊥) →
      below_says n w ms gs k ≡ Err (ClauseCount n w.said (length w.clauses))
  pub show : (n : ℕ) (w : Below) (before after : List ListLine) (m : ListLine) (gs : List Given)
      (k : SavedSaid) → IsComplete w k → All (IsUpTo w.variables) before →
      (IsUpTo w.variables m → ⊥) →
      below_says n w (before ++ m ∷ after) gs k ≡ Err (ShowBad m.line)
  pub shown : (n : ℕ) (w : Below) (ms : List ListLine) (gs : List Given) (k : SavedSaid) →
      IsComplete w k → All (IsUpTo w.variables) ms → most_shown < length (shown_of w ms) →
      below_says n w ms gs k ≡ Err (TooManyShown n)
  pub under : (n : ℕ) (w : Below) (ms : List ListLine) (before after : List Given) (g : Given)
      (k : SavedSaid) → IsComplete w k → All (IsUpTo w.variables) ms →
      length (shown_of w ms) ≤ most_shown → ArePlaced (shown_of w ms) before →
      IsMisplaced (shown_of w ms) before g →
      below_says n w ms (before ++ g ∷ after) k ≡ Err (UnderBad g.line)
  pub saved : (n line : ℕ) (w : Below) (ms : List ListLine) (gs : List Given) (k : SavedSaid) →
      IsComplete w k → All (IsUpTo w.variables) ms → length (shown_of w ms) ≤ most_shown →
      ArePlaced (shown_of w ms) gs →
      lowest_outside (shown_of w ms) (under_of gs (shown_of w ms)) k ≡ Some line →
      below_says n w ms gs k ≡ Err (SavedBad line)
  pub met : (n line : ℕ) (w : Below) (ms : List ListLine) (gs : List Given) (k : SavedSaid) →
      IsComplete w k → All (IsUpTo w.variables) ms → length (shown_of w ms) ≤ most_shown →
      ArePlaced (shown_of w ms) gs →
      lowest_outside (shown_of w ms) (under_of gs (shown_of w ms)) k ≡ None →
      first_unmet w.variables (shown_of w ms) (under_of gs (shown_of w ms)) k.mets ≡ Some line →
      below_says n w ms gs k ≡ Err (SavedBad line)
