-- What a text says at its end, where no line of it is refused. Here n is the number of the last
-- line.
use Rattle.std.specs.Prelude.{ℕ, Bool, not, cond, ◌==◌, ◌&&◌, ◌||◌, nat_le, List, [], ◌∷◌, ◌++◌, length, map, flat_map, ℤ, pos, neg_ℤ, nat_abs, Option, Some, None, Result, Ok, Err}
use Rattle.std.specs.List.{list_any, list_all, filter, range_with_len}
use Rattle.dimacs_tokens.specs.Seen.{is_nil}
use Rattle.dimacs_front.specs.declared.refused.TextRefused.{TextRefused}
use Rattle.dimacs_front.specs.declared.refused.TextRefused.TheVariants.{NoHeader, Unfinished, ClauseCount, ShowBad, TooManyShown, UnderBad, SavedBad, SavedUnended}
use Rattle.sat_terms.specs.Cubes.{is_among, has_literal, within}
use Rattle.checkpoint.specs.declared.saved.Saved.{Saved}
use Rattle.dimacs_front.specs.declared.under_lines.Given.{Given}
use Rattle.cube_check.specs.declared.met.Met.{Met}
use Rattle.dimacs_front.specs.declared.met_lines.MetLine.{MetLine}
use Rattle.dimacs_front.specs.declared.saved_lines.SavedLine.{SavedLine}
use Rattle.dimacs_front.specs.declared.input.Input.{Input}
use Rattle.dimacs_front.specs.Limits.{most_shown}
use Rattle.dimacs_front.specs.Steps.{needs, unless}
use Rattle.dimacs_front.specs.HeaderLines.{Below}
use Rattle.dimacs_front.specs.ListLines.{ListLine}
use Rattle.dimacs_front.specs.SavedTexts.{SavedSaid}
use Rattle.dimacs_front.specs.TextLines.{Said}

-- a variable is shown where a show line holds it, and where there is no show line
abbrev pub is_shown : List ListLine → ℕ → Bool
is_shown ms v = is_nil ms || list_any (λ m. list_any (λ l. nat_abs l == v) m.values) ms

abbrev pub shown_of : Below → List ListLine → List ℕ
shown_of w ms = filter (is_shown ms) (range_with_len 1 w.variables)

-- the number of the first line that holds a variable above v
abbrev pub first_above : ℕ → List ListLine → Option ℕ
first_above v [] = None
first_above v (m ∷ ms) =
    cond (list_any (λ l. not (nat_le (nat_abs l) v)) m.values) (Some m.line) (first_above v ms)

-- a literal may be given under those before it where its variable is shown, and its negation does
-- not stand there
abbrev pub is_placed : List ℕ → List ℤ → ℤ → Bool
is_placed vs before l = is_among vs (nat_abs l) && not (has_literal before (neg_ℤ l))

-- the line of the first given literal that may not
abbrev pub first_misplaced : List ℕ → List ℤ → List Given → Option ℕ
first_misplaced vs before [] = None
first_misplaced vs before (g ∷ gs) =
    cond (is_placed vs before g.literal)
    (first_misplaced vs (before ++ g.literal ∷ []) gs)
    (Some g.line)

-- the cube of the given literals: for each shown variable its literal, if one is given
abbrev pub given_for : List ℤ → ℕ → List ℤ
given_for ls v =
    cond (has_literal ls (pos v)) (pos v ∷ [])
    (cond (has_literal ls (neg_ℤ (pos v))) (neg_ℤ (pos v) ∷ []) [])

abbrev pub under_of : List Given → List ℕ → List ℤ
under_of gs vs = flat_map (given_for (map (λ g. Given.literal g) gs)) vs

-- a cube can be saved where its variables are shown, and it has all given literals
abbrev pub is_saved_cube : List ℕ → List ℤ → List ℤ → Bool
is_saved_cube vs u c = list_all (λ l. is_among vs (nat_abs l)) c && within c u

-- the number of the first line whose cube cannot
abbrev pub first_outside : List ℕ → List ℤ → List SavedLine → Option ℕ
first_outside vs u [] = None
first_outside vs u (m ∷ ms) =
    cond (is_saved_cube vs u m.cube) (first_outside vs u ms) (Some m.line)

-- the lower one of two lines, where there are two
abbrev pub lower_line : Option ℕ → Option ℕ → Option ℕ
lower_line None o = o
lower_line (Some m) None = Some m
lower_line (Some m) (Some n) = Some (cond (nat_le m n) m n)

abbrev pub lowest_outside : List ℕ → List ℤ → SavedSaid → Option ℕ
lowest_outside vs u k = lower_line (first_outside vs u k.cubes) (first_outside vs u k.pending)

-- a met line shows a cube where its cube can be saved, and each of its hidden literals is of one of
-- the variables 1 to v that is not shown
abbrev pub is_hidden : ℕ → List ℕ → ℤ → Bool
is_hidden v vs l = nat_le (nat_abs l) v && not (is_among vs (nat_abs l))

abbrev pub is_met_line : ℕ → List ℕ → List ℤ → MetLine → Bool
is_met_line v vs u m = is_saved_cube vs u m.met.cube && list_all (is_hidden v vs) m.met.hidden

-- the number of the first line that does not
abbrev pub first_unmet : ℕ → List ℕ → List ℤ → List MetLine → Option ℕ
first_unmet v vs u [] = None
first_unmet v vs u (m ∷ ms) =
    cond (is_met_line v vs u m) (first_unmet v vs u ms) (Some m.line)

-- what is met, where the text is a met text
abbrev pub mets_of : List MetLine → List Met
mets_of ms = map (λ m. MetLine.met m) ms

abbrev pub met_if : Bool → List MetLine → Option (List Met)
met_if named ms = cond named (Some (mets_of ms)) None

abbrev pub met_of : SavedSaid → Option (List Met)
met_of k = met_if k.met k.mets

-- what is saved, where the text is a saved text
abbrev pub cubes_of : List SavedLine → List (List ℤ)
cubes_of ms = map (λ m. SavedLine.cube m) ms

abbrev pub saved_if : Bool → List SavedLine → List SavedLine → Option Saved
saved_if named cs ps =
    cond named (Some (record { cubes = cubes_of cs; pending = cubes_of ps })) None

abbrev pub saved_of : SavedSaid → Option Saved
saved_of k = saved_if k.named k.cubes k.pending

abbrev pub input_of : ℕ → List (List ℤ) → List ℕ → List ℤ → SavedSaid → Input
input_of v cs vs u k = record {
  subject = record { formula = record { variables = v; clauses = cs }; shown = vs; under = u };
  saved = saved_of k;
  met = met_of k;
}

abbrev pub shown_says : ℕ → Below → List Given → SavedSaid → List ℕ →
    Result Input TextRefused
shown_says n w gs k vs =
    needs (nat_le (length vs) most_shown) (TooManyShown n)
    (unless (first_misplaced vs [] gs) UnderBad
    (unless (lowest_outside vs (under_of gs vs) k) SavedBad
    (unless (first_unmet w.variables vs (under_of gs vs) k.mets) SavedBad
    (Ok (input_of w.variables w.clauses vs (under_of gs vs) k)))))

-- a saved text and a met text have their end line
abbrev pub below_says : ℕ → Below → List ListLine → List Given → SavedSaid →
    Result Input TextRefused
below_says n w ms gs k =
    needs (is_nil w.open_clause) (Unfinished n)
    (needs (not (k.named || k.met) || k.ended) (SavedUnended n)
    (needs (length w.clauses == w.said) (ClauseCount n w.said (length w.clauses))
    (unless (first_above w.variables ms) ShowBad
    (shown_says n w gs k (shown_of w ms)))))

abbrev pub end_says : ℕ → Said → Option Below → Result Input TextRefused
end_says n s None = Err (NoHeader n)
end_says n s (Some w) = below_says n w s.shows s.given s.saved
