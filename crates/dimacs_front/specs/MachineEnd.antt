-- What the machine answers at the end of a text, where no line of it is refused. Here n is the
-- number of the last line.
use Rattle.std.specs.Prelude.{ℕ, Bool, not, cond, ◌==◌, ◌||◌, nat_le, List, [], ◌∷◌, length, ℤ, Option, Some, None, Result, Ok, Err}
use Rattle.std.specs.Prelude.{option_map}
use Rattle.std.specs.List.{filter, range_with_len}
use Rattle.dimacs_tokens.specs.Seen.{is_nil}
use Rattle.dimacs_front.specs.declared.refused.TextRefused.{TextRefused}
use Rattle.dimacs_front.specs.declared.refused.TextRefused.TheVariants.{NoHeader, Unfinished, ClauseCount, ShowBad, TooManyShown, UnderBad, SavedBad, SavedUnended}
use Rattle.dimacs_front.specs.declared.show_lines.Named.{Named}
use Rattle.dimacs_front.specs.declared.under_lines.Given.{Given}
use Rattle.dimacs_front.specs.declared.input.Input.{Input}
use Rattle.dimacs_front.specs.SavedTexts.{SavedSaid}
use Rattle.dimacs_front.specs.TextEnds.{first_misplaced, under_of, lowest_outside, first_unmet, input_of}
use Rattle.dimacs_front.specs.Limits.{most_shown}
use Rattle.dimacs_front.specs.Machine.{WrittenView, StateView, is_named}

-- the line of the first show line that names a variable above v
abbrev pub first_name_above : ℕ → List Named → Option ℕ
first_name_above v [] = None
first_name_above v (m ∷ ms) = cond (nat_le m.variable v) (first_name_above v ms) (Some m.line)

abbrev pub range_refusal : Option ℕ → Option TextRefused
range_refusal line = option_map ShowBad line

-- the first refusal of the end, but for too many shown variables
unfoldable pub end_refusal : ℕ → StateView → Option TextRefused
end_refusal n s =
    cond s.started
    (cond (is_nil s.formula.open_clause)
    (cond (not (s.saved.named || s.saved.met) || s.saved.ended)
    (cond (length s.formula.clauses == s.formula.said)
    (range_refusal (first_name_above s.formula.variables s.named))
    (Some (ClauseCount n s.formula.said (length s.formula.clauses))))
    (Some (SavedUnended n)))
    (Some (Unfinished n)))
    (Some (NoHeader n))

-- the variables 1 to v that a show line names; all of them where there is no show line
abbrev pub or_named : Bool → List Named → ℕ → Bool
or_named all named v = all || is_named named v

abbrev pub names_shown : Bool → List Named → ℕ → List ℕ
names_shown given named v = filter (or_named (not given) named) (range_with_len 1 v)

-- where these are not too many
abbrev pub few : List ℕ → Option (List ℕ)
few vs = cond (nat_le (length vs) most_shown) (Some vs) None

-- and no given literal is misplaced, and no line of a saved or a met text is outside
abbrev pub with_met_lines : WrittenView → List ℕ → List ℤ → SavedSaid → Option ℕ →
    Result Input TextRefused
with_met_lines w vs u k (Some line) = Err (SavedBad line)
with_met_lines w vs u k None = Ok (input_of w.variables w.clauses vs u k)

abbrev pub with_saved_lines : WrittenView → List ℕ → List ℤ → SavedSaid → Option ℕ →
    Result Input TextRefused
with_saved_lines w vs u k (Some line) = Err (SavedBad line)
with_saved_lines w vs u k None =
    with_met_lines w vs u k (first_unmet w.variables vs u k.mets)

abbrev pub with_under : WrittenView → List Given → SavedSaid → List ℕ → Option ℕ →
    Result Input TextRefused
with_under w gs k vs (Some line) = Err (UnderBad line)
with_under w gs k vs None =
    with_saved_lines w vs (under_of gs vs) k (lowest_outside vs (under_of gs vs) k)

abbrev pub with_shown : ℕ → WrittenView → List Given → SavedSaid → Option (List ℕ) →
    Result Input TextRefused
with_shown n w gs k (Some vs) = with_under w gs k vs (first_misplaced vs [] gs)
with_shown n w gs k None = Err (TooManyShown n)

abbrev pub by_end : Option TextRefused → ℕ → StateView → Result Input TextRefused
by_end (Some r) n s = Err r
by_end None n s =
    with_shown n s.formula s.under s.saved
    (few (names_shown s.given s.named s.formula.variables))

unfoldable pub end_of : ℕ → StateView → Result Input TextRefused
end_of n s = by_end (end_refusal n s) n s
