-- The end of a text says to the machine what it says: the names that are kept once are those of the
-- show lines as they stand.
use Rattle.std.proofs.Common.{◌≡◌, ℕ, Bool, true, false, not, cond, ◌||◌, eqb, leb, List, [], ◌∷◌, ◌++◌, length, map, ℤ, nat_abs, Option, Some, None, Result, Ok, refl, sym, ap, ◌∙◌}
use Rattle.std.specs.List.{list_any, filter, range_with_len}
use Rattle.std.proofs.lemmas.Bool.{eqb-true}
use Rattle.std.proofs.Math.Bool.{or-false, or_assoc}
use Rattle.dimacs_tokens.specs.Seen.{is_nil}
use Rattle.dimacs_front.specs.declared.under_lines.Given.{Given}
use Rattle.dimacs_front.specs.declared.refused.TextRefused.{TextRefused}
use Rattle.dimacs_front.specs.declared.refused.TextRefused.TheVariants.{Unfinished, ClauseCount, ShowBad, TooManyShown, UnderBad, SavedBad, SavedUnended}
use Rattle.dimacs_front.specs.declared.show_lines.Named.{Named}
use Rattle.dimacs_front.specs.declared.input.Input.{Input}
use Rattle.dimacs_front.specs.Limits.{most_shown}
use Rattle.dimacs_front.specs.Steps.{needs, unless}
use Rattle.dimacs_front.specs.HeaderLines.{Below}
use Rattle.dimacs_front.specs.ListLines.{ListLine}
use Rattle.dimacs_front.specs.SavedTexts.{SavedSaid}
use Rattle.dimacs_front.specs.TextLines.{Said}
use Rattle.dimacs_front.specs.TextEnds.{is_shown, shown_of, first_above, first_misplaced, under_of, lowest_outside, first_unmet, input_of, shown_says, below_says, end_says}
use Rattle.dimacs_front.specs.Machine.{StateView, is_named, name_once}
use Rattle.dimacs_front.specs.MachineEnd.{first_name_above, range_refusal, end_refusal, or_named, names_shown, few, with_met_lines, with_saved_lines, with_under, with_shown, by_end, end_of}
use Rattle.dimacs_front.proofs.MachineLines.{named_in, names_behind}
use Rattle.dimacs_front.proofs.Ties.{names_of, formula_of, standing, state_of}
use Rattle.dimacs_front.proofs.Names.{names_told}

-- ---- which variables are named

map_any : (ls : List ℤ) (v : ℕ) → list_any (λ w. eqb w v) (map nat_abs ls) ≡ list_any (λ l. eqb (nat_abs l) v) ls
map_any [] v = refl
map_any (l ∷ ls) v = ap (λ b. eqb (nat_abs l) v || b) (map_any ls v)

abbrev in_lines : List ListLine → ℕ → Bool
in_lines ms v = list_any (λ m. list_any (λ l. eqb (nat_abs l) v) (ListLine.values m)) ms

lines_told : (named : List Named) (ms : List ListLine) (v : ℕ) →
    is_named (names_of named ms) v ≡ (is_named named v || in_lines ms v)
lines_told named [] v = sym (or-false (is_named named v))
lines_told named (m ∷ ms) v =
    lines_told (names_behind m.line named (map nat_abs m.values)) ms v
    ∙ ap (λ b. b || in_lines ms v) (names_told m.line named (map nat_abs m.values) v ∙ ap (λ b. is_named named v || b) (map_any m.values v))
    ∙ or_assoc (is_named named v) (list_any (λ l. eqb (nat_abs l) v) m.values) (in_lines ms v)

not_not : (b : Bool) → not (not b) ≡ b
not_not true = refl
not_not false = refl

shown_same : (ms : List ListLine) (v : ℕ) →
    or_named (not (not (is_nil ms))) (names_of [] ms) v ≡ is_shown ms v
shown_same ms v = λ i. not_not (is_nil ms) i || lines_told [] ms v i

-- ---- the first line with a variable that is too large

-- the first of the two that is there
abbrev or_line : Option ℕ → Option ℕ → Option ℕ
or_line (Some n) o = Some n
or_line None o = o

or_line_assoc : (a b c : Option ℕ) → or_line (or_line a b) c ≡ or_line a (or_line b c)
or_line_assoc (Some n) b c = refl
or_line_assoc None b c = refl

or_none : (a : Option ℕ) → or_line a None ≡ a
or_none (Some n) = refl
or_none None = refl

above_at : (b : Bool) (n : ℕ) (all rest other : Option ℕ) → all ≡ or_line rest other →
    cond b all (Some n) ≡ or_line (cond b rest (Some n)) other
above_at true n all rest other h = h
above_at false n all rest other h = refl

above_append : (v : ℕ) (ks ms : List Named) →
    first_name_above v (ks ++ ms) ≡ or_line (first_name_above v ks) (first_name_above v ms)
above_append v [] ms = refl
above_append v (k ∷ ks) ms =
    above_at (leb k.variable v) k.line _ _ (first_name_above v ms) (above_append v ks ms)

-- a name that is kept is found
IsFound : Option ℕ → Type 0
IsFound (Some n) = Unit {0}
IsFound None = ⊥

found_first : (a b : Option ℕ) → IsFound a → or_line a b ≡ a
unfolding IsFound
found_first (Some n) b h = refl
found_first None b h = absurd h

found_at : (v w : ℕ) (m : Named) (ms : List Named) (b e : Bool) → leb m.variable v ≡ b →
    eqb m.variable w ≡ e → (e || is_named ms w) ≡ true → leb w v ≡ false →
    (is_named ms w ≡ true → IsFound (first_name_above v ms)) →
    IsFound (cond b (first_name_above v ms) (Some m.line))
unfolding IsFound
found_at v w m ms false e f g h k ih = tt
found_at v w m ms true true f g h k ih =
    let same : m.variable ≡ w = eqb-true m.variable w g in
    let large : leb m.variable v ≡ false = ap (λ (x : ℕ). leb x v) same ∙ k in
    absurd (cc)
found_at v w m ms true false f g h k ih = ih h

named_found : (v w : ℕ) (ks : List Named) → is_named ks w ≡ true → leb w v ≡ false →
    IsFound (first_name_above v ks)
named_found v w [] h k = absurd (cc)
named_found v w (m ∷ ms) h k =
    found_at v w m ms (leb m.variable v) (eqb m.variable w) refl refl h k (λ e. named_found v w ms e k)

abbrev one_above : ℕ → Named → Option ℕ
one_above v m = cond (leb m.variable v) None (Some m.line)

kept_above : (v : ℕ) (ks : List Named) (m : Named) (b : Bool) → leb m.variable v ≡ b →
    is_named ks m.variable ≡ true →
    first_name_above v ks ≡ or_line (first_name_above v ks) (cond b None (Some m.line))
kept_above v ks m true e h = sym (or_none (first_name_above v ks))
kept_above v ks m false e h =
    sym (found_first (first_name_above v ks) (Some m.line) (named_found v m.variable ks h e))

once_above-at : (v : ℕ) (ks : List Named) (m : Named) (q : Bool) → is_named ks m.variable ≡ q →
    first_name_above v (cond q ks (ks ++ m ∷ [])) ≡ or_line (first_name_above v ks) (one_above v m)
once_above-at v ks m true e = kept_above v ks m (leb m.variable v) refl e
once_above-at v ks m false e = above_append v ks (m ∷ [])

once_above : (v : ℕ) (ks : List Named) (m : Named) →
    first_name_above v (name_once ks m) ≡ or_line (first_name_above v ks) (one_above v m)
once_above v ks m = once_above-at v ks m (is_named ks m.variable) refl

-- the line, where a test holds
abbrev line_where : Bool → ℕ → Option ℕ
line_where q n = cond q (Some n) None

first_of_two : (q r : Bool) (n : ℕ) →
    or_line (cond q None (Some n)) (line_where r n) ≡ line_where (not q || r) n
first_of_two true r n = refl
first_of_two false r n = refl

line_above : (v n : ℕ) (ks : List Named) (vs : List ℕ) →
    first_name_above v (names_behind n ks vs) ≡
    or_line (first_name_above v ks) (line_where (list_any (λ w. not (leb w v)) vs) n)
line_above v n ks [] = sym (or_none (first_name_above v ks))
line_above v n ks (w ∷ vs) =
    let rest : Bool = list_any (λ u. not (leb u v)) vs in
    line_above v n (name_once ks (named_in n w)) vs
    ∙ ap (λ o. or_line o (line_where rest n)) (once_above v ks (named_in n w))
    ∙ or_line_assoc (first_name_above v ks) (one_above v (named_in n w)) (line_where rest n)
    ∙ ap (or_line (first_name_above v ks)) (first_of_two (leb w v) rest n)

map_above : (v : ℕ) (ls : List ℤ) →
    list_any (λ w. not (leb w v)) (map nat_abs ls) ≡ list_any (λ l. not (leb (nat_abs l) v)) ls
map_above v [] = refl
map_above v (l ∷ ls) = ap (λ b. not (leb (nat_abs l) v) || b) (map_above v ls)

or_rest : (q : Bool) (n : ℕ) (o : Option ℕ) → or_line (line_where q n) o ≡ cond q (Some n) o
or_rest true n o = refl
or_rest false n o = refl

lines_above : (v : ℕ) (ks : List Named) (ms : List ListLine) →
    first_name_above v (names_of ks ms) ≡ or_line (first_name_above v ks) (first_above v ms)
lines_above v ks [] = sym (or_none (first_name_above v ks))
lines_above v ks (m ∷ ms) =
    let large : Bool = list_any (λ l. not (leb (nat_abs l) v)) m.values in
    let before : Option ℕ = first_name_above v ks in
    lines_above v (names_behind m.line ks (map nat_abs m.values)) ms
    ∙ ap (λ o. or_line o (first_above v ms)) (line_above v m.line ks (map nat_abs m.values) ∙ ap (λ q. or_line before (line_where q m.line)) (map_above v m.values))
    ∙ or_line_assoc before (line_where large m.line) (first_above v ms)
    ∙ ap (or_line before) (or_rest large m.line (first_above v ms))

-- ---- the end

module _ (w : Below) (gs : List Given) (k : SavedSaid) (vs : List ℕ) where
  met_said : (o : Option ℕ) →
      unless o SavedBad (Ok (input_of w.variables w.clauses vs (under_of gs vs) k)) ≡
      with_met_lines (formula_of (Some w)) vs (under_of gs vs) k o
  met_said None = refl
  met_said (Some line) = refl

  abbrev behind_saved : Result Input TextRefused
  behind_saved = unless (first_unmet w.variables vs (under_of gs vs) k.mets) SavedBad (Ok (input_of w.variables w.clauses vs (under_of gs vs) k))

  saved_said : (o : Option ℕ) →
      unless o SavedBad behind_saved ≡ with_saved_lines (formula_of (Some w)) vs (under_of gs vs) k o
  saved_said None = met_said (first_unmet w.variables vs (under_of gs vs) k.mets)
  saved_said (Some line) = refl

  given_said : (o : Option ℕ) →
      unless o UnderBad (unless (lowest_outside vs (under_of gs vs) k) SavedBad behind_saved) ≡
      with_under (formula_of (Some w)) gs k vs o
  given_said None = saved_said (lowest_outside vs (under_of gs vs) k)
  given_said (Some line) = refl

  few_said-at : (n : ℕ) (q : Bool) →
      needs q (TooManyShown n) (with_under (formula_of (Some w)) gs k vs (first_misplaced vs [] gs)) ≡
      with_shown n (formula_of (Some w)) gs k (cond q (Some vs) None)
  few_said-at n true = refl
  few_said-at n false = refl

  few_said : (n : ℕ) → shown_says n w gs k vs ≡ with_shown n (formula_of (Some w)) gs k (few vs)
  few_said n =
      ap (needs (leb (length vs) most_shown) (TooManyShown n)) (given_said (first_misplaced vs [] gs))
      ∙ few_said-at n (leb (length vs) most_shown)

tests_said : (n : ℕ) (s : StateView) (x : Result Input TextRefused) (a b c : Bool) (o : Option ℕ)
    (count : TextRefused) →
    x ≡ with_shown n s.formula s.under s.saved (few (names_shown s.given s.named s.formula.variables)) →
    needs a (Unfinished n) (needs b (SavedUnended n) (needs c count (unless o ShowBad x))) ≡
    by_end (cond a (cond b (cond c (range_refusal o) (Some count)) (Some (SavedUnended n))) (Some (Unfinished n))) n s
tests_said n s x true true true None count h = h
tests_said n s x true true true (Some l) count h = refl
tests_said n s x true true false o count h = refl
tests_said n s x true false c o count h = refl
tests_said n s x false b c o count h = refl

below_met : (n : ℕ) (w : Below) (ms : List ListLine) (gs : List Given) (k : SavedSaid) (s : StateView) →
    s ≡ standing s.place (Some w) ms gs k → below_says n w ms gs k ≡ end_of n s
unfolding end_of end_refusal
below_met n w ms gs k s e =
    let there : StateView = standing s.place (Some w) ms gs k in
    let shown : names_shown there.given there.named w.variables ≡ shown_of w ms =
    (λ i. filter (λ v. shown_same ms v i) (range_with_len 1 w.variables)) in
    let vs : List ℕ = names_shown there.given there.named w.variables in
    let large : first_name_above w.variables there.named ≡ first_above w.variables ms = lines_above w.variables [] ms in
    (λ i. needs (is_nil w.open_clause) (Unfinished n) (needs (not (k.named || k.met) || k.ended) (SavedUnended n) (needs (eqb (length w.clauses) w.said) (ClauseCount n w.said (length w.clauses)) (unless (sym large i) ShowBad (shown_says n w gs k (sym shown i))))))
    ∙ tests_said n there (shown_says n w gs k vs) (is_nil w.open_clause) (not (k.named || k.met) || k.ended) (eqb (length w.clauses) w.said) (first_name_above w.variables there.named) (ClauseCount n w.said (length w.clauses)) (few_said w gs k vs n)
    ∙ ap (λ x. by_end (end_refusal n x) n x) (sym e)

said_met : (n : ℕ) (s : Said) (o : Option Below) → end_says n s o ≡ end_of n (state_of (record s { below = o }))
unfolding end_of end_refusal
said_met n s None = refl
said_met n s (Some w) =
    below_met n w s.shows s.given s.saved (state_of (record s { below = Some w })) refl

pub end_met : (n : ℕ) (s : Said) → end_says n s s.below ≡ end_of n (state_of s)
end_met n s = said_met n s s.below
