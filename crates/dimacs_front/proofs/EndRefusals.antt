-- The refusals of the end, one by one.
use Rattle.std.proofs.Common.{◌≡◌, ℕ, ◌≤◌, ◌⊎◌, inl, inr, Bool, true, false, not, cond, ◌&&◌, ◌||◌, eqb, append-nil, append_assoc, List, [], ◌∷◌, ◌++◌, length, map, ℤ, nat_abs, Some, None, Result, Ok, refl, sym, subst, ap, ◌∙◌}
use Rattle.std.specs.Prelude.{nat_le, neg_ℤ}
use Rattle.std.specs.Cmp.{nat_eq_equiv}
use Rattle.std.specs.List.{All, list_any}
use Rattle.std.proofs.lemmas.Bool.{cond-true, cond-false, eqb-true, le-leb, leb-true, lt-leb}
use Rattle.std.proofs.lemmas.List.Elements.{All-nil, All-cons, All-head, All-tail}
use Rattle.sat_terms.specs.Cubes.{is_among, has_literal}
use Rattle.dimacs_tokens.specs.Seen.{is_nil}
use Rattle.dimacs_front.specs.declared.input.Input.{Input}
use Rattle.dimacs_front.specs.declared.under_lines.Given.{Given}
use Rattle.dimacs_front.specs.declared.refused.TextRefused.{TextRefused}
use Rattle.dimacs_front.specs.declared.refused.TextRefused.TheVariants.{Unfinished, ClauseCount, ShowBad, UnderBad, SavedBad, SavedUnended}
use Rattle.dimacs_front.specs.Limits.{most_shown}
use Rattle.dimacs_front.specs.Steps.{needs, unless}
use Rattle.dimacs_front.specs.HeaderLines.{Below}
use Rattle.dimacs_front.specs.ListLines.{ListLine}
use Rattle.dimacs_front.specs.SavedTexts.{SavedSaid}
use Rattle.dimacs_front.specs.TextEnds.{shown_of, first_above, is_placed, first_misplaced, under_of, lowest_outside, first_unmet, input_of, shown_says, below_says}
use Rattle.dimacs_front.specs.EndLaws.{IsComplete, IsUpTo, TextsAreRefusedAtTheEnd}

-- ---- the tests before the show lines

abbrev counted_says : ℕ → Below → List ListLine → List Given → SavedSaid → Result Input TextRefused
counted_says n w ms gs k = unless (first_above w.variables ms) ShowBad (shown_says n w gs k (shown_of w ms))

abbrev ended_says : ℕ → Below → List ListLine → List Given → SavedSaid → Result Input TextRefused
ended_says n w ms gs k =
    needs (eqb (length w.clauses) w.said) (ClauseCount n w.said (length w.clauses)) (counted_says n w ms gs k)

abbrev closed_says : ℕ → Below → List ListLine → List Given → SavedSaid → Result Input TextRefused
closed_says n w ms gs k = needs (not (k.named || k.met) || k.ended) (SavedUnended n) (ended_says n w ms gs k)

closed_is : (n : ℕ) (w : Below) (ms : List ListLine) (gs : List Given) (k : SavedSaid) → w.open_clause ≡ [] →
    below_says n w ms gs k ≡ closed_says n w ms gs k
closed_is n w ms gs k e = ap (λ c. needs (is_nil c) (Unfinished n) (closed_says n w ms gs k)) e

has_end : (a b : Bool) → (a ≡ true → b ≡ true) → (not a || b) ≡ true
has_end true b h = h refl
has_end false b h = refl

ended_is : (n : ℕ) (w : Below) (ms : List ListLine) (gs : List Given) (k : SavedSaid) → w.open_clause ≡ [] →
    ((k.named || k.met) ≡ true → k.ended ≡ true) → below_says n w ms gs k ≡ ended_says n w ms gs k
ended_is n w ms gs k e h =
    closed_is n w ms gs k e ∙ cond-true (not (k.named || k.met) || k.ended) _ _ (has_end (k.named || k.met) k.ended h)

whole_is : (n : ℕ) (w : Below) (ms : List ListLine) (gs : List Given) (k : SavedSaid) → IsComplete w k →
    below_says n w ms gs k ≡ counted_says n w ms gs k
whole_is n w ms gs k h =
    ended_is n w ms gs k h.closed h.ended
    ∙ cond-true (eqb (length w.clauses) w.said) _ _ (ap (λ m. eqb m w.said) h.counted ∙ nat_eq_equiv.refl w.said)

other_count : (a b : ℕ) (q : Bool) → eqb a b ≡ q → (a ≡ b → ⊥) → q ≡ false
other_count a b true e h = absurd (h (eqb-true a b e))
other_count a b false e h = refl

-- ---- show lines

none_above : (v : ℕ) (ls : List ℤ) → All (λ l. nat_abs l ≤ v) ls → list_any (λ l. not (nat_le (nat_abs l) v)) ls ≡ false
none_above v [] h = refl
none_above v (l ∷ ls) h =
    (λ i. not (le-leb (nat_abs l) v (All-head (λ m. nat_abs m ≤ v) l ls h) i) || none_above v ls (All-tail (λ m. nat_abs m ≤ v) l ls h) i)

all_up_to : (v : ℕ) (ls : List ℤ) → list_any (λ l. not (nat_le (nat_abs l) v)) ls ≡ false → All (λ l. nat_abs l ≤ v) ls
all_up_to v [] h = All-nil (λ l. nat_abs l ≤ v)
all_up_to v (l ∷ ls) h = at (λ g. all_up_to v ls g) (nat_le (nat_abs l) v) refl h
  where
    at : (list_any (λ m. not (nat_le (nat_abs m) v)) ls ≡ false → All (λ m. nat_abs m ≤ v) ls) → (b : Bool) →
        nat_le (nat_abs l) v ≡ b → (not b || list_any (λ m. not (nat_le (nat_abs m) v)) ls) ≡ false → All (λ m. nat_abs m ≤ v) (l ∷ ls)
    at more true e h = All-cons (λ m. nat_abs m ≤ v) l ls (leb-true (nat_abs l) v e) (more h)
    at more false e h = absurd (cc)

fits : (v : ℕ) (ms : List ListLine) → All (IsUpTo v) ms → first_above v ms ≡ None
fits v [] h = refl
fits v (m ∷ ms) h =
    cond-false (list_any (λ l. not (nat_le (nat_abs l) v)) m.values) _ _ (none_above v m.values (All-head (IsUpTo v) m ms h))
    ∙ fits v ms (All-tail (IsUpTo v) m ms h)

some_above : (v : ℕ) (ls : List ℤ) (q : Bool) → list_any (λ l. not (nat_le (nat_abs l) v)) ls ≡ q →
    (All (λ l. nat_abs l ≤ v) ls → ⊥) → q ≡ true
some_above v ls true e h = refl
some_above v ls false e h = absurd (h (all_up_to v ls e))

first_is : (v : ℕ) (before after : List ListLine) (m : ListLine) → All (IsUpTo v) before → (IsUpTo v m → ⊥) →
    first_above v (before ++ m ∷ after) ≡ Some m.line
first_is v [] after m h above =
    cond-true (list_any (λ l. not (nat_le (nat_abs l) v)) m.values) _ _ (some_above v m.values _ refl above)
first_is v (b ∷ before) after m h above =
    cond-false (list_any (λ l. not (nat_le (nat_abs l) v)) b.values) _ _ (none_above v b.values (All-head (IsUpTo v) b before h))
    ∙ first_is v before after m (All-tail (IsUpTo v) b before h) above

-- where all show lines fit
fit_is : (n : ℕ) (w : Below) (ms : List ListLine) (gs : List Given) (k : SavedSaid) → IsComplete w k →
    All (IsUpTo w.variables) ms → below_says n w ms gs k ≡ shown_says n w gs k (shown_of w ms)
fit_is n w ms gs k h f =
    whole_is n w ms gs k h
    ∙ ap (λ o. unless o ShowBad (shown_says n w gs k (shown_of w ms))) (fits w.variables ms f)

-- ---- given literals

and_false : (b : Bool) → (b && false) ≡ false
and_false true = refl
and_false false = refl

not_placed : (vs : List ℕ) (before : List ℤ) (l : ℤ) →
    (is_among vs (nat_abs l) ≡ false) ⊎ (has_literal before (neg_ℤ l) ≡ true) → is_placed vs before l ≡ false
not_placed vs before l (inl e) = ap (λ b. b && not (has_literal before (neg_ℤ l))) e
not_placed vs before l (inr e) = ap (λ b. is_among vs (nat_abs l) && not b) e ∙ and_false (is_among vs (nat_abs l))

misplaced_at : (vs : List ℕ) (acc : List ℤ) (before after : List Given) (g : Given) → first_misplaced vs acc before ≡ None →
    (is_among vs (nat_abs g.literal) ≡ false) ⊎ (has_literal (acc ++ map (λ h. Given.literal h) before) (neg_ℤ g.literal) ≡ true) →
    first_misplaced vs acc (before ++ g ∷ after) ≡ Some g.line
misplaced_at vs acc [] after g e h =
    cond-false (is_placed vs acc g.literal) _ _ (not_placed vs acc g.literal
    (subst (λ ls. (is_among vs (nat_abs g.literal) ≡ false) ⊎ (has_literal ls (neg_ℤ g.literal) ≡ true)) (append-nil acc) h))
misplaced_at vs acc (b ∷ before) after g e h =
    at (λ f. misplaced_at vs (acc ++ b.literal ∷ []) before after g f
    (subst (λ ls. (is_among vs (nat_abs g.literal) ≡ false) ⊎ (has_literal ls (neg_ℤ g.literal) ≡ true))
    (sym (append_assoc acc (b.literal ∷ []) (map (λ u. Given.literal u) before))) h))
    (is_placed vs acc b.literal) e
  where
    at : (first_misplaced vs (acc ++ b.literal ∷ []) before ≡ None → first_misplaced vs (acc ++ b.literal ∷ []) (before ++ g ∷ after) ≡ Some g.line) →
        (q : Bool) → cond q (first_misplaced vs (acc ++ b.literal ∷ []) before) (Some b.line) ≡ None →
        cond q (first_misplaced vs (acc ++ b.literal ∷ []) (before ++ g ∷ after)) (Some b.line) ≡ Some g.line
    at more true e = more e
    at more false e = absurd (cc)

abbrev behind_saved : Below → List ℕ → List ℤ → SavedSaid → Result Input TextRefused
behind_saved w vs u k = unless (first_unmet w.variables vs u k.mets) SavedBad (Ok (input_of w.variables w.clauses vs u k))

abbrev behind_given : Below → List ℕ → List ℤ → SavedSaid → Result Input TextRefused
behind_given w vs u k = unless (lowest_outside vs u k) SavedBad (behind_saved w vs u k)

few_is : (n : ℕ) (w : Below) (ms : List ListLine) (gs : List Given) (k : SavedSaid) → IsComplete w k → All (IsUpTo w.variables) ms →
    length (shown_of w ms) ≤ most_shown → below_says n w ms gs k ≡
    unless (first_misplaced (shown_of w ms) [] gs) UnderBad (behind_given w (shown_of w ms) (under_of gs (shown_of w ms)) k)
few_is n w ms gs k h f le =
    fit_is n w ms gs k h f
    ∙ cond-true (nat_le (length (shown_of w ms)) most_shown) _ _ (le-leb (length (shown_of w ms)) most_shown le)

pub ends_refused : TextsAreRefusedAtTheEnd
ends_refused = record {
  no_header = λ n s. refl;
  unfinished = λ n w ms gs k l ls e. ap (λ c. needs (is_nil c) (Unfinished n) (closed_says n w ms gs k)) e;
  unended = λ n w ms gs k e a b. closed_is n w ms gs k e ∙ (λ i. needs (not (a i) || b i) (SavedUnended n) (ended_says n w ms gs k));
  count = λ n w ms gs k e h other. ended_is n w ms gs k e h ∙ cond-false (eqb (length w.clauses) w.said) _ _ (other_count (length w.clauses) w.said _ refl other);
  show = λ n w before after m gs k h f above. whole_is n w (before ++ m ∷ after) gs k h ∙ ap (λ o. unless o ShowBad (shown_says n w gs k (shown_of w (before ++ m ∷ after)))) (first_is w.variables before after m f above);
  shown = λ n w ms gs k h f lt. fit_is n w ms gs k h f ∙ cond-false (nat_le (length (shown_of w ms)) most_shown) _ _ (lt-leb (length (shown_of w ms)) most_shown lt);
  under = λ n w ms before after g k h f le placed bad. few_is n w ms (before ++ g ∷ after) k h f le ∙ ap (λ o. unless o UnderBad (behind_given w (shown_of w ms) (under_of (before ++ g ∷ after) (shown_of w ms)) k)) (misplaced_at (shown_of w ms) [] before after g placed bad);
  saved = λ n line w ms gs k h f le placed e. few_is n w ms gs k h f le ∙ ap (λ o. unless o UnderBad (behind_given w (shown_of w ms) (under_of gs (shown_of w ms)) k)) placed ∙ ap (λ o. unless o SavedBad (behind_saved w (shown_of w ms) (under_of gs (shown_of w ms)) k)) e;
  met = λ n line w ms gs k h f le placed inside e. few_is n w ms gs k h f le ∙ ap (λ o. unless o UnderBad (behind_given w (shown_of w ms) (under_of gs (shown_of w ms)) k)) placed ∙ ap (λ o. unless o SavedBad (behind_saved w (shown_of w ms) (under_of gs (shown_of w ms)) k)) inside ∙ ap (λ o. unless o SavedBad (Ok (input_of w.variables w.clauses (shown_of w ms) (under_of gs (shown_of w ms)) k))) e;
}
