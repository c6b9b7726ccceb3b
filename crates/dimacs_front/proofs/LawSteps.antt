-- The laws of lines of numbers, of show lines and of texts.
use Rattle.std.proofs.Common.{◌≡◌, ℕ, ◌+◌, ◌<◌, ◌≤◌, Bool, true, false, not, cond, eqb, append-nil, List, [], ◌∷◌, ◌++◌, length, map, ℤ, pos, nat_abs, Option, Some, None, Result, Ok, Err, refl, sym, subst, ap, ◌∙◌, arith}
use Rattle.std.specs.List.{All}
use Rattle.std.proofs.lemmas.Bool.{cond-true, cond-false, eqb-true, le-leb, lt-ltb}
use Rattle.std.proofs.lemmas.Bool.Decides.{nat_tests}
use Rattle.std.proofs.lemmas.List.{length_push}
use Rattle.std.proofs.lemmas.List.Elements.{All-head, All-tail}
use Rattle.std.proofs.lemmas.List.Sums.{sum_by-append}
use Rattle.dimacs_tokens.specs.Numbers.{numeral, digits_say, token_value}
use Rattle.dimacs_tokens.specs.Seen.{list_begins, is_nil}
use Rattle.dimacs_front.specs.declared.under_lines.Given.{Given}
use Rattle.dimacs_front.specs.declared.refused.TextRefused.{TextRefused}
use Rattle.dimacs_front.specs.declared.refused.TextRefused.TheVariants.{ShowBad, ShowUnended, HeaderTwice}
use Rattle.dimacs_front.specs.Limits.{most_variables, most_clauses, most_literals}
use Rattle.dimacs_front.specs.Steps.{and_then, needs, steps}
use Rattle.dimacs_front.specs.HeaderLines.{Below}
use Rattle.dimacs_front.specs.NumberLines.{literals_of, clause_ended, literal_added, number_says, numbers_say}
use Rattle.dimacs_front.specs.ListLines.{ListLine, list_says, is_variable, show_says}
use Rattle.dimacs_front.specs.SavedTexts.{SavedSaid}
use Rattle.dimacs_front.specs.TextLines.{Said, with_below, with_show, line_says, no_line, next_line, lines_say}
use Rattle.dimacs_front.specs.TextLaws.{zeros_in, literals_in, number_written, numbers_written, HasRoom, ALineOfNumbersSaysThese, TheFirstRefusedNumberCounts, IsVariable, variables, AShowLineShowsItsVariables, is_foreign, ShowLinesAreRefused, ALineWithoutTokensChangesNothing, TheFormulaEndsAtAPercent, TheLowestRefusedLineCounts}

-- ---- steps

then_is : {A B : Type 0} (f : A → Result B TextRefused) (x : Result A TextRefused) (a : A) →
    x ≡ Ok a → and_then f x ≡ f a
then_is f x a h = ap (and_then f) h

steps_behind : {A X : Type 0} (f : A → X → Result A TextRefused) (r : Result A TextRefused)
    (xs ys : List X) →
    ((b : A) → steps f b (xs ++ ys) ≡ and_then (λ c. steps f c ys) (steps f b xs)) →
    and_then (λ b. steps f b (xs ++ ys)) r ≡ and_then (λ c. steps f c ys) (and_then (λ b. steps f b xs) r)
steps_behind f (Ok b) xs ys h = h b
steps_behind f (Err e) xs ys h = refl

pub steps_append : {A X : Type 0} (f : A → X → Result A TextRefused) (a : A) (xs ys : List X) →
    steps f a (xs ++ ys) ≡ and_then (λ b. steps f b ys) (steps f a xs)
steps_append f a [] ys = refl
steps_append f a (x ∷ xs) ys = steps_behind f (f a x) xs ys (λ b. steps_append f b xs ys)

pub lowest_line : TheLowestRefusedLineCounts
unfolding lines_say
lowest_line r ls ms h =
    steps_append next_line no_line ls ms ∙ ap (and_then (λ b. steps next_line b ms)) h

pub first_number : TheFirstRefusedNumberCounts
first_number n w v os ps o r h k =
    steps_append (number_says n) w os (o ∷ ps)
    ∙ ap (and_then (λ b. steps (number_says n) b (o ∷ ps))) h
    ∙ ap (and_then (λ b. steps (number_says n) b ps)) k

-- ---- lines of numbers

-- no number begins with `c` (99), `p` (112) or `%` (37)
no_c : (cs : List ℕ) → token_value (99 ∷ cs) ≡ None
unfolding numeral digits_say
no_c cs = refl

no_p : (cs : List ℕ) → token_value (112 ∷ cs) ≡ None
unfolding numeral digits_say
no_p cs = refl

no_percent : (cs : List ℕ) → token_value (37 ∷ cs) ≡ None
unfolding numeral digits_say
no_percent cs = refl

begins_not : (b : ℕ) → ((cs : List ℕ) → token_value (b ∷ cs) ≡ None) → (t : List ℕ) (l : ℤ) →
    token_value t ≡ Some l → list_begins t b ≡ false
begins_not b none [] l h = refl
begins_not b none (c ∷ cs) l h = at (eqb c b) refl
  where
    at : (m : Bool) → eqb c b ≡ m → eqb c b ≡ false
    at true e =
        let there : token_value (b ∷ cs) ≡ Some l = subst (λ x. token_value (x ∷ cs) ≡ Some l) (eqb-true c b e) h in
        let nowhere = none cs in
        absurd (cc)
    at false e = e

-- one number, a 0 or a literal, where there is room for it and those behind it
abbrev fits_clauses : Below → List ℤ → Bool → Type 0
fits_clauses w ls z = length w.clauses + cond z (zeros_in ls + 1) (zeros_in ls) ≤ most_clauses

abbrev fits_literals : Below → List ℤ → Bool → Type 0
fits_literals w ls z = literals_of w + cond z (literals_in ls) (literals_in ls + 1) ≤ most_literals

number_fits : (n : ℕ) (w : Below) (l : ℤ) (ls : List ℤ) (z : Bool) → eqb (nat_abs l) 0 ≡ z → nat_abs l ≤ w.variables →
    fits_clauses w ls z → fits_literals w ls z →
    number_says n w (Some l) ≡ Ok (cond z (clause_ended w) (literal_added w l))
number_fits n w l ls true e small clauses literals =
    cond-true _ _ _ e ∙ cond-true _ _ _ (lt-ltb (length w.clauses) most_clauses (omega arith))
number_fits n w l ls false e small clauses literals =
    cond-false _ _ _ e
    ∙ cond-true _ _ _ (le-leb (nat_abs l) w.variables small)
    ∙ cond-true _ _ _ (lt-ltb (literals_of w) most_literals (omega arith))

room_more : (w : Below) (l : ℤ) (ls : List ℤ) (z : Bool) → All (λ k. nat_abs k ≤ w.variables) ls →
    fits_clauses w ls z → fits_literals w ls z → HasRoom (cond z (clause_ended w) (literal_added w l)) ls
room_more w l ls true named clauses literals = record {
  named = named;
  clauses = let long = length_push w.clauses w.open_clause in omega arith;
  literals = let same = sum_by-append length w.clauses (w.open_clause ∷ []) in omega arith;
}
room_more w l ls false named clauses literals = record {
  named = named;
  clauses = omega arith;
  literals = let long = length_push w.open_clause l in omega arith;
}

numbers_fit : (n : ℕ) (w : Below) (os : List (Option ℤ)) (ls : List ℤ) →
    os ≡ map (λ l. Some l) ls → HasRoom w ls → numbers_say n w os ≡ Ok (numbers_written w ls)
numbers_fit n w [] [] e r = refl
numbers_fit n w [] (l ∷ ls) e r = absurd (cc)
numbers_fit n w (o ∷ os) [] e r = absurd (cc)
numbers_fit n w (o ∷ os) (l ∷ ls) e r =
    let first : o ≡ Some l = cc in
    let rest : os ≡ map (λ k. Some k) ls = cc in
    ap (and_then (λ v. numbers_say n v os))
    (ap (number_says n w) first
    ∙ number_fits n w l ls (eqb (nat_abs l) 0) refl (All-head (λ k. nat_abs k ≤ w.variables) l ls r.named) r.clauses r.literals)
    ∙ numbers_fit n (number_written w l) os ls rest
    (room_more w l ls (eqb (nat_abs l) 0) (All-tail (λ k. nat_abs k ≤ w.variables) l ls r.named) r.clauses r.literals)

-- a line whose first token is a number is one of numbers
pub numbers_line : (n : ℕ) (w v : Below) (ms : List ListLine) (gs : List Given) (k : SavedSaid) (t : List ℕ) (ts : List (List ℕ)) (l : ℤ) →
    token_value t ≡ Some l → numbers_say n w (map token_value (t ∷ ts)) ≡ Ok v →
    line_says n (record { below = Some w; shows = ms; given = gs; saved = k; over = false }) (t ∷ ts) ≡
    Ok (record { below = Some v; shows = ms; given = gs; saved = k; over = false })
unfolding line_says
numbers_line n w v ms gs k t ts l first e =
    let s : Said = record { below = Some w; shows = ms; given = gs; saved = k; over = false } in
    cond-false _ _ _ (begins_not 99 no_c t l first)
    ∙ (λ i. needs (not (begins_not 112 no_p t l first i)) (HeaderTwice n) (cond (begins_not 37 no_percent t l first i) (Ok (record s { over = true })) (and_then (λ v. Ok (with_below s v)) (numbers_say n w (map token_value (t ∷ ts))))))
    ∙ ap (and_then (λ v. Ok (with_below s v))) e

pub number_line : ALineOfNumbersSaysThese
unfolding line_says
number_line n w ms gs k [] [] e r = refl
number_line n w ms gs k [] (l ∷ ls) e r = absurd (cc)
number_line n w ms gs k (t ∷ ts) [] e r = absurd (cc)
number_line n w ms gs k (t ∷ ts) (l ∷ ls) e r =
    let first : token_value t ≡ Some l = cc in
    numbers_line n w (numbers_written w (l ∷ ls)) ms gs k t ts l first
    (numbers_fit n w (map token_value (t ∷ ts)) (l ∷ ls) e r)

-- ---- show lines

is_zero-not : (v : ℕ) → 0 < v → eqb v 0 ≡ false
is_zero-not v h = grind (arith, nat_tests)

module _ (n : ℕ) where
  abbrev list : List (Option ℤ) → Result (List ℤ) TextRefused
  list os = list_says is_variable (ShowBad n) (ShowUnended n) os

  -- what a list says behind these variables
  abbrev with_values : List ℕ → Result (List ℤ) TextRefused → Result (List ℤ) TextRefused
  with_values vs x = and_then (λ ls. Ok (map (λ v. pos v) vs ++ ls)) x

  nothing_more : (x : Result (List ℤ) TextRefused) → x ≡ with_values [] x
  nothing_more (Ok ls) = refl
  nothing_more (Err r) = refl

  one_more : (v : ℕ) (vs : List ℕ) (x : Result (List ℤ) TextRefused) →
      and_then (λ ls. Ok (pos v ∷ ls)) (with_values vs x) ≡ with_values (v ∷ vs) x
  one_more v vs (Ok ls) = refl
  one_more v vs (Err r) = refl

  behind_variables : (vs : List ℕ) (os : List (Option ℤ)) → All IsVariable vs →
      list (variables vs ++ os) ≡ with_values vs (list os)
  behind_variables [] os h = nothing_more (list os)
  behind_variables (v ∷ vs) os h =
      let here : IsVariable v = All-head IsVariable v vs h in
      cond-false _ _ _ (is_zero-not v here.0)
      ∙ cond-true _ _ _ (le-leb v most_variables here.1)
      ∙ ap (and_then (λ ls. Ok (pos v ∷ ls))) (behind_variables vs os (All-tail IsVariable v vs h))
      ∙ one_more v vs (list os)

  foreign_list : (o : Option ℤ) (ps : List (Option ℤ)) → is_foreign o ≡ true →
      list (o ∷ ps) ≡ Err (ShowBad n)
  foreign_list None ps h = refl
  foreign_list (Some l) ps h = at (eqb (nat_abs l) 0) (is_variable l) h
    where
      at : (z m : Bool) → cond z false (not m) ≡ true →
          cond z (needs (is_nil ps) (ShowBad n) (Ok [])) (needs m (ShowBad n) (and_then (λ ls. Ok (l ∷ ls)) (list ps))) ≡ Err (ShowBad n)
      at true m h = absurd (cc)
      at false true h = absurd (cc)
      at false false h = refl

  abbrev line_is : List ℤ → Result ListLine TextRefused
  line_is ls = Ok (record { line = n; values = ls })

  refused_behind : (vs : List ℕ) (os : List (Option ℤ)) (r : TextRefused) → All IsVariable vs →
      list os ≡ Err r → show_says n (variables vs ++ os) ≡ Err r
  refused_behind vs os r h e =
      ap (and_then line_is) (behind_variables vs os h ∙ ap (with_values vs) e)

  abbrev accepted : (vs : List ℕ) → List (Option ℤ)
  accepted vs = variables vs ++ Some (pos 0) ∷ []

  accepted_list : (vs : List ℕ) → All IsVariable vs →
      show_says n (accepted vs) ≡ line_is (map (λ v. pos v) vs ++ [])
  accepted_list vs h = ap (and_then line_is) (behind_variables vs (Some (pos 0) ∷ []) h)

pub shows_refused : ShowLinesAreRefused
shows_refused = record {
  foreign = λ n vs o ps h f. refused_behind n vs (o ∷ ps) (ShowBad n) h (foreign_list n o ps f);
  behind = λ n vs o ps h. refused_behind n vs (Some (pos 0) ∷ o ∷ ps) (ShowBad n) h refl;
  unended = λ n vs h. ap (show_says n) (sym (append-nil (variables vs))) ∙ refused_behind n vs [] (ShowUnended n) h refl;
}

pub show_line : AShowLineShowsItsVariables
unfolding line_says
show_line n o ms gs k ts vs e h =
    let s : Said = record { below = o; shows = ms; given = gs; saved = k; over = false } in
    ap (λ os. and_then (λ m. Ok (with_show s m)) (show_says n os)) e
    ∙ ap (and_then (λ m. Ok (with_show s m))) (accepted_list n vs h ∙ ap (line_is n) (append-nil (map (λ v. pos v) vs)))

-- ---- texts

pub empty_line : ALineWithoutTokensChangesNothing
unfolding line_says
empty_line n s = refl

percent_only : (bs : List ℕ) (b : ℕ) → eqb 37 b ≡ false → list_begins bs 37 ≡ true → list_begins bs b ≡ false
percent_only [] b other h = refl
percent_only (c ∷ bs) b other h = ap (λ (x : ℕ). eqb x b) (eqb-true c 37 h) ∙ other

over_line : (m : ℕ) (w : Below) (ms : List ListLine) (gs : List Given) (k : SavedSaid) (us : List (List ℕ)) →
    line_says m (record { below = Some w; shows = ms; given = gs; saved = k; over = true }) us ≡
    Ok (record { below = Some w; shows = ms; given = gs; saved = k; over = true })
unfolding line_says
over_line m w ms gs k [] = refl
over_line m w ms gs k (u ∷ us) = refl

percent_begins : (n : ℕ) (w : Below) (ms : List ListLine) (gs : List Given) (k : SavedSaid) (t : List ℕ) (ts : List (List ℕ)) →
    list_begins t 37 ≡ true →
    line_says n (record { below = Some w; shows = ms; given = gs; saved = k; over = false }) (t ∷ ts) ≡
    Ok (record { below = Some w; shows = ms; given = gs; saved = k; over = true })
unfolding line_says
percent_begins n w ms gs k t ts h =
    let s : Said = record { below = Some w; shows = ms; given = gs; saved = k; over = false } in
    cond-false _ _ _ (percent_only t 99 refl h)
    ∙ (λ i. needs (not (percent_only t 112 refl h i)) (HeaderTwice n) (cond (h i) (Ok (record s { over = true })) (and_then (λ v. Ok (with_below s v)) (numbers_say n w (map token_value (t ∷ ts))))))

pub percent_line : TheFormulaEndsAtAPercent
percent_line n m w ms gs k t ts us h = (percent_begins n w ms gs k t ts h, over_line m w ms gs k us)
