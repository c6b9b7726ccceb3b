-- The show lines are kept with rising numbers.
use Rattle.std.proofs.Common.{◌≡◌, ℕ, ◌+◌, ◌<◌, ◌≤◌, Bool, true, false, not, cond, List, [], ◌∷◌, map, drop, ℤ, Option, Some, None, Result, Ok, Err, refl, sym, subst, arith}
use Rattle.std.specs.Prelude.{codes}
use Rattle.std.specs.List.{All, AllPairs}
use Rattle.std.proofs.lemmas.List.Elements.{All-nil, All-push}
use Rattle.std.proofs.lemmas.List.Quantifiers.{all_pairs_push}
use Rattle.dimacs_tokens.specs.Cuts.{tokens}
use Rattle.dimacs_tokens.specs.Numbers.{token_value}
use Rattle.dimacs_tokens.specs.Seen.{list_begins}
use Rattle.dimacs_front.specs.declared.refused.TextRefused.{TextRefused}
use Rattle.dimacs_front.specs.declared.refused.TextRefused.TheVariants.{BadStart, HeaderTwice, ShowBad, ShowUnended}
use Rattle.dimacs_front.specs.Steps.{and_then, steps}
use Rattle.dimacs_front.specs.HeaderLines.{Below, header_says}
use Rattle.dimacs_front.specs.NumberLines.{numbers_say}
use Rattle.dimacs_front.specs.ListLines.{ListLine, list_says, is_variable, under_says}
use Rattle.dimacs_front.specs.LineWords.{begins_by, words_of}
use Rattle.dimacs_front.specs.SavedTexts.{saved_says}
use Rattle.dimacs_front.specs.TextLines.{Said, with_below, with_show, with_given, with_saved, comment_says, plain_says, line_says, Lines, no_line, next_line, lines_say}
use Rattle.dimacs_front.specs.TextLaws.{ShowLinesRise}

abbrev is_lower : ListLine → ListLine → Type 0
is_lower k m = k.line < m.line

-- the show lines rise, up to line n
pub record Rise (n : ℕ) (s : Said) : Type 0 where
  pub pairs : AllPairs is_lower s.shows
  pub within : All (λ m. ListLine.line m ≤ n) s.shows

abbrev Keeps : ℕ → Result Said TextRefused → Type 0
Keeps n (Ok s) = Rise n s
Keeps n (Err r) = Unit {0}

either : (n : ℕ) (b : Bool) (x y : Result Said TextRefused) → Keeps n x → Keeps n y → Keeps n (cond b x y)
either n true x y h k = h
either n false x y h k = k

each : {A : Type 0} (n : ℕ) (f : A → Said) (x : Result A TextRefused) → ((a : A) → Rise n (f a)) →
    Keeps n (and_then (λ a. Ok (f a)) x)
each n f (Ok a) h = h a
each n f (Err r) h = tt

module _ (n : ℕ) (s : Said) (h : Rise n s) where
  later : All (λ m. ListLine.line m ≤ n + 1) s.shows
  later = λ k d lt. let before = Rise.within h k d lt in omega arith

  same : (u : Said) → u.shows ≡ s.shows → Rise (n + 1) u
  same u e = record {
    pairs = subst (AllPairs is_lower) (sym e) (Rise.pairs h);
    within = subst (λ (ms : List ListLine). All (λ m. ListLine.line m ≤ n + 1) ms) (sym e) later;
  }

  one_more : (ls : List ℤ) → Rise (n + 1) (with_show s (record { line = n + 1; values = ls }))
  one_more ls =
      let m : ListLine = record { line = n + 1; values = ls } in
      record {
        pairs = all_pairs_push is_lower s.shows m (Rise.pairs h)
            (λ k d lt. let before = Rise.within h k d lt in omega arith);
        within = All-push (λ (k : ListLine). k.line ≤ n + 1) s.shows m later (omega arith);
      }

  list_kept : (x : Result (List ℤ) TextRefused) →
      Keeps (n + 1) (and_then (λ m. Ok (with_show s m)) (and_then (λ ls. Ok (record { line = n + 1; values = ls })) x))
  list_kept (Ok ls) = one_more ls
  list_kept (Err r) = tt

  comment_kept : (ts : List (List ℕ)) → Keeps (n + 1) (comment_says (n + 1) s ts)
  comment_kept ts =
      either (n + 1) (begins_by (words_of (codes "show")) ts) _ _
      (list_kept (list_says is_variable (ShowBad (n + 1)) (ShowUnended (n + 1)) (map token_value (drop 3 ts))))
      (either (n + 1) (begins_by (words_of (codes "under")) ts) _ _
      (each (n + 1) (with_given s) (under_says (n + 1) (map token_value (drop 3 ts))) (λ m. same (with_given s m) refl))
      (each (n + 1) (with_saved s) (saved_says (n + 1) s.saved ts) (λ k. same (with_saved s k) refl)))

  plain_kept : (o : Option Below) (t : List ℕ) (ts : List (List ℕ)) →
      Keeps (n + 1) (plain_says (n + 1) s o t ts)
  plain_kept None t ts =
      either (n + 1) (list_begins t 112) _ (Err (BadStart (n + 1)))
      (each (n + 1) (with_below s) (header_says (n + 1) (t ∷ ts)) (λ w. same (with_below s w) refl)) tt
  plain_kept (Some w) t ts =
      either (n + 1) (not (list_begins t 112)) _ (Err (HeaderTwice (n + 1)))
      (either (n + 1) (list_begins t 37) (Ok (record s { over = true })) _
      (same (record s { over = true }) refl)
      (each (n + 1) (with_below s) (numbers_say (n + 1) w (map token_value (t ∷ ts))) (λ v. same (with_below s v) refl)))
      tt

  line_kept : (ts : List (List ℕ)) → Keeps (n + 1) (line_says (n + 1) s ts)
  unfolding line_says
  line_kept [] = same s refl
  line_kept (t ∷ ts) =
      either (n + 1) s.over (Ok s) _ (same s refl)
      (either (n + 1) (list_begins t 99) _ _ (comment_kept (t ∷ ts)) (plain_kept s.below t ts))

abbrev RiseAll : Result Lines TextRefused → Type 0
RiseAll (Ok j) = Rise j.count j.said
RiseAll (Err r) = Unit {0}

next_kept : (n : ℕ) (x : Result Said TextRefused) → Keeps n x →
    RiseAll (and_then (λ s. Ok (record { count = n; said = s })) x)
next_kept n (Ok s) h = h
next_kept n (Err r) h = tt

lines_kept : (j : Lines) (ls : List (List ℕ)) → Rise j.count j.said → RiseAll (steps next_line j ls)
lines_kept j [] h = h
lines_kept j (l ∷ ls) h =
    at (next_line j l) (next_kept (j.count + 1) (line_says (j.count + 1) j.said (tokens l)) (line_kept j.count j.said h (tokens l)))
    (λ k. lines_kept k ls)
  where
    at : (x : Result Lines TextRefused) → RiseAll x →
        ((k : Lines) → Rise k.count k.said → RiseAll (steps next_line k ls)) →
        RiseAll (and_then (λ k. steps next_line k ls) x)
    at (Ok k) r more = more k r
    at (Err r) e more = tt

pub shows_rise : ShowLinesRise
unfolding lines_say
shows_rise ls j e =
    Rise.pairs (subst RiseAll e (lines_kept no_line ls (record {
      pairs = λ k m d lt less. absurd (omega arith);
      within = All-nil (λ (m : ListLine). m.line ≤ 0);
    })))
