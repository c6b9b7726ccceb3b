-- A line of numbers says to the machine what it says.
use Rattle.std.proofs.Common.{◌≡◌, ℕ, ◌+◌, eqb, leb, ltb, List, [], ◌∷◌, length, map, ℤ, nat_abs, Option, Some, None, refl, ap, arith}
use Rattle.std.proofs.lemmas.List.{length_push}
use Rattle.std.proofs.lemmas.List.Sums.{sum_by-append}
use Rattle.dimacs_tokens.specs.Numbers.{token_value}
use Rattle.dimacs_tokens.specs.Seen.{seen_token}
use Rattle.dimacs_front.specs.declared.under_lines.Given.{Given}
use Rattle.dimacs_front.specs.declared.line_place.LinePlace.{LinePlace}
use Rattle.dimacs_front.specs.declared.line_place.LinePlace.TheVariants.{Beginning, Numbers}
use Rattle.dimacs_front.specs.Limits.{most_clauses, most_literals}
use Rattle.dimacs_front.specs.HeaderLines.{Below}
use Rattle.dimacs_front.specs.NumberLines.{literals_of, clause_ended, literal_added, number_says, numbers_say}
use Rattle.dimacs_front.specs.ListLines.{ListLine}
use Rattle.dimacs_front.specs.SavedTexts.{SavedSaid}
use Rattle.dimacs_front.specs.Machine.{StateView, in_clauses, number_eaten, eaten, closed}
use Rattle.dimacs_front.proofs.MachineLines.{tokens_said}
use Rattle.dimacs_front.proofs.Ties.{counted, standing, Met, met_either, met_more, met_closed}

module _ (n : ℕ) (ms : List ListLine) (gs : List Given) (k : SavedSaid) where
  abbrev pub among : Below → StateView
  among w = standing Numbers (Some w) ms gs k

  ended_counts : (w : Below) → literals_of w ≡ literals_of (clause_ended w)
  ended_counts w = omega (arith, sum_by-append length w.clauses (w.open_clause ∷ []))

  added_counts : (w : Below) (l : ℤ) → literals_of w + 1 ≡ literals_of (literal_added w l)
  added_counts w l = omega (arith, length_push w.open_clause l)

  pub number_met : (p : LinePlace) (w : Below) (o : Option ℤ) →
      Met among (number_says n w o) (number_eaten n (standing p (Some w) ms gs k) o)
  number_met p w None = refl
  number_met p w (Some l) =
      met_either among (eqb (nat_abs l) 0) _ _ _ _
      (met_either among (ltb (length w.clauses) most_clauses) _ _ _ _
      (ap (λ k. in_clauses (among w) (counted (clause_ended w) k)) (ended_counts w))
      refl)
      (met_either among (leb (nat_abs l) w.variables) _ _ _ _
      (met_either among (ltb (literals_of w) most_literals) _ _ _ _
      (ap (λ k. in_clauses (among w) (counted (literal_added w l) k)) (added_counts w l))
      refl)
      refl)

  pub numbers_met : (w : Below) (ts : List (List ℕ)) →
      Met among (numbers_say n w (map token_value ts)) (tokens_said n (among w) ts)
  unfolding eaten seen_token
  numbers_met w [] = refl
  numbers_met w (t ∷ ts) =
      met_more among among n (λ v. numbers_say n v (map token_value ts))
      (number_says n w (token_value t)) (number_eaten n (among w) (token_value t)) ts
      (number_met Numbers w (token_value t))
      (λ v. numbers_met v ts)

  among_ends : (w : Below) → closed n (among w) ≡ standing Beginning (Some w) ms gs k
  unfolding closed
  among_ends w = refl

  -- the line, by its first value
  pub number_line_met : (w : Below) (o : Option ℤ) (ts : List (List ℕ)) →
      Met (λ v. standing Beginning (Some v) ms gs k) (numbers_say n w (o ∷ map token_value ts))
      (closed n (tokens_said n (number_eaten n (standing Beginning (Some w) ms gs k) o) ts))
  number_line_met w o ts =
      met_closed among (λ v. standing Beginning (Some v) ms gs k) n (numbers_say n w (o ∷ map token_value ts)) _
      (met_more among among n (λ v. numbers_say n v (map token_value ts)) (number_says n w o) _ ts
      (number_met Beginning w o)
      (λ v. numbers_met v ts))
      among_ends
