-- An under line says to the machine what it says.
use Rattle.std.proofs.Common.{◌≡◌, ℕ, Bool, true, false, cond, eqb, leb, List, [], ◌∷◌, ◌++◌, map, ℤ, nat_abs, Option, Some, None, Result, Ok, Err, refl, sym, ap, ◌∙◌, append-nil, append_assoc}
use Rattle.dimacs_tokens.specs.Numbers.{token_value}
use Rattle.dimacs_tokens.specs.Seen.{seen_token, is_nil}
use Rattle.dimacs_front.specs.declared.refused.TextRefused.{TextRefused}
use Rattle.dimacs_front.specs.declared.refused.TextRefused.TheVariants.{UnderBad, UnderUnended}
use Rattle.dimacs_front.specs.declared.line_place.LinePlace.TheVariants.{Under, UnderEnd}
use Rattle.dimacs_front.specs.declared.under_lines.Given.{Given}
use Rattle.dimacs_front.specs.Limits.{most_variables}
use Rattle.dimacs_front.specs.Steps.{and_then, needs}
use Rattle.dimacs_front.specs.ListLines.{list_says, is_literal}
use Rattle.dimacs_front.specs.Machine.{StateView, at_place, literal_given, refuse, under_eaten, eaten, closed}
use Rattle.dimacs_front.proofs.MachineLines.{tokens_said, at_beginning}
use Rattle.dimacs_front.proofs.Ties.{Met, met_map, met_as, refused_line}

-- the machine with these literals given besides
abbrev pub given_in : ℕ → List ℤ → List Given
given_in n ls = map (λ l. record { literal = l; line = n }) ls

abbrev pub with_given_in : ℕ → StateView → List ℤ → StateView
with_given_in n s ls = record s { under = s.under ++ given_in n ls }

abbrev pub given_list : ℕ → List (Option ℤ) → Result (List ℤ) TextRefused
given_list n os = list_says is_literal (UnderBad n) (UnderUnended n) os

module _ (n : ℕ) where
  -- behind an under line of these values
  abbrev pub below_under : StateView → List ℤ → StateView
  below_under s ls = at_beginning (with_given_in n s ls)

  abbrev pub under_ends : StateView → List (List ℕ) → StateView
  under_ends s ts = closed n (tokens_said n s ts)

  abbrev Gives : StateView → List (List ℕ) → Type 0
  Gives s ts = Met (below_under s) (given_list n (map token_value ts)) (under_ends (at_place s Under) ts)

  nothing_more : (s : StateView) → at_beginning s ≡ below_under s []
  nothing_more s = ap (λ gs. at_beginning (record s { under = gs })) (sym (append-nil s.under))

  end_closed : (s : StateView) → closed n (at_place s UnderEnd) ≡ at_beginning s
  unfolding closed
  end_closed s = refl

  behind_end : (s : StateView) (t : List ℕ) →
      eaten n (at_place s UnderEnd) (seen_token t) ≡ refuse s (UnderBad n)
  unfolding eaten
  behind_end s t = refl

  -- behind the 0
  zero_met : (s : StateView) (ts : List (List ℕ)) →
      Met (below_under s) (needs (is_nil (map token_value ts)) (UnderBad n) (Ok []))
      (under_ends (at_place s UnderEnd) ts)
  zero_met s [] = end_closed s ∙ nothing_more s
  zero_met s (t ∷ ts) =
      ap (λ x. StateView.place (closed n (tokens_said n x ts))) (behind_end s t)
      ∙ refused_line n (refuse s (UnderBad n)) (UnderBad n) ts refl

  one_more : (s : StateView) (l : ℤ) (ls : List ℤ) →
      below_under (literal_given n s l) ls ≡ below_under s (l ∷ ls)
  one_more s l ls =
      ap (λ gs. at_beginning (record s { under = gs })) (append_assoc s.under (record { literal = l; line = n } ∷ []) (given_in n ls))

  literal_met : (s : StateView) (l : ℤ) (z m : Bool) (ts : List (List ℕ)) →
      ((u : StateView) → Gives u ts) →
      Met (below_under s)
      (cond z (needs (is_nil (map token_value ts)) (UnderBad n) (Ok [])) (needs m (UnderBad n) (and_then (λ ls. Ok (l ∷ ls)) (given_list n (map token_value ts)))))
      (under_ends (cond z (at_place s UnderEnd) (cond m (at_place (literal_given n s l) Under) (refuse s (UnderBad n)))) ts)
  literal_met s l true m ts ih = zero_met s ts
  literal_met s l false true ts ih =
      met_map (below_under s) (λ ls. l ∷ ls) (given_list n (map token_value ts)) _
      (met_as (below_under (literal_given n s l)) (λ ls. below_under s (l ∷ ls)) (given_list n (map token_value ts)) _
      (one_more s l) (ih (literal_given n s l)))
  literal_met s l false false ts ih = refused_line n (refuse s (UnderBad n)) (UnderBad n) ts refl

  value_met : (s : StateView) (o : Option ℤ) (ts : List (List ℕ)) →
      ((u : StateView) → Gives u ts) →
      Met (below_under s) (given_list n (o ∷ map token_value ts))
      (under_ends (under_eaten n (at_place s Under) o) ts)
  value_met s None ts ih = refused_line n (refuse s (UnderBad n)) (UnderBad n) ts refl
  value_met s (Some l) ts ih =
      literal_met s l (eqb (nat_abs l) 0) (leb (nat_abs l) most_variables) ts ih

  unended : (s : StateView) → Met (below_under s) (Err (UnderUnended n)) (closed n (at_place s Under))
  unfolding closed
  unended s = refl

  pub under_met : (s : StateView) (ts : List (List ℕ)) → Gives s ts
  unfolding eaten seen_token
  under_met s [] = unended s
  under_met s (t ∷ ts) = value_met s (token_value t) ts (λ u. under_met u ts)
