-- A show line says to the machine what it says.
use Rattle.std.proofs.Common.{◌≡◌, ℕ, suc, Bool, true, false, cond, eqb, leb, List, [], ◌∷◌, map, ℤ, pos, negsuc, nat_abs, Option, Some, None, Result, Ok, Err, refl, sym, subst, arith}
use Rattle.std.proofs.lemmas.Bool.{cond-false}
use Rattle.std.proofs.lemmas.Bool.Decides.{nat_tests}
use Rattle.dimacs_tokens.specs.Numbers.{token_value}
use Rattle.dimacs_tokens.specs.Seen.{seen_token, is_nil}
use Rattle.dimacs_front.specs.declared.refused.TextRefused.{TextRefused}
use Rattle.dimacs_front.specs.declared.refused.TextRefused.TheVariants.{ShowBad, ShowUnended}
use Rattle.dimacs_front.specs.declared.line_place.LinePlace.TheVariants.{Show}
use Rattle.dimacs_front.specs.declared.show_lines.Named.{Named}
use Rattle.dimacs_front.specs.Limits.{most_variables}
use Rattle.dimacs_front.specs.Steps.{and_then, needs}
use Rattle.dimacs_front.specs.HeaderLines.{natural}
use Rattle.dimacs_front.specs.ListLines.{list_says, is_variable}
use Rattle.dimacs_front.specs.Machine.{StateView, name_once, show_ended, variable_named, refuse, shown_eaten, eaten, closed}
use Rattle.dimacs_front.proofs.MachineLines.{tokens_said, with_names, named_in, names_behind}
use Rattle.dimacs_front.proofs.Ties.{Met, met_map, refused_line}

-- the machine in a show line
abbrev pub showing : StateView → List Named → StateView
showing s named = record s { place = Show; named = named }

suc_is_some : (v : ℕ) → eqb (suc v) 0 ≡ false
suc_is_some v = grind (arith, nat_tests)

abbrev pub shown_list : ℕ → List (Option ℤ) → Result (List ℤ) TextRefused
shown_list n os = list_says is_variable (ShowBad n) (ShowUnended n) os

-- behind a show line of these values
abbrev pub below_show : ℕ → StateView → List Named → List ℤ → StateView
below_show n s named ls = with_names s (names_behind n named (map nat_abs ls))

module _ (n : ℕ) (s : StateView) where
  abbrev ends : StateView → List (List ℕ) → StateView
  ends u ts = closed n (tokens_said n u ts)

  abbrev Shows : List Named → List (List ℕ) → Type 0
  Shows named ts = Met (below_show n s named) (shown_list n (map token_value ts)) (ends (showing s named) ts)

  -- behind the 0
  zero_met : (named : List Named) (ts : List (List ℕ)) →
      Met (below_show n s named) (needs (is_nil (map token_value ts)) (ShowBad n) (Ok []))
      (ends (show_ended (showing s named)) ts)
  unfolding eaten closed
  zero_met named [] = refl
  zero_met named (t ∷ ts) = refused_line n (refuse (show_ended (showing s named)) (ShowBad n)) (ShowBad n) ts refl

  variable_met : (named : List Named) (v : ℕ) (z m : Bool) (ts : List (List ℕ)) →
      ((ks : List Named) → Shows ks ts) →
      Met (below_show n s named)
      (cond z (needs (is_nil (map token_value ts)) (ShowBad n) (Ok [])) (needs m (ShowBad n) (and_then (λ ls. Ok (pos v ∷ ls)) (shown_list n (map token_value ts)))))
      (ends (cond z (show_ended (showing s named)) (cond m (variable_named n (showing s named) v) (refuse (showing s named) (ShowBad n)))) ts)
  variable_met named v true m ts ih = zero_met named ts
  variable_met named v false true ts ih =
      met_map (below_show n s named) (λ ls. pos v ∷ ls) (shown_list n (map token_value ts)) (ends (variable_named n (showing s named) v) ts)
      (ih (name_once named (named_in n v)))
  variable_met named v false false ts ih =
      refused_line n (refuse (showing s named) (ShowBad n)) (ShowBad n) ts refl

  bad_value : (v : ℕ) (x : Result (List ℤ) TextRefused) (z : Result (List ℤ) TextRefused) →
      cond (eqb (suc v) 0) z (needs false (ShowBad n) x) ≡ Err (ShowBad n)
  bad_value v x z = cond-false _ _ _ (suc_is_some v)

  value_met : (named : List Named) (o : Option ℤ) (ts : List (List ℕ)) →
      ((ks : List Named) → Shows ks ts) →
      Met (below_show n s named) (shown_list n (o ∷ map token_value ts))
      (ends (shown_eaten n (showing s named) (natural o)) ts)
  value_met named None ts ih =
      refused_line n (refuse (showing s named) (ShowBad n)) (ShowBad n) ts refl
  value_met named (Some (pos v)) ts ih =
      variable_met named v (eqb v 0) (leb v most_variables) ts ih
  value_met named (Some (negsuc v)) ts ih =
      subst (λ x. Met (below_show n s named) x (ends (refuse (showing s named) (ShowBad n)) ts))
      (sym (bad_value v (and_then (λ ls. Ok (negsuc v ∷ ls)) (shown_list n (map token_value ts))) (needs (is_nil (map token_value ts)) (ShowBad n) (Ok []))))
      (refused_line n (refuse (showing s named) (ShowBad n)) (ShowBad n) ts refl)

  unended : (named : List Named) →
      Met (below_show n s named) (Err (ShowUnended n)) (closed n (showing s named))
  unfolding closed
  unended named = refl

  pub show_met : (named : List Named) (ts : List (List ℕ)) → Shows named ts
  unfolding eaten seen_token
  show_met named [] = unended named
  show_met named (t ∷ ts) = value_met named (token_value t) ts (λ ks. show_met ks ts)
