-- The lines of a met text's own say to the machine what they say.
use Rattle.std.proofs.Common.{◌≡◌, ℕ, Bool, true, false, cond, ◌&&◌, eqb, leb, ltb, List, [], ◌∷◌, ◌++◌, map, ℤ, nat_abs, Option, Some, None, Result, Ok, Err, refl, sym, subst, ap, ◌∙◌, append-nil, append_assoc, lit<}
use Rattle.std.specs.Prelude.{codes}
use Rattle.std.specs.Str.{bytes_eq}
use Rattle.dimacs_tokens.specs.Numbers.{token_value}
use Rattle.dimacs_tokens.specs.Seen.{seen_token, is_nil}
use Rattle.dimacs_tokens.proofs.NumberLaws.{words_by_head}
use Rattle.sat_terms.specs.Cubes.{rises_above, last_variable}
use Rattle.dimacs_front.specs.declared.refused.TextRefused.{TextRefused}
use Rattle.dimacs_front.specs.declared.saved_place.OpenList.TheVariants.{Shown, Hidden}
use Rattle.dimacs_front.specs.declared.saved_place.SavedPlace.TheVariants.{MetFirst, Listed}
use Rattle.dimacs_front.specs.declared.line_place.LinePlace.TheVariants.{Beginning, Saved}
use Rattle.dimacs_front.specs.Limits.{most_variables}
use Rattle.dimacs_front.specs.Steps.{and_then, needs}
use Rattle.dimacs_front.specs.SavedTexts.{SavedSaid, is_met_version, rising_says, up_to_zero, behind_zero, with_met, hidden_says, met_says}
use Rattle.dimacs_front.specs.Machine.{StateView, at_place, refuse, literal_listed, list_ended, listed_eaten, met_named, eaten, closed}
use Rattle.dimacs_front.proofs.SavedSteps.{last_pushed}
use Rattle.dimacs_front.proofs.Ties.{Met, met_same, met_as, met_map, refused_line, refused_closed}
use Rattle.dimacs_front.proofs.SavedTie.{below_saved, bad, ends, list, rising, complete_closed, complete_refused, none_listed, falls_more, first_of_list, listed_met}

module _ (n : ℕ) where
  -- ---- the first line

  version_token : (s : StateView) (t : List ℕ) →
      eaten n (at_place s (Saved MetFirst)) (seen_token t) ≡
      cond (bytes_eq (seen_token t).head (codes "1")) (met_named s) (refuse s (bad n))
  unfolding eaten
  version_token s t = refl

  abbrev named_is : StateView → Bool → StateView
  named_is s q = cond q (met_named s) (refuse s (bad n))

  version_by_word : (s : StateView) (t : List ℕ) →
      eaten n (at_place s (Saved MetFirst)) (seen_token t) ≡ named_is s (bytes_eq t (codes "1"))
  version_by_word s t = version_token s t ∙ (λ i. named_is s (words_by_head t (codes "1") (lit< tt) i))

  one_token : (s : StateView) (q : Bool) →
      Met (below_saved s) (needs q (bad n) (Ok (record s.saved { met = true }))) (closed n (named_is s q))
  one_token s true = complete_closed n (met_named s)
  one_token s false = refused_closed n (refuse s (bad n)) (bad n) refl

  two_tokens : (s : StateView) (q : Bool) (t : List ℕ) (ts : List (List ℕ)) →
      Met (below_saved s) (Err (bad n)) (ends n (named_is s q) (t ∷ ts))
  two_tokens s true t ts = complete_refused n (met_named s) t ts
  two_tokens s false t ts = refused_line n (refuse s (bad n)) (bad n) (t ∷ ts) refl

  no_token : (s : StateView) → Met (below_saved s) (Err (bad n)) (closed n (at_place s (Saved MetFirst)))
  unfolding closed
  no_token s = refl

  pub met_first_line_met : (s : StateView) (ts : List (List ℕ)) →
      Met (below_saved s) (needs (is_met_version ts) (bad n) (Ok (record s.saved { met = true })))
      (ends n (at_place s (Saved MetFirst)) ts)
  met_first_line_met s [] = no_token s
  met_first_line_met s (t ∷ []) =
      let q : Bool = bytes_eq t (codes "1") in
      met_same (below_saved s) (needs q (bad n) (Ok (record s.saved { met = true }))) _ _
      (ap (closed n) (version_by_word s t)) (one_token s q)
  met_first_line_met s (t ∷ u ∷ ts) =
      met_same (below_saved s) (Err (bad n)) _ _
      (ap (λ x. ends n x (u ∷ ts)) (version_by_word s t)) (two_tokens s (bytes_eq t (codes "1")) u ts)

  -- ---- a met line

  module _ (s : StateView) (no_lits : s.lits ≡ []) (no_first : s.first ≡ []) where
    -- the first list, behind these literals
    abbrev showing : List ℤ → StateView
    showing done = record s { place = Saved (Listed Shown); lits = done }

    abbrev keeping : List ℤ → List ℤ → SavedSaid
    keeping cube hidden = with_met s.saved (record { line = n; met = record { cube = cube; hidden = hidden } })

    -- the second list, behind this cube
    abbrev hiding : List ℤ → StateView
    hiding cube = record s { first = cube }

    abbrev with_hidden : List ℤ → List ℤ → StateView
    with_hidden cube ls = record s { saved = keeping cube ls; lits = []; first = [] }

    second_met : (cube : List ℤ) (ts : List (List ℕ)) →
        Met (below_saved s) (hidden_says n s.saved (map token_value ts) cube)
        (ends n (list_ended Shown n (showing cube)) ts)
    second_met cube ts =
        met_map (below_saved s) (keeping cube) (rising_says n (map token_value ts)) _
        (met_as (λ ls. at_place (with_hidden cube ls) Beginning) (λ ls. below_saved s (keeping cube ls)) (rising_says n (map token_value ts)) _
        (λ ls i. record s { place = Beginning; saved = keeping cube ls; lits = sym no_lits i; first = sym no_first i })
        (listed_met n Hidden (hiding cube) (with_hidden cube) (λ done. refl) [] ts))

    abbrev hidden_of : List (Option ℤ) → List ℤ → Result SavedSaid TextRefused
    hidden_of os cube = hidden_says n s.saved (behind_zero os) cube

    -- what the line says, where these literals of its first list stand already
    abbrev says_behind : List ℤ → List (Option ℤ) → Result SavedSaid TextRefused
    says_behind done os =
        and_then (λ ls. hidden_of os (done ++ ls)) (and_then (rising n (last_variable 0 done)) (list n (up_to_zero os)))

    abbrev Shows : List ℤ → List (List ℕ) → Type 0
    Shows done ts = Met (below_saved s) (says_behind done (map token_value ts)) (ends n (showing done) ts)

    unended : (done : List ℤ) → Met (below_saved s) (Err (bad n)) (closed n (showing done))
    unfolding closed
    unended done = refl

    -- what follows a list that is refused
    refused_first : (f : List ℤ → Result SavedSaid TextRefused) (x y : Result (List ℤ) TextRefused) → x ≡ y →
        and_then f x ≡ and_then f y
    refused_first f x y e = ap (and_then f) e

    pushed_is : (done : List ℤ) (l : ℤ) (os : List (Option ℤ)) (x : Result (List ℤ) TextRefused) →
        and_then (λ ls. hidden_of os (done ++ ls)) (and_then (λ ls. Ok (l ∷ ls)) x) ≡
        and_then (λ ls. hidden_of os ((done ++ l ∷ []) ++ ls)) x
    pushed_is done l os (Ok ls) = ap (hidden_of os) (sym (append_assoc done (l ∷ []) ls))
    pushed_is done l os (Err r) = refl

    rising_pushed : (v : ℕ) (l : ℤ) (x : Result (List ℤ) TextRefused) →
        and_then (λ ls. needs (true && rises_above (nat_abs l) ls) (bad n) (Ok (l ∷ ls))) x ≡
        and_then (λ ls. Ok (l ∷ ls)) (and_then (rising n (nat_abs l)) x)
    rising_pushed v l (Ok ls) = at (rises_above (nat_abs l) ls)
      where
        at : (q : Bool) → needs q (bad n) (Ok (l ∷ ls)) ≡ and_then (λ ks. Ok (l ∷ ks)) (needs q (bad n) (Ok ls))
        at true = refl
        at false = refl
    rising_pushed v l (Err r) = refl

    -- one more literal that rises
    risen : (done : List ℤ) (l : ℤ) (os ps : List (Option ℤ)) → ltb (last_variable 0 done) (nat_abs l) ≡ true →
        and_then (λ ls. hidden_of os (done ++ ls)) (and_then (rising n (last_variable 0 done)) (and_then (λ ls. Ok (l ∷ ls)) (list n ps))) ≡
        and_then (λ ls. hidden_of os ((done ++ l ∷ []) ++ ls)) (and_then (rising n (last_variable 0 (done ++ l ∷ []))) (list n ps))
    risen done l os ps e =
        ap (and_then (λ ls. hidden_of os (done ++ ls)))
        (first_of_list n (last_variable 0 done) l true (list n ps) e ∙ rising_pushed 0 l (list n ps))
        ∙ pushed_is done l os (and_then (rising n (nat_abs l)) (list n ps))
        ∙ ap (λ v. and_then (λ ls. hidden_of os ((done ++ l ∷ []) ++ ls)) (and_then (rising n v) (list n ps))) (sym (last_pushed 0 done l))

    -- one that does not
    fallen : (done : List ℤ) (l : ℤ) (os ps : List (Option ℤ)) → ltb (last_variable 0 done) (nat_abs l) ≡ false →
        and_then (λ ls. hidden_of os (done ++ ls)) (and_then (rising n (last_variable 0 done)) (and_then (λ ls. Ok (l ∷ ls)) (list n ps))) ≡ Err (bad n)
    fallen done l os ps e =
        ap (and_then (λ ls. hidden_of os (done ++ ls)))
        (first_of_list n (last_variable 0 done) l false (list n ps) e ∙ falls_more n l (list n ps) ∙ none_listed n ps)

    zero_met : (done : List ℤ) (ts : List (List ℕ)) →
        Met (below_saved s) (and_then (λ ls. hidden_says n s.saved (map token_value ts) (done ++ ls)) (Ok []))
        (ends n (list_ended Shown n (showing done)) ts)
    zero_met done ts =
        subst (λ c. Met (below_saved s) (hidden_says n s.saved (map token_value ts) c) (ends n (list_ended Shown n (showing done)) ts))
        (sym (append-nil done)) (second_met done ts)

    -- a number l of the first list, by whether it is 0, not too large, and above the one before
    literal_met : (done : List ℤ) (l : ℤ) (z m r : Bool) (ts : List (List ℕ)) → ltb (last_variable 0 done) (nat_abs l) ≡ r →
        ((ks : List ℤ) → Shows ks ts) →
        Met (below_saved s)
        (and_then (λ ls. hidden_says n s.saved (cond z (map token_value ts) (behind_zero (map token_value ts))) (done ++ ls))
        (and_then (rising n (last_variable 0 done))
        (cond z (needs (is_nil (cond z [] (up_to_zero (map token_value ts)))) (bad n) (Ok []))
        (needs m (bad n) (and_then (λ ls. Ok (l ∷ ls)) (list n (cond z [] (up_to_zero (map token_value ts)))))))))
        (ends n (cond z (list_ended Shown n (showing done)) (cond (m && r) (literal_listed (showing done) l) (refuse (showing done) (bad n)))) ts)
    literal_met done l true m r ts e ih = zero_met done ts
    literal_met done l false false r ts e ih = refused_line n (refuse (showing done) (bad n)) (bad n) ts refl
    literal_met done l false true true ts e ih =
        subst (λ x. Met (below_saved s) x (ends n (showing (done ++ l ∷ [])) ts))
        (sym (risen done l (map token_value ts) (up_to_zero (map token_value ts)) e)) (ih (done ++ l ∷ []))
    literal_met done l false true false ts e ih =
        subst (λ x. Met (below_saved s) x (ends n (refuse (showing done) (bad n)) ts))
        (sym (fallen done l (map token_value ts) (up_to_zero (map token_value ts)) e))
        (refused_line n (refuse (showing done) (bad n)) (bad n) ts refl)

    value_met : (done : List ℤ) (o : Option ℤ) (ts : List (List ℕ)) → ((ks : List ℤ) → Shows ks ts) →
        Met (below_saved s) (says_behind done (o ∷ map token_value ts)) (ends n (listed_eaten Shown n (showing done) o) ts)
    value_met done None ts ih = refused_line n (refuse (showing done) (bad n)) (bad n) ts refl
    value_met done (Some l) ts ih =
        literal_met done l (eqb (nat_abs l) 0) (leb (nat_abs l) most_variables) (ltb (last_variable 0 done) (nat_abs l)) ts refl ih

    shown_met : (done : List ℤ) (ts : List (List ℕ)) → Shows done ts
    unfolding eaten seen_token
    shown_met done [] = unended done
    shown_met done (t ∷ ts) = value_met done (token_value t) ts (λ ks. shown_met ks ts)

    pub met_line_met : (ts : List (List ℕ)) →
        Met (below_saved s) (met_says n s.saved (map token_value ts)) (ends n (at_place s (Saved (Listed Shown))) ts)
    met_line_met ts =
        subst (λ ks. Met (below_saved s) (met_says n s.saved (map token_value ts)) (ends n (record s { place = Saved (Listed Shown); lits = ks }) ts)) (sym no_lits)
        (shown_met [] ts)
