-- The lines of a saved text's own say to the machine what they say, and so do the lists of any such
-- line.
use Rattle.std.proofs.Common.{◌≡◌, ℕ, Bool, true, false, cond, ◌&&◌, ◌||◌, eqb, leb, ltb, List, [], ◌∷◌, ◌++◌, map, ℤ, nat_abs, Option, Some, None, Result, Ok, Err, refl, sym, subst, ap, ◌∙◌, append-nil, append_assoc, lit<}
use Rattle.std.specs.Prelude.{codes}
use Rattle.std.specs.Str.{bytes_eq}
use Rattle.dimacs_tokens.specs.Numbers.{token_value}
use Rattle.dimacs_tokens.specs.Seen.{seen_token, is_nil}
use Rattle.dimacs_tokens.proofs.NumberLaws.{words_by_head}
use Rattle.sat_terms.specs.Cubes.{rises_above, last_variable}
use Rattle.dimacs_front.specs.declared.refused.TextRefused.{TextRefused}
use Rattle.dimacs_front.specs.declared.refused.TextRefused.TheVariants.{SavedBad}
use Rattle.dimacs_front.specs.declared.saved_lines.SavedList.{SavedList}
use Rattle.dimacs_front.specs.declared.saved_place.OpenList.{OpenList}
use Rattle.dimacs_front.specs.declared.saved_place.OpenList.TheVariants.{Line}
use Rattle.dimacs_front.specs.declared.saved_place.SavedPlace.TheVariants.{First, Listed, Complete, End}
use Rattle.dimacs_front.specs.declared.line_place.LinePlace.TheVariants.{Beginning, Saved}
use Rattle.dimacs_front.specs.Limits.{most_variables}
use Rattle.dimacs_front.specs.Steps.{and_then, needs}
use Rattle.dimacs_front.specs.ListLines.{list_says, is_literal}
use Rattle.dimacs_front.specs.SavedTexts.{SavedSaid, is_version, with_line, rising_says, cube_says, last_says}
use Rattle.dimacs_front.specs.Machine.{StateView, at_place, refuse, literal_listed, list_ended, listed_eaten, text_named, eaten, closed}
use Rattle.dimacs_front.proofs.SavedSteps.{last_pushed}
use Rattle.dimacs_front.proofs.MachineLines.{tokens_said}
use Rattle.dimacs_front.proofs.Ties.{Met, met_same, met_as, met_map, refused_line, refused_closed}

-- the machine behind such a line
abbrev pub below_saved : StateView → SavedSaid → StateView
below_saved s k = record s { place = Beginning; saved = k }

module _ (n : ℕ) where
  abbrev pub bad : TextRefused
  bad = SavedBad n

  abbrev pub ends : StateView → List (List ℕ) → StateView
  ends s ts = closed n (tokens_said n s ts)

  -- ---- nothing more may stand in the line

  complete_more : (s : StateView) (t : List ℕ) (ts : List (List ℕ)) →
      (ends (at_place s (Saved Complete)) (t ∷ ts)).place ≡ (ends (refuse s bad) ts).place
  unfolding eaten
  complete_more s t ts = refl

  pub complete_refused : (s : StateView) (t : List ℕ) (ts : List (List ℕ)) →
      Met (λ (u : StateView). u) (Err bad) (ends (at_place s (Saved Complete)) (t ∷ ts))
  complete_refused s t ts = complete_more s t ts ∙ refused_line n (refuse s bad) bad ts refl

  pub complete_closed : (s : StateView) → closed n (at_place s (Saved Complete)) ≡ at_place s Beginning
  unfolding closed
  complete_closed s = refl

  -- ---- the first line

  version_token : (s : StateView) (t : List ℕ) →
      eaten n (at_place s (Saved First)) (seen_token t) ≡
      cond (bytes_eq (seen_token t).head (codes "1") || bytes_eq (seen_token t).head (codes "2")) (text_named s) (refuse s bad)
  unfolding eaten
  version_token s t = refl

  abbrev named_is : StateView → Bool → StateView
  named_is s q = cond q (text_named s) (refuse s bad)

  version_by_word : (s : StateView) (t : List ℕ) →
      eaten n (at_place s (Saved First)) (seen_token t) ≡ named_is s (bytes_eq t (codes "1") || bytes_eq t (codes "2"))
  version_by_word s t =
      version_token s t
      ∙ (λ i. named_is s (words_by_head t (codes "1") (lit< tt) i || words_by_head t (codes "2") (lit< tt) i))

  one_token : (s : StateView) (q : Bool) →
      Met (below_saved s) (needs q bad (Ok (record s.saved { named = true }))) (closed n (named_is s q))
  one_token s true = complete_closed (text_named s)
  one_token s false = refused_closed n (refuse s bad) bad refl

  two_tokens : (s : StateView) (q : Bool) (t : List ℕ) (ts : List (List ℕ)) →
      Met (below_saved s) (Err bad) (ends (named_is s q) (t ∷ ts))
  two_tokens s true t ts = complete_refused (text_named s) t ts
  two_tokens s false t ts = refused_line n (refuse s bad) bad (t ∷ ts) refl

  no_token : (s : StateView) → Met (below_saved s) (Err bad) (closed n (at_place s (Saved First)))
  unfolding closed
  no_token s = refl

  pub first_line_met : (s : StateView) (ts : List (List ℕ)) →
      Met (below_saved s) (needs (is_version ts) bad (Ok (record s.saved { named = true })))
      (ends (at_place s (Saved First)) ts)
  first_line_met s [] = no_token s
  first_line_met s (t ∷ []) =
      let q : Bool = bytes_eq t (codes "1") || bytes_eq t (codes "2") in
      met_same (below_saved s) (needs q bad (Ok (record s.saved { named = true }))) _ _
      (ap (closed n) (version_by_word s t)) (one_token s q)
  first_line_met s (t ∷ u ∷ ts) =
      met_same (below_saved s) (Err bad) _ _
      (ap (λ x. ends x (u ∷ ts)) (version_by_word s t)) (two_tokens s (bytes_eq t (codes "1") || bytes_eq t (codes "2")) u ts)

  -- ---- the end line

  last_closed : (s : StateView) →
      closed n (at_place s (Saved End)) ≡ below_saved s (record s.saved { ended = true })
  unfolding closed
  last_closed s = refl

  last_more : (s : StateView) (t : List ℕ) → eaten n (at_place s (Saved End)) (seen_token t) ≡ refuse s bad
  unfolding eaten
  last_more s t = refl

  pub last_line_met : (s : StateView) (ts : List (List ℕ)) →
      Met (below_saved s) (last_says n s.saved ts) (ends (at_place s (Saved End)) ts)
  last_line_met s [] = last_closed s
  last_line_met s (t ∷ ts) =
      met_same (below_saved s) (Err bad) _ _ (ap (λ x. ends x ts) (last_more s t)) (refused_line n (refuse s bad) bad ts refl)

  -- ---- a cube line, and an open line

  abbrev pub list : List (Option ℤ) → Result (List ℤ) TextRefused
  list os = list_says is_literal bad bad os

  -- the literals, where their variables rise above this one
  abbrev pub rising : ℕ → List ℤ → Result (List ℤ) TextRefused
  rising v ls = needs (rises_above v ls) bad (Ok ls)

  -- where they do not, the line is refused, whatever follows
  abbrev pub nothing : List ℤ → Result (List ℤ) TextRefused
  nothing ls = Err bad

  none_more : (l : ℤ) (x : Result (List ℤ) TextRefused) → and_then nothing x ≡ Err bad →
      and_then nothing (and_then (λ ls. Ok (l ∷ ls)) x) ≡ Err bad
  none_more l (Ok ls) h = refl
  none_more l (Err r) h = h

  none_value : (l : ℤ) (z m e : Bool) (x : Result (List ℤ) TextRefused) → and_then nothing x ≡ Err bad →
      and_then nothing (cond z (needs e bad (Ok [])) (needs m bad (and_then (λ ls. Ok (l ∷ ls)) x))) ≡ Err bad
  none_value l true m true x h = refl
  none_value l true m false x h = refl
  none_value l false true e x h = none_more l x h
  none_value l false false e x h = refl

  pub none_listed : (os : List (Option ℤ)) → and_then nothing (list os) ≡ Err bad
  none_listed [] = refl
  none_listed (None ∷ os) = refl
  none_listed (Some l ∷ os) =
      none_value l (eqb (nat_abs l) 0) (leb (nat_abs l) most_variables) (is_nil os) (list os) (none_listed os)

  pub falls_more : (l : ℤ) (x : Result (List ℤ) TextRefused) →
      and_then (λ ls. needs (false && rises_above (nat_abs l) ls) bad (Ok (l ∷ ls))) x ≡ and_then nothing x
  falls_more l (Ok ls) = refl
  falls_more l (Err r) = refl

  pub first_of_list : (v : ℕ) (l : ℤ) (q : Bool) (x : Result (List ℤ) TextRefused) → ltb v (nat_abs l) ≡ q →
      and_then (rising v) (and_then (λ ls. Ok (l ∷ ls)) x) ≡
      and_then (λ ls. needs (q && rises_above (nat_abs l) ls) bad (Ok (l ∷ ls))) x
  first_of_list v l q (Ok ls) e = ap (λ b. needs (b && rises_above (nat_abs l) ls) bad (Ok (l ∷ ls))) e
  first_of_list v l q (Err r) e = refl

  pub met_more_rising : (f : List ℤ → StateView) (l : ℤ) (x : Result (List ℤ) TextRefused) (u : StateView) →
      Met (λ ls. f (l ∷ ls)) (and_then (rising (nat_abs l)) x) u →
      Met f (and_then (λ ls. needs (true && rises_above (nat_abs l) ls) bad (Ok (l ∷ ls))) x) u
  met_more_rising f l (Ok ls) u h = at (rises_above (nat_abs l) ls) h
    where
      at : (q : Bool) → Met (λ ks. f (l ∷ ks)) (needs q bad (Ok ls)) u → Met f (needs q bad (Ok (l ∷ ls))) u
      at true h = h
      at false h = h
  met_more_rising f l (Err r) u h = h

  -- a list with which its line ends: behind it the machine has kept these literals
  module _ (kind : OpenList) (s : StateView) (keeps : List ℤ → StateView)
      (ended : (done : List ℤ) → list_ended kind n (record s { place = Saved (Listed kind); lits = done }) ≡ at_place (keeps done) (Saved Complete)) where
    abbrev listing : List ℤ → StateView
    listing done = record s { place = Saved (Listed kind); lits = done }

    abbrev kept : List ℤ → StateView
    kept ls = at_place (keeps ls) Beginning

    abbrev Lists : List ℤ → List (List ℕ) → Type 0
    Lists done ts =
        Met (λ ls. kept (done ++ ls)) (and_then (rising (last_variable 0 done)) (list (map token_value ts))) (ends (listing done) ts)

    unended : (done : List ℤ) → Met (λ ls. kept (done ++ ls)) (Err bad) (closed n (listing done))
    unfolding closed
    unended done = refl

    zero_met : (done : List ℤ) (ts : List (List ℕ)) →
        Met (λ ls. kept (done ++ ls)) (and_then (rising (last_variable 0 done)) (needs (is_nil (map token_value ts)) bad (Ok [])))
        (ends (list_ended kind n (listing done)) ts)
    zero_met done [] =
        ap (closed n) (ended done) ∙ complete_closed (keeps done) ∙ ap kept (sym (append-nil done))
    zero_met done (t ∷ ts) =
        met_same (λ ls. kept (done ++ ls)) (Err bad) _ _ (ap (λ x. ends x (t ∷ ts)) (ended done)) (complete_refused (keeps done) t ts)

    pushed_met : (done : List ℤ) (l : ℤ) (ts : List (List ℕ)) → Lists (done ++ l ∷ []) ts →
        Met (λ ls. kept (done ++ (l ∷ ls))) (and_then (rising (nat_abs l)) (list (map token_value ts))) (ends (listing (done ++ l ∷ [])) ts)
    pushed_met done l ts h =
        met_as (λ ls. kept ((done ++ l ∷ []) ++ ls)) (λ ls. kept (done ++ (l ∷ ls))) (and_then (rising (nat_abs l)) (list (map token_value ts))) _
        (λ ls. ap kept (append_assoc done (l ∷ []) ls))
        (subst (λ v. Met (λ ls. kept ((done ++ l ∷ []) ++ ls)) (and_then (rising v) (list (map token_value ts))) (ends (listing (done ++ l ∷ [])) ts)) (last_pushed 0 done l) h)

    literal_met : (done : List ℤ) (l : ℤ) (z m r : Bool) (ts : List (List ℕ)) → ltb (last_variable 0 done) (nat_abs l) ≡ r →
        ((ks : List ℤ) → Lists ks ts) →
        Met (λ ls. kept (done ++ ls))
        (and_then (rising (last_variable 0 done)) (cond z (needs (is_nil (map token_value ts)) bad (Ok [])) (needs m bad (and_then (λ ls. Ok (l ∷ ls)) (list (map token_value ts))))))
        (ends (cond z (list_ended kind n (listing done)) (cond (m && r) (literal_listed (listing done) l) (refuse (listing done) bad))) ts)
    literal_met done l true m r ts e ih = zero_met done ts
    literal_met done l false false r ts e ih = refused_line n (refuse (listing done) bad) bad ts refl
    literal_met done l false true true ts e ih =
        subst (λ x. Met (λ ls. kept (done ++ ls)) x (ends (listing (done ++ l ∷ [])) ts))
        (sym (first_of_list (last_variable 0 done) l true (list (map token_value ts)) e))
        (met_more_rising (λ ls. kept (done ++ ls)) l (list (map token_value ts)) _ (pushed_met done l ts (ih (done ++ l ∷ []))))
    literal_met done l false true false ts e ih =
        subst (λ x. Met (λ ls. kept (done ++ ls)) x (ends (refuse (listing done) bad) ts))
        (sym (first_of_list (last_variable 0 done) l false (list (map token_value ts)) e ∙ falls_more l (list (map token_value ts)) ∙ none_listed (map token_value ts)))
        (refused_line n (refuse (listing done) bad) bad ts refl)

    value_met : (done : List ℤ) (o : Option ℤ) (ts : List (List ℕ)) → ((ks : List ℤ) → Lists ks ts) →
        Met (λ ls. kept (done ++ ls)) (and_then (rising (last_variable 0 done)) (list (o ∷ map token_value ts)))
        (ends (listed_eaten kind n (listing done) o) ts)
    value_met done None ts ih = refused_line n (refuse (listing done) bad) bad ts refl
    value_met done (Some l) ts ih =
        literal_met done l (eqb (nat_abs l) 0) (leb (nat_abs l) most_variables) (ltb (last_variable 0 done) (nat_abs l)) ts refl ih

    pub listed_met : (done : List ℤ) (ts : List (List ℕ)) → Lists done ts
    unfolding eaten seen_token
    listed_met done [] = unended done
    listed_met done (t ∷ ts) = value_met done (token_value t) ts (λ ks. listed_met ks ts)

  -- a cube line, and an open line
  module _ (list : SavedList) (s : StateView) where
    abbrev with_cube : List ℤ → StateView
    with_cube ls = record s { saved = with_line list s.saved (record { line = n; cube = ls }); lits = [] }

    pub cube_line_met : s.lits ≡ [] → (ts : List (List ℕ)) →
        Met (below_saved s) (cube_says list n s.saved ts) (ends (at_place s (Saved (Listed (Line list)))) ts)
    cube_line_met e ts =
        met_map (below_saved s) (λ ls. with_line list s.saved (record { line = n; cube = ls })) (rising_says n (map token_value ts)) _
        (met_as (λ ls. at_place (with_cube ls) Beginning) (λ ls. below_saved s (with_line list s.saved (record { line = n; cube = ls }))) (rising_says n (map token_value ts)) _
        (λ ls. ap (λ ks. record s { place = Beginning; saved = with_line list s.saved (record { line = n; cube = ls }); lits = ks }) (sym e))
        (subst (λ ks. Met (λ ls. at_place (with_cube ls) Beginning) (rising_says n (map token_value ts)) (ends (record s { place = Saved (Listed (Line list)); lits = ks }) ts)) (sym e)
        (listed_met (Line list) s with_cube (λ done. refl) [] ts)))
