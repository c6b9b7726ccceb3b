-- The header says to the machine what it says.
use Rattle.std.proofs.Common.{◌≡◌, ℕ, Bool, true, false, cond, ◌&&◌, leb, List, [], ◌∷◌, fold, Option, Some, None, Err, refl, ap, ◌∙◌, lit<}
use Rattle.std.specs.Prelude.{codes}
use Rattle.std.specs.Str.{bytes_eq}
use Rattle.std.proofs.lemmas.List.Folds.{fold_stays}
use Rattle.dimacs_tokens.specs.Numbers.{value_of, token_value}
use Rattle.dimacs_tokens.specs.Seen.{seen_token}
use Rattle.dimacs_tokens.proofs.NumberLaws.{words_by_head}
use Rattle.dimacs_front.specs.declared.under_lines.Given.{Given}
use Rattle.dimacs_front.specs.declared.refused.TextRefused.TheVariants.{BadHeader}
use Rattle.dimacs_front.specs.declared.header_place.HeaderPlace.{HeaderPlace}
use Rattle.dimacs_front.specs.declared.header_place.HeaderPlace.TheVariants.{Word, Variables, Clauses, End, Broken}
use Rattle.dimacs_front.specs.declared.line_place.LinePlace.TheVariants.{Beginning, Header}
use Rattle.dimacs_front.specs.Limits.{most_variables, most_clauses}
use Rattle.dimacs_front.specs.Steps.{needs}
use Rattle.dimacs_front.specs.HeaderLines.{Below, natural, header_of, header_says}
use Rattle.dimacs_front.specs.ListLines.{ListLine}
use Rattle.dimacs_front.specs.SavedTexts.{SavedSaid}
use Rattle.dimacs_front.specs.MachineHeader.{header_begun, behind_variables, behind_clauses, header_after}
use Rattle.dimacs_front.specs.Machine.{StateView, at_place, refuse, eaten, header_ended, closed}
use Rattle.dimacs_front.proofs.MachineLines.{tokens_said}
use Rattle.dimacs_front.proofs.Ties.{standing, Met, met_either, met_same}

-- the place behind these tokens
abbrev places : HeaderPlace → List (List ℕ) → HeaderPlace
places h ts = fold (λ q t. header_after q (seen_token t)) h ts

token_placed : (n : ℕ) (s : StateView) (h : HeaderPlace) (t : List ℕ) →
    eaten n (at_place s (Header h)) (seen_token t) ≡ at_place s (Header (header_after h (seen_token t)))
unfolding eaten
token_placed n s h t = refl

tokens_placed : (n : ℕ) (s : StateView) (h : HeaderPlace) (ts : List (List ℕ)) →
    tokens_said n (at_place s (Header h)) ts ≡ at_place s (Header (places h ts))
tokens_placed n s h [] = refl
tokens_placed n s h (t ∷ ts) =
    ap (λ x. tokens_said n x ts) (token_placed n s h t)
    ∙ tokens_placed n s (header_after h (seen_token t)) ts

broken_places : (ts : List (List ℕ)) → places Broken ts ≡ Broken
broken_places ts = fold_stays (λ q t. header_after q (seen_token t)) Broken (λ t. refl) ts

-- behind the second and the third token, by the tests of the words
behind_two : (d : Bool) (v : List ℕ) (ts : List (List ℕ)) →
    places (cond d Variables Broken) (v ∷ ts) ≡
    cond d (places (behind_variables (natural (value_of (seen_token v).number))) ts) Broken
behind_two true v ts = refl
behind_two false v ts = broken_places (v ∷ ts)

behind_three : (b : Bool) (cnf v : List ℕ) (ts : List (List ℕ)) →
    places (cond b Word Broken) (cnf ∷ v ∷ ts) ≡
    cond b (cond (bytes_eq (seen_token cnf).head (codes "cnf")) (places (behind_variables (natural (value_of (seen_token v).number))) ts) Broken) Broken
behind_three true cnf v ts = behind_two (bytes_eq (seen_token cnf).head (codes "cnf")) v ts
behind_three false cnf v ts = broken_places (cnf ∷ v ∷ ts)

-- five tokens are too many
broken_at : (v : ℕ) (o : Option ℕ) (x : List ℕ) (ts : List (List ℕ)) →
    places (header_after (behind_clauses v o) (seen_token x)) ts ≡ Broken
broken_at v None x ts = broken_places ts
broken_at v (Some c) x ts = broken_places ts

broken_five : (o : Option ℕ) (c x : List ℕ) (ts : List (List ℕ)) →
    places (behind_variables o) (c ∷ x ∷ ts) ≡ Broken
broken_five None c x ts = broken_places (c ∷ x ∷ ts)
broken_five (Some v) c x ts = broken_at v (natural (value_of (seen_token c).number)) x ts

module _ (n : ℕ) (ms : List ListLine) (gs : List Given) (k : SavedSaid) where
  abbrev above : StateView
  above = standing Beginning None ms gs k

  abbrev behind : Below → StateView
  behind w = standing Beginning (Some w) ms gs k

  abbrev ends : HeaderPlace → StateView
  ends h = header_ended h n above

  one_is_few : (b : Bool) → ends (cond b Word Broken) ≡ refuse above (BadHeader n)
  one_is_few true = refl
  one_is_few false = refl

  two_are_few-at : (d : Bool) → ends (cond d Variables Broken) ≡ refuse above (BadHeader n)
  two_are_few-at true = refl
  two_are_few-at false = refl

  two_are_few : (b : Bool) (cnf : List ℕ) →
      ends (places (cond b Word Broken) (cnf ∷ [])) ≡ refuse above (BadHeader n)
  two_are_few true cnf = two_are_few-at (bytes_eq (seen_token cnf).head (codes "cnf"))
  two_are_few false cnf = refl

  three_are_few : (b d : Bool) (o : Option ℕ) →
      ends (cond b (cond d (behind_variables o) Broken) Broken) ≡ refuse above (BadHeader n)
  three_are_few true true None = refl
  three_are_few true true (Some v) = refl
  three_are_few true false o = refl
  three_are_few false d o = refl

  numbers_met : (v : ℕ) (o : Option ℕ) →
      Met behind (header_of n (Some v) o) (ends (behind_clauses v o))
  numbers_met v None = refl
  numbers_met v (Some c) =
      met_either behind (leb v most_variables) _ _ _ _
      (met_either behind (leb c most_clauses) _ _ _ _ refl refl)
      refl

  four_met : (b d : Bool) (o : Option ℕ) (c : List ℕ) →
      Met behind (needs (b && d) (BadHeader n) (header_of n o (natural (token_value c))))
      (ends (cond b (cond d (header_after (behind_variables o) (seen_token c)) Broken) Broken))
  unfolding seen_token
  four_met true true None c = refl
  four_met true true (Some v) c = numbers_met v (natural (token_value c))
  four_met true false o c = refl
  four_met false d o c = refl

  five_are_many : (b d : Bool) →
      ends (cond b (cond d Broken Broken) Broken) ≡ refuse above (BadHeader n)
  five_are_many true true = refl
  five_are_many true false = refl
  five_are_many false d = refl

  refused : (h : HeaderPlace) → ends h ≡ refuse above (BadHeader n) →
      Met behind (Err (BadHeader n)) (ends h)
  refused h e = ap (λ s. StateView.place s) e

  tests_met : (p : List ℕ) (ts : List (List ℕ)) →
      Met behind (header_says n (p ∷ ts)) (ends (places (header_begun (seen_token p)) ts))
  unfolding header_says seen_token
  tests_met p [] = refused (cond (bytes_eq (seen_token p).head (codes "p")) Word Broken) (one_is_few (bytes_eq (seen_token p).head (codes "p")))
  tests_met p (cnf ∷ []) = refused (places (cond (bytes_eq (seen_token p).head (codes "p")) Word Broken) (cnf ∷ [])) (two_are_few (bytes_eq (seen_token p).head (codes "p")) cnf)
  tests_met p (cnf ∷ v ∷ []) =
      let b = bytes_eq (seen_token p).head (codes "p") in
      let d = bytes_eq (seen_token cnf).head (codes "cnf") in
      refused (places (cond b Word Broken) (cnf ∷ v ∷ [])) (ap ends (behind_three b cnf v []) ∙ three_are_few b d (natural (token_value v)))
  tests_met p (cnf ∷ v ∷ c ∷ []) =
      let b = bytes_eq (seen_token p).head (codes "p") in
      met_same behind (header_says n (p ∷ cnf ∷ v ∷ c ∷ [])) _ _
      (ap ends (behind_three b cnf v (c ∷ []))
      ∙ (λ i. ends (cond (words_by_head p (codes "p") (lit< tt) i) (cond (words_by_head cnf (codes "cnf") (lit< tt) i) (header_after (behind_variables (natural (token_value v))) (seen_token c)) Broken) Broken)))
      (four_met (bytes_eq p (codes "p")) (bytes_eq cnf (codes "cnf")) (natural (token_value v)) c)
  tests_met p (cnf ∷ v ∷ c ∷ x ∷ ts) =
      let b = bytes_eq (seen_token p).head (codes "p") in
      let d = bytes_eq (seen_token cnf).head (codes "cnf") in
      refused (places (cond b Word Broken) (cnf ∷ v ∷ c ∷ x ∷ ts))
      (ap ends (behind_three b cnf v (c ∷ x ∷ ts))
      ∙ ap (λ h. ends (cond b (cond d h Broken) Broken)) (broken_five (natural (token_value v)) c x ts)
      ∙ five_are_many b d)

  header_closed : (h : HeaderPlace) → closed n (at_place above (Header h)) ≡ ends h
  unfolding closed
  header_closed Word = refl
  header_closed Variables = refl
  header_closed (Clauses v) = refl
  header_closed (End v c) = refl
  header_closed Broken = refl

  -- the line, from its first place
  pub header_met : (p : List ℕ) (ts : List (List ℕ)) →
      Met behind (header_says n (p ∷ ts))
      (closed n (tokens_said n (at_place above (Header (header_begun (seen_token p)))) ts))
  header_met p ts =
      met_same behind (header_says n (p ∷ ts)) _ _
      (ap (closed n) (tokens_placed n above (header_begun (seen_token p)) ts)
      ∙ header_closed (places (header_begun (seen_token p)) ts))
      (tests_met p ts)
