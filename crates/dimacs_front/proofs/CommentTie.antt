-- A comment line says to the machine what it says.
use Rattle.std.proofs.Common.{◌≡◌, ℕ, Bool, true, false, not, cond, ◌&&◌, ◌||◌, eqb, List, [], ◌∷◌, map, ◌++◌, ℤ, nat_abs, Option, Result, Ok, refl, sym, ap, ◌∙◌, lit<}
use Rattle.std.specs.Prelude.{codes}
use Rattle.std.specs.Str.{bytes_eq}
use Rattle.std.proofs.lemmas.Bool.{cond-true}
use Rattle.std.proofs.lemmas.List.Sums.{fold-append}
use Rattle.dimacs_tokens.specs.Numbers.{token_value}
use Rattle.dimacs_tokens.specs.Seen.{seen_token, begins_with, is_nil}
use Rattle.dimacs_tokens.proofs.NumberLaws.{words_by_head}
use Rattle.dimacs_front.specs.declared.under_lines.Given.{Given}
use Rattle.dimacs_front.specs.declared.refused.TextRefused.{TextRefused}
use Rattle.dimacs_front.specs.declared.refused.TextRefused.TheVariants.{SavedBad}
use Rattle.dimacs_front.specs.declared.line_place.LinePlace.{LinePlace}
use Rattle.dimacs_front.specs.declared.comment_place.CommentPlace.{CommentPlace}
use Rattle.dimacs_front.specs.declared.comment_place.CommentPlace.TheVariants as comment
use Rattle.dimacs_front.specs.declared.line_place.LinePlace.TheVariants.{Beginning, Comment, Show, Under, Saved, Refused}
use Rattle.dimacs_front.specs.declared.saved_lines.SavedList.TheVariants.{Cubes, Pending}
use Rattle.dimacs_front.specs.declared.saved_place.SavedPlace.{SavedPlace}
use Rattle.dimacs_front.specs.declared.saved_place.SavedPlace.TheVariants.{Listed, End}
use Rattle.dimacs_front.specs.declared.saved_place.OpenList.TheVariants.{Line, Shown}
use Rattle.dimacs_front.specs.MachinePlaces.{in_comment}
use Rattle.dimacs_front.specs.Steps.{and_then, needs}
use Rattle.dimacs_front.specs.HeaderLines.{Below}
use Rattle.dimacs_front.specs.ListLines.{ListLine, show_says, under_says}
use Rattle.dimacs_front.specs.SavedTexts.{SavedSaid, is_version, is_met_version, own_line, cube_says, met_says, last_says}
use Rattle.dimacs_front.specs.TextLines.{Said, with_show, with_given, with_saved, comment_says}
use Rattle.dimacs_front.specs.Machine.{StateView, eaten, closed}
use Rattle.dimacs_front.proofs.MachineLines.{tokens_said, line_said, names_behind}
use Rattle.dimacs_front.proofs.Ties.{names_of, standing, state_of, Met, met_same, met_map, met_as, refused_line}
use Rattle.dimacs_front.proofs.UnderTie.{given_list, under_met}
use Rattle.dimacs_front.proofs.SavedTie.{below_saved, first_line_met, cube_line_met, last_line_met}
use Rattle.dimacs_front.proofs.MetTie.{met_first_line_met, met_line_met}
use Rattle.dimacs_front.proofs.ListTie.{below_show, shown_list, show_met}

-- a word that is `p` is not `allsat`
one_word : (u : List ℕ) → (bytes_eq u (codes "p") && bytes_eq u (codes "allsat")) ≡ false
one_word [] = refl
one_word (b ∷ []) = at (eqb b 112)
  where
    at : (m : Bool) → ((m && true) && (eqb b 97 && false)) ≡ false
    at true = both (eqb b 97)
      where
        both : (k : Bool) → (true && (k && false)) ≡ false
        both true = refl
        both false = refl
    at false = refl
one_word (b ∷ c ∷ bs) = at (eqb b 112)
  where
    at : (m : Bool) → ((m && false) && bytes_eq (b ∷ c ∷ bs) (codes "allsat")) ≡ false
    at true = refl
    at false = refl

-- the places behind the first, the second and the third token, by which words they are
abbrev behind_one : Bool → CommentPlace
behind_one c = cond c comment.Word comment.Passed

abbrev behind_two : Bool → Bool → Bool → CommentPlace
behind_two c p a = cond c (cond p comment.Parted (cond a comment.Named comment.Passed)) comment.Passed

-- behind `c p` and the word of a kind of line
abbrev by_kind : Bool → Bool → Bool → Bool → Bool → Bool → CommentPlace
by_kind w u b v e l =
    cond w comment.Show (cond u comment.Under (cond b comment.Cube (cond v comment.Open (cond e comment.End (cond l comment.MetLine comment.Passed)))))

-- and behind `c allsat`
abbrev by_text : Bool → Bool → CommentPlace
by_text m s = cond m comment.Met (cond s comment.Saved comment.Passed)

abbrev behind_three : Bool → Bool → Bool → CommentPlace → CommentPlace → CommentPlace
behind_three c p a x y = cond c (cond p x (cond a y comment.Passed)) comment.Passed

-- the words of a kind of line, and of the first line of a text of the program's own
abbrev three : Bool → Bool → Bool → Bool
three c p w = c && (p && (w && true))

-- the place by whole words, in their order
abbrev by_all : Bool → Bool → Bool → Bool → Bool → Bool → Bool → Bool → CommentPlace
by_all w u m s b v e l =
    cond w comment.Show (cond u comment.Under (cond m comment.Met (cond s comment.Saved (cond b comment.Cube (cond v comment.Open (cond e comment.End (cond l comment.MetLine comment.Passed)))))))

and_true : (b : Bool) → (b && true) ≡ b
and_true true = refl
and_true false = refl

no_text : (one : Bool) → (one && false) ≡ false
no_text true = refl
no_text false = refl

one_text : (one m : Bool) → (one && (m && true)) ≡ (one && m)
one_text true m = and_true m
one_text false m = refl

kind_places : (one w u b v e l : Bool) →
    by_kind w u b v e l ≡ by_all (w && true) (u && true) (one && false) (one && false) (b && true) (v && true) (e && true) (l && true)
kind_places one w u b v e l =
    (λ i. by_all (sym (and_true w) i) (sym (and_true u) i) (sym (no_text one) i) (sym (no_text one) i) (sym (and_true b) i) (sym (and_true v) i) (sym (and_true e) i) (sym (and_true l) i))

text_places : (one m s : Bool) →
    cond one (by_text m s) comment.Passed ≡ by_all false false (one && (m && true)) (one && (s && true)) false false false false
text_places true m s = (λ i. by_all false false (sym (and_true m) i) (sym (and_true s) i) false false false false)
text_places false m s = refl

three_places : (one c p a w u m s b v e l : Bool) → (p && a) ≡ false →
    behind_three c p (one && a) (by_kind w u b v e l) (by_text m s) ≡
    by_all (three c p w) (three c p u) (one && three c a m) (one && three c a s) (three c p b) (three c p v) (three c p e) (three c p l)
three_places one false p a w u m s b v e l h =
    (λ i. by_all false false (sym (no_text one) i) (sym (no_text one) i) false false false false)
three_places one true true true w u m s b v e l h = absurd (cc)
three_places one true true false w u m s b v e l h = kind_places one w u b v e l
three_places true true false true w u m s b v e l h = text_places true m s
three_places false true false true w u m s b v e l h = refl
three_places one true false false w u m s b v e l h =
    (λ i. behind_three true false (no_text one i) (by_kind w u b v e l) (by_text m s))
    ∙ (λ i. by_all false false (sym (no_text one) i) (sym (no_text one) i) false false false false)

-- too few tokens
few_are_no_kind : (c p : Bool) → (c && (p && false)) ≡ false
few_are_no_kind true true = refl
few_are_no_kind true false = refl
few_are_no_kind false p = refl

few_are_no_text : (one c a : Bool) → (one && (c && (a && false))) ≡ false
few_are_no_text true c a = few_are_no_kind c a
few_are_no_text false c a = refl

one_is_no_kind : (c : Bool) → (c && false) ≡ false
one_is_no_kind true = refl
one_is_no_kind false = refl

one_is_no_text : (one c : Bool) → (one && (c && false)) ≡ false
one_is_no_text true c = one_is_no_kind c
one_is_no_text false c = refl

module _ (n : ℕ) (o : Option Below) (ms : List ListLine) (gs : List Given) (k : SavedSaid) where
  abbrev at : LinePlace → StateView
  at p = standing p o ms gs k

  first : (t : List ℕ) → begins_with (seen_token t) 99 ≡ true →
      eaten n (at Beginning) (seen_token t) ≡ at (in_comment k n (behind_one (bytes_eq (seen_token t).head (codes "c"))))
  unfolding eaten
  first t h = cond-true _ _ _ h

  second : (c : Bool) (t : List ℕ) →
      eaten n (at (in_comment k n (behind_one c))) (seen_token t) ≡
      at (in_comment k n (behind_two c (bytes_eq (seen_token t).head (codes "p")) (eqb n 1 && bytes_eq (seen_token t).head (codes "allsat"))))
  unfolding eaten
  second true t = refl
  second false t = refl

  abbrev kind_of : List ℕ → CommentPlace
  kind_of h = by_kind (bytes_eq h (codes "show")) (bytes_eq h (codes "under")) (bytes_eq h (codes "cube")) (bytes_eq h (codes "open")) (bytes_eq h (codes "end")) (bytes_eq h (codes "met"))

  abbrev text_of : List ℕ → CommentPlace
  text_of h = by_text (bytes_eq h (codes "met")) (bytes_eq h (codes "saved"))

  third : (c p a : Bool) (t : List ℕ) →
      eaten n (at (in_comment k n (behind_two c p a))) (seen_token t) ≡
      at (in_comment k n (behind_three c p a (kind_of (seen_token t).head) (text_of (seen_token t).head)))
  unfolding eaten
  third true true a t = refl
  third true false true t = refl
  third true false false t = refl
  third false p a t = refl

  passed_token : (t : List ℕ) → eaten n (at (Comment comment.Passed)) (seen_token t) ≡ at (Comment comment.Passed)
  unfolding eaten
  passed_token t = refl

  passed_tokens : (ts : List (List ℕ)) → tokens_said n (at (Comment comment.Passed)) ts ≡ at (Comment comment.Passed)
  passed_tokens [] = refl
  passed_tokens (t ∷ ts) = ap (λ x. tokens_said n x ts) (passed_token t) ∙ passed_tokens ts

  one_ends : (c : Bool) → closed n (at (in_comment k n (behind_one c))) ≡ at Beginning
  unfolding closed
  one_ends true = refl
  one_ends false = refl

  two_end : (c p a : Bool) → closed n (at (in_comment k n (behind_two c p a))) ≡ at Beginning
  unfolding closed
  two_end true true a = refl
  two_end true false true = refl
  two_end true false false = refl
  two_end false p a = refl

  passed_ends : closed n (at (Comment comment.Passed)) ≡ at Beginning
  unfolding closed
  passed_ends = refl

  passed_line : (ts : List (List ℕ)) → closed n (tokens_said n (at (Comment comment.Passed)) ts) ≡ at Beginning
  passed_line ts = ap (closed n) (passed_tokens ts) ∙ passed_ends

  abbrev said : Said
  said = record { below = o; shows = ms; given = gs; saved = k; over = false }

  -- what a comment says of a saved text and of a met text, by its words
  abbrev saved_by : Bool → Bool → Bool → Bool → Bool → Bool → List (List ℕ) → Result SavedSaid TextRefused
  saved_by m s b v e l ts =
      cond m (needs (is_met_version ts) (SavedBad n) (Ok (record k { met = true })))
      (cond s (needs (is_version ts) (SavedBad n) (Ok (record k { named = true })))
      (cond b (own_line k.named n k (cube_says Cubes n k ts))
      (cond v (own_line k.named n k (cube_says Pending n k ts))
      (cond e (own_line (k.named || k.met) n k (last_says n k ts))
      (cond l (own_line k.met n k (met_says n k (map token_value ts)))
      (Ok k))))))

  -- what a comment says, by its words
  abbrev by_words : Bool → Bool → Bool → Bool → Bool → Bool → Bool → Bool → List (List ℕ) → Result Said TextRefused
  by_words w u m s b v e l ts =
      cond w (and_then (λ x. Ok (with_show said x)) (show_says n (map token_value ts)))
      (cond u (and_then (λ x. Ok (with_given said x)) (under_says n (map token_value ts)))
      (and_then (λ x. Ok (with_saved said x)) (saved_by m s b v e l ts)))

  abbrev line_of : List ℤ → ListLine
  line_of ls = record { line = n; values = ls }

  one_more_is_some : (xs : List ListLine) (x : ListLine) → true ≡ not (is_nil (xs ++ x ∷ []))
  one_more_is_some [] x = refl
  one_more_is_some (y ∷ xs) x = refl

  one_more_named : (x : ListLine) →
      names_behind x.line (names_of [] ms) (map nat_abs x.values) ≡ names_of [] (ms ++ x ∷ [])
  one_more_named x =
      sym (fold-append (λ ks m. names_behind (ListLine.line m) ks (map nat_abs (ListLine.values m))) [] ms (x ∷ []))

  one_more_said : (ls : List ℤ) →
      below_show n (at Beginning) (names_of [] ms) ls ≡ state_of (with_show said (line_of ls))
  one_more_said ls =
      (λ i. record (at Beginning) {
        given = one_more_is_some ms (line_of ls) i;
        named = one_more_named (line_of ls) i;
      })

  show_line_met : (ts : List (List ℕ)) →
      Met state_of (and_then (λ x. Ok (with_show said x)) (show_says n (map token_value ts)))
      (closed n (tokens_said n (at Show) ts))
  show_line_met ts =
      met_map state_of (with_show said) (show_says n (map token_value ts)) (closed n (tokens_said n (at Show) ts))
      (met_map (λ x. state_of (with_show said x)) line_of (shown_list n (map token_value ts)) (closed n (tokens_said n (at Show) ts))
      (met_as (below_show n (at Beginning) (names_of [] ms)) (λ ls. state_of (with_show said (line_of ls))) (shown_list n (map token_value ts)) _
      one_more_said
      (show_met n (at Beginning) (names_of [] ms) ts)))

  under_line_met : (ts : List (List ℕ)) →
      Met state_of (and_then (λ x. Ok (with_given said x)) (under_says n (map token_value ts)))
      (closed n (tokens_said n (at Under) ts))
  under_line_met ts =
      met_map state_of (with_given said) (under_says n (map token_value ts)) (closed n (tokens_said n (at Under) ts))
      (met_map (λ x. state_of (with_given said x)) line_of (given_list n (map token_value ts)) (closed n (tokens_said n (at Under) ts))
      (under_met n (at Beginning) ts))

  -- a line that some texts have of their own, as it stands in these and in others
  abbrev own : Bool → Bool → SavedPlace → LinePlace
  own named ended p = cond named (cond ended (Refused (SavedBad n)) (Saved p)) (Comment comment.Passed)

  own_met : (named ended : Bool) (p : SavedPlace) (x : Result SavedSaid TextRefused) (ts : List (List ℕ)) →
      Met (below_saved (at Beginning)) x (closed n (tokens_said n (at (Saved p)) ts)) →
      Met (below_saved (at Beginning)) (cond named (needs (not ended) (SavedBad n) x) (Ok k))
      (closed n (tokens_said n (at (own named ended p)) ts))
  own_met true true p x ts h = refused_line n (at (Refused (SavedBad n))) (SavedBad n) ts refl
  own_met true false p x ts h = h
  own_met false ended p x ts h = passed_line ts

  saved_met : (m s b v e l : Bool) (ts : List (List ℕ)) →
      Met (below_saved (at Beginning)) (saved_by m s b v e l ts)
      (closed n (tokens_said n (at (in_comment k n (by_all false false m s b v e l))) ts))
  saved_met true s b v e l ts = met_first_line_met n (at Beginning) ts
  saved_met false true b v e l ts = first_line_met n (at Beginning) ts
  saved_met false false true v e l ts =
      own_met k.named k.ended (Listed (Line Cubes)) (cube_says Cubes n k ts) ts (cube_line_met n Cubes (at Beginning) refl ts)
  saved_met false false false true e l ts =
      own_met k.named k.ended (Listed (Line Pending)) (cube_says Pending n k ts) ts (cube_line_met n Pending (at Beginning) refl ts)
  saved_met false false false false true l ts =
      own_met (k.named || k.met) k.ended End (last_says n k ts) ts (last_line_met n (at Beginning) ts)
  saved_met false false false false false true ts =
      own_met k.met k.ended (Listed Shown) (met_says n k (map token_value ts)) ts (met_line_met n (at Beginning) refl refl ts)
  saved_met false false false false false false ts = passed_line ts

  third_met : (w u m s b v e l : Bool) (ts : List (List ℕ)) →
      Met state_of (by_words w u m s b v e l ts)
      (closed n (tokens_said n (at (in_comment k n (by_all w u m s b v e l))) ts))
  third_met true u m s b v e l ts = show_line_met ts
  third_met false true m s b v e l ts = under_line_met ts
  third_met false false m s b v e l ts =
      met_map state_of (with_saved said) (saved_by m s b v e l ts) _ (saved_met m s b v e l ts)

  -- a line of too few tokens says nothing
  few_met : (w m : Bool) (ts : List (List ℕ)) (u : StateView) → w ≡ false → m ≡ false →
      u ≡ at Beginning → Met state_of (by_words w w m m w w w w ts) u
  few_met true m ts u e f h = absurd (cc)
  few_met false true ts u e f h = absurd (cc)
  few_met false false ts u e f h = h

  pub comment_met : (t : List ℕ) (ts : List (List ℕ)) → begins_with (seen_token t) 99 ≡ true →
      Met state_of (comment_says n said (t ∷ ts)) (line_said n (at Beginning) (t ∷ ts))
  comment_met t [] h =
      let c : Bool = bytes_eq t (codes "c") in
      few_met (c && false) (eqb n 1 && (c && false)) [] _ (one_is_no_kind c) (one_is_no_text (eqb n 1) c)
      (ap (closed n) (first t h) ∙ one_ends (bytes_eq (seen_token t).head (codes "c")))
  comment_met t (u ∷ []) h =
      let c : Bool = bytes_eq t (codes "c") in
      let p : Bool = bytes_eq u (codes "p") in
      let a : Bool = bytes_eq u (codes "allsat") in
      let d : Bool = bytes_eq (seen_token t).head (codes "c") in
      few_met (c && (p && false)) (eqb n 1 && (c && (a && false))) [] _ (few_are_no_kind c p) (few_are_no_text (eqb n 1) c a)
      (ap (λ x. closed n (eaten n x (seen_token u))) (first t h)
      ∙ ap (closed n) (second d u)
      ∙ two_end d (bytes_eq (seen_token u).head (codes "p")) (eqb n 1 && bytes_eq (seen_token u).head (codes "allsat")))
  comment_met t (u ∷ v ∷ ts) h =
      let d : Bool = bytes_eq (seen_token t).head (codes "c") in
      let c : Bool = bytes_eq t (codes "c") in
      let p : Bool = bytes_eq u (codes "p") in
      let a : Bool = bytes_eq u (codes "allsat") in
      let one : Bool = eqb n 1 in
      let is : (w : List ℕ) → Bool = λ w. bytes_eq v w in
      met_same state_of (by_words (three c p (is (codes "show"))) (three c p (is (codes "under"))) (one && three c a (is (codes "met"))) (one && three c a (is (codes "saved"))) (three c p (is (codes "cube"))) (three c p (is (codes "open"))) (three c p (is (codes "end"))) (three c p (is (codes "met"))) ts) _ _
      (ap (λ x. closed n (tokens_said n (eaten n (eaten n x (seen_token u)) (seen_token v)) ts)) (first t h)
      ∙ ap (λ x. closed n (tokens_said n (eaten n x (seen_token v)) ts)) (second d u)
      ∙ ap (λ x. closed n (tokens_said n x ts)) (third d (bytes_eq (seen_token u).head (codes "p")) (one && bytes_eq (seen_token u).head (codes "allsat")) v)
      ∙ (λ i. closed n (tokens_said n (at (in_comment k n (behind_three (words_by_head t (codes "c") (lit< tt) i) (words_by_head u (codes "p") (lit< tt) i) (one && words_by_head u (codes "allsat") (lit< tt) i) (by_kind (words_by_head v (codes "show") (lit< tt) i) (words_by_head v (codes "under") (lit< tt) i) (words_by_head v (codes "cube") (lit< tt) i) (words_by_head v (codes "open") (lit< tt) i) (words_by_head v (codes "end") (lit< tt) i) (words_by_head v (codes "met") (lit< tt) i)) (by_text (words_by_head v (codes "met") (lit< tt) i) (words_by_head v (codes "saved") (lit< tt) i))))) ts))
      ∙ ap (λ x. closed n (tokens_said n (at (in_comment k n x)) ts)) (three_places one c p a (is (codes "show")) (is (codes "under")) (is (codes "met")) (is (codes "saved")) (is (codes "cube")) (is (codes "open")) (is (codes "end")) (is (codes "met")) (one_word u)))
      (third_met (three c p (is (codes "show"))) (three c p (is (codes "under"))) (one && three c a (is (codes "met"))) (one && three c a (is (codes "saved"))) (three c p (is (codes "cube"))) (three c p (is (codes "open"))) (three c p (is (codes "end"))) (three c p (is (codes "met"))) ts)
