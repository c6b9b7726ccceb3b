-- The cubes of a saved text that is read are over the shown variables, and have all given literals; and its prefixes are few.
-- So are the cubes of a met text, and its other literals are hidden.
use Rattle.std.proofs.Common.{◌≡◌, ℕ, ◌+◌, ◌^◌, ◌<◌, ◌≤◌, ◌++◌, fold, arith, Bool, true, false, not, cond, ◌&&◌, ◌||◌, eqb, leb, List, [], ◌∷◌, map, drop, length, take, ℤ, nat_abs, Option, Some, None, Result, Ok, Err, IfOk, refl, subst}
use Rattle.std.specs.Prelude.{codes}
use Rattle.std.specs.List.{All, AllPairs, list_all}
use Rattle.std.proofs.lemmas.List.Quantifiers.{all_pairs_push}
use Rattle.std.proofs.lemmas.Bool.{and_parts, leb-true}
use Rattle.std.proofs.lemmas.List.{length_push, length-map}
use Rattle.std.proofs.lemmas.List.Elements.{All-nil, All-cons, All-push, All-append, All-head, All-tail}
use Rattle.dimacs_tokens.specs.Bytes.{is_newline}
use Rattle.dimacs_tokens.specs.Cuts.{Cut, with_part, line_byte, nothing_cut, cut_lines, lines, complete, tokens}
use Rattle.dimacs_tokens.specs.Numbers.{token_value}
use Rattle.dimacs_tokens.specs.Seen.{is_nil, list_begins}
use Rattle.sat_terms.specs.Cubes.{is_among, rises_above, within, IsCube}
use Rattle.fault_io.specs.Sources.{SourceView}
use Rattle.dimacs_front.specs.declared.refused.TextRefused.{TextRefused}
use Rattle.dimacs_front.specs.declared.refused.TextRefused.TheVariants.{BadStart, HeaderTwice, SavedBad, TextTooLong}
use Rattle.dimacs_front.specs.declared.refused.ReadRefused.{ReadRefused}
use Rattle.cube_check.specs.declared.met.Met.{Met}
use Rattle.cube_check.specs.Verdicts.{IsMet}
use Rattle.dimacs_front.specs.declared.met_lines.MetLine.{MetLine}
use Rattle.dimacs_front.specs.declared.saved_lines.SavedLine.{SavedLine}
use Rattle.dimacs_front.specs.declared.saved_lines.SavedList.{SavedList}
use Rattle.dimacs_front.specs.declared.saved_lines.SavedList.TheVariants.{Cubes, Pending}
use Rattle.dimacs_front.specs.declared.input.Input.{Input}
use Rattle.dimacs_front.specs.Limits.{most_bytes}
use Rattle.dimacs_front.specs.Steps.{and_then, needs, unless, steps}
use Rattle.dimacs_front.specs.LineWords.{begins_by, words_of, own_words}
use Rattle.dimacs_front.specs.HeaderLines.{Below, header_says}
use Rattle.dimacs_front.specs.NumberLines.{numbers_say}
use Rattle.dimacs_front.specs.ListLines.{list_says, is_literal, show_says, under_says}
use Rattle.dimacs_front.specs.SavedTexts.{SavedSaid, is_version, is_met_version, with_line, with_met, own_line, rising_says, up_to_zero, behind_zero, cube_says, hidden_says, met_says, last_says, own_says, saved_says}
use Rattle.dimacs_front.specs.TextLines.{Said, with_below, with_show, with_given, with_saved, comment_says, plain_says, line_says, Lines, no_line, next_line, lines_say}
use Rattle.dimacs_front.specs.TextEnds.{shown_of, is_saved_cube, is_hidden, is_met_line, first_unmet, mets_of, met_if, first_outside, lower_line, cubes_of, under_of, first_misplaced, first_above, lowest_outside, end_says}
use Rattle.dimacs_front.specs.Whole.{last_line, reads}
use Rattle.dimacs_front.specs.TextLaws.{SavedLinesRise}
use Rattle.dimacs_front.specs.Answers.{ReadsText, AreInside, IsSavedOf, AreMetOf, IsMetOf}

-- ---- the cubes rise

abbrev rises : SavedLine → Type 0
rises m = rises_above 0 m.cube ≡ true

abbrev both_rise : MetLine → Type 0
both_rise m = (rises_above 0 m.met.cube ≡ true) × (rises_above 0 m.met.hidden ≡ true)

-- lines that are kept with rising numbers, up to n
module _ {L : Type 0} (line_of : L → ℕ) where
  record InOrder (n : ℕ) (ms : List L) : Type 0 where
    pub pairs : AllPairs (λ k m. line_of k < line_of m) ms
    pub within : All (λ m. line_of m ≤ n) ms

  none_in_order : InOrder 0 []
  none_in_order = record {
    pairs = λ i j d lt less. absurd (omega arith);
    within = All-nil (λ (m : L). line_of m ≤ 0);
  }

  later_order : (n m : ℕ) (ms : List L) → n ≤ m → InOrder n ms → InOrder m ms
  later_order n m ms le h = record {
    pairs = h.pairs;
    within = λ i d lt. let before = h.within i d lt in omega arith;
  }

  one_more_line : (n : ℕ) (ms : List L) (m : L) → line_of m ≡ n + 1 → InOrder n ms → InOrder (n + 1) (ms ++ m ∷ [])
  one_more_line n ms m e h =
      record {
        pairs = all_pairs_push (λ j k. line_of j < line_of k) ms m h.pairs (λ i d lt. let before = h.within i d lt in omega arith);
        within = All-push (λ k. line_of k ≤ n + 1) ms m (later_order n (n + 1) ms (omega arith) h).within (omega arith);
      }

abbrev line_in : SavedLine → ℕ
line_in m = m.line

abbrev met_line_in : MetLine → ℕ
met_line_in m = m.line

-- the cubes rise, and so do both lists of each met line, there are no more prefixes than lines so
-- far, and all are kept in order
record Rising (n : ℕ) (k : SavedSaid) : Type 0 where
  pub cubes : All rises k.cubes
  pub pending : All rises k.pending
  pub mets : All both_rise k.mets
  pub few : length k.pending ≤ n
  pub cube_lines : InOrder line_in n k.cubes
  pub open_lines : InOrder line_in n k.pending
  pub met_lines : InOrder met_line_in n k.mets

abbrev Keeps : ℕ → Result SavedSaid TextRefused → Type 0
Keeps n (Ok k) = Rising n k
Keeps n (Err r) = Unit {0}

kept_either : (n : ℕ) (b : Bool) (x y : Result SavedSaid TextRefused) → Keeps n x → Keeps n y →
    Keeps n (cond b x y)
kept_either n true x y h k = h
kept_either n false x y h k = k

later : (n m : ℕ) (k : SavedSaid) → n ≤ m → Rising n k → Rising m k
later n m k le h = record {
  cubes = h.cubes;
  pending = h.pending;
  mets = h.mets;
  few = omega (arith, h.few);
  cube_lines = later_order line_in n m k.cubes le h.cube_lines;
  open_lines = later_order line_in n m k.pending le h.open_lines;
  met_lines = later_order met_line_in n m k.mets le h.met_lines;
}

module _ (n : ℕ) (k : SavedSaid) (h : Rising n k) where
  line_added : (list : SavedList) (c : List ℤ) → rises_above 0 c ≡ true →
      Rising (n + 1) (with_line list k (record { line = n + 1; cube = c }))
  line_added Cubes c r =
      let m : SavedLine = record { line = n + 1; cube = c } in
      record {
        cubes = All-push rises k.cubes m h.cubes r;
        pending = h.pending;
        mets = h.mets;
        few = omega (arith, h.few);
        cube_lines = one_more_line line_in n k.cubes m refl h.cube_lines;
        open_lines = later_order line_in n (n + 1) k.pending (omega arith) h.open_lines;
        met_lines = later_order met_line_in n (n + 1) k.mets (omega arith) h.met_lines;
      }
  line_added Pending c r =
      let m : SavedLine = record { line = n + 1; cube = c } in
      record {
        cubes = h.cubes;
        pending = All-push rises k.pending m h.pending r;
        mets = h.mets;
        few = omega (arith, h.few, length_push k.pending m);
        cube_lines = later_order line_in n (n + 1) k.cubes (omega arith) h.cube_lines;
        open_lines = one_more_line line_in n k.pending m refl h.open_lines;
        met_lines = later_order met_line_in n (n + 1) k.mets (omega arith) h.met_lines;
      }

  -- no list is changed
  same_lists : (named met ended : Bool) → Rising (n + 1) (record k { named = named; met = met; ended = ended })
  same_lists named met ended = record {
    cubes = h.cubes;
    pending = h.pending;
    mets = h.mets;
    few = omega (arith, h.few);
    cube_lines = later_order line_in n (n + 1) k.cubes (omega arith) h.cube_lines;
    open_lines = later_order line_in n (n + 1) k.pending (omega arith) h.open_lines;
    met_lines = later_order met_line_in n (n + 1) k.mets (omega arith) h.met_lines;
  }

  met_added : (c ls : List ℤ) → rises_above 0 c ≡ true → rises_above 0 ls ≡ true →
      Rising (n + 1) (with_met k (record { line = n + 1; met = record { cube = c; hidden = ls } }))
  met_added c ls r q =
      let m : MetLine = record { line = n + 1; met = record { cube = c; hidden = ls } } in
      record {
        cubes = h.cubes;
        pending = h.pending;
        mets = All-push both_rise k.mets m h.mets (r, q);
        few = omega (arith, h.few);
        cube_lines = later_order line_in n (n + 1) k.cubes (omega arith) h.cube_lines;
        open_lines = later_order line_in n (n + 1) k.pending (omega arith) h.open_lines;
        met_lines = one_more_line met_line_in n k.mets m refl h.met_lines;
      }

  cube_added : (list : SavedList) (ls : List ℤ) (q : Bool) → rises_above 0 ls ≡ q →
      Keeps (n + 1) (and_then (λ ms. Ok (with_line list k (record { line = n + 1; cube = ms }))) (needs q (SavedBad (n + 1)) (Ok ls)))
  cube_added list ls true e = line_added list ls e
  cube_added list ls false e = tt

  cube_listed : (list : SavedList) (x : Result (List ℤ) TextRefused) →
      Keeps (n + 1) (and_then (λ ms. Ok (with_line list k (record { line = n + 1; cube = ms }))) (and_then (λ ls. needs (rises_above 0 ls) (SavedBad (n + 1)) (Ok ls)) x))
  cube_listed list (Ok ls) = cube_added list ls (rises_above 0 ls) refl
  cube_listed list (Err r) = tt

  -- a line of the text's own, where it has such lines
  line_kept : (has : Bool) (x : Result SavedSaid TextRefused) → Keeps (n + 1) x → Keeps (n + 1) (own_line has (n + 1) k x)
  line_kept has x kept =
      kept_either (n + 1) has _ (Ok k) (kept_either (n + 1) (not k.ended) x (Err (SavedBad (n + 1))) kept tt)
      (same_lists k.named k.met k.ended)

  cube_kept : (list : SavedList) (ts : List (List ℕ)) →
      Keeps (n + 1) (own_line k.named (n + 1) k (cube_says list (n + 1) k ts))
  cube_kept list ts =
      line_kept k.named (cube_says list (n + 1) k ts)
      (cube_listed list (list_says is_literal (SavedBad (n + 1)) (SavedBad (n + 1)) (map token_value ts)))

  last_kept : (ts : List (List ℕ)) → Keeps (n + 1) (own_line (k.named || k.met) (n + 1) k (last_says (n + 1) k ts))
  last_kept ts =
      line_kept (k.named || k.met) (last_says (n + 1) k ts)
      (kept_either (n + 1) (is_nil ts) _ (Err (SavedBad (n + 1))) (same_lists k.named k.met true) tt)

  -- a list that rises, or is refused
  rising_list : (P : List ℤ → Result SavedSaid TextRefused) → ((ls : List ℤ) → rises_above 0 ls ≡ true → Keeps (n + 1) (P ls)) →
      (os : List (Option ℤ)) → Keeps (n + 1) (and_then P (rising_says (n + 1) os))
  rising_list P each os = at (list_says is_literal (SavedBad (n + 1)) (SavedBad (n + 1)) os)
    where
      tested : (ls : List ℤ) (q : Bool) → rises_above 0 ls ≡ q → Keeps (n + 1) (and_then P (needs q (SavedBad (n + 1)) (Ok ls)))
      tested ls true e = each ls e
      tested ls false e = tt

      at : (x : Result (List ℤ) TextRefused) → Keeps (n + 1) (and_then P (and_then (λ ls. needs (rises_above 0 ls) (SavedBad (n + 1)) (Ok ls)) x))
      at (Ok ls) = tested ls (rises_above 0 ls) refl
      at (Err r) = tt

  met_kept : (os : List (Option ℤ)) → Keeps (n + 1) (own_line k.met (n + 1) k (met_says (n + 1) k os))
  met_kept os =
      line_kept k.met (met_says (n + 1) k os)
      (rising_list (hidden_says (n + 1) k (behind_zero os)) (λ c r.
      rising_list (λ ls. Ok (with_met k (record { line = n + 1; met = record { cube = c; hidden = ls } }))) (λ ls q. met_added c ls r q) (behind_zero os))
      (up_to_zero os))

  own_kept : (ts : List (List ℕ)) → Keeps (n + 1) (own_says (n + 1) k ts)
  own_kept ts =
      kept_either (n + 1) (begins_by (words_of (codes "cube")) ts) _ _ (cube_kept Cubes (drop 3 ts))
      (kept_either (n + 1) (begins_by (words_of (codes "open")) ts) _ _ (cube_kept Pending (drop 3 ts))
      (kept_either (n + 1) (begins_by (words_of (codes "end")) ts) _ _ (last_kept (drop 3 ts))
      (kept_either (n + 1) (begins_by (words_of (codes "met")) ts) _ _ (met_kept (map token_value (drop 3 ts)))
      (same_lists k.named k.met k.ended))))

  saved_kept : (ts : List (List ℕ)) → Keeps (n + 1) (saved_says (n + 1) k ts)
  saved_kept ts =
      kept_either (n + 1) (eqb (n + 1) 1 && begins_by (own_words (codes "met")) ts) _ _
      (kept_either (n + 1) (is_met_version (drop 3 ts)) _ (Err (SavedBad (n + 1))) (same_lists k.named true k.ended) tt)
      (kept_either (n + 1) (eqb (n + 1) 1 && begins_by (own_words (codes "saved")) ts) _ _
      (kept_either (n + 1) (is_version (drop 3 ts)) _ (Err (SavedBad (n + 1))) (same_lists true k.met k.ended) tt)
      (own_kept ts))

-- ---- behind each line

abbrev Stays : ℕ → Result Said TextRefused → Type 0
Stays n (Ok s) = Rising n s.saved
Stays n (Err r) = Unit {0}

either : (n : ℕ) (b : Bool) (x y : Result Said TextRefused) → Stays n x → Stays n y → Stays n (cond b x y)
either n true x y h k = h
either n false x y h k = k

each : {A : Type 0} (n : ℕ) (f : A → Said) (x : Result A TextRefused) → ((a : A) → Rising n (f a).saved) →
    Stays n (and_then (λ a. Ok (f a)) x)
each n f (Ok a) h = h a
each n f (Err r) h = tt

saved_stays : (n : ℕ) (s : Said) (x : Result SavedSaid TextRefused) → Keeps n x →
    Stays n (and_then (λ k. Ok (with_saved s k)) x)
saved_stays n s (Ok k) h = h
saved_stays n s (Err r) h = tt

module _ (n : ℕ) (s : Said) (h : Rising n s.saved) where
  wider : Rising (n + 1) s.saved
  wider = later n (n + 1) s.saved (omega arith) h

  comment_stays : (ts : List (List ℕ)) → Stays (n + 1) (comment_says (n + 1) s ts)
  comment_stays ts =
      either (n + 1) (begins_by (words_of (codes "show")) ts) _ _
      (each (n + 1) (with_show s) (show_says (n + 1) (map token_value (drop 3 ts))) (λ m. wider))
      (either (n + 1) (begins_by (words_of (codes "under")) ts) _ _
      (each (n + 1) (with_given s) (under_says (n + 1) (map token_value (drop 3 ts))) (λ m. wider))
      (saved_stays (n + 1) s (saved_says (n + 1) s.saved ts) (saved_kept n s.saved h ts)))

  plain_stays : (o : Option Below) (t : List ℕ) (ts : List (List ℕ)) →
      Stays (n + 1) (plain_says (n + 1) s o t ts)
  plain_stays None t ts =
      either (n + 1) (list_begins t 112) _ (Err (BadStart (n + 1)))
      (each (n + 1) (with_below s) (header_says (n + 1) (t ∷ ts)) (λ w. wider)) tt
  plain_stays (Some w) t ts =
      either (n + 1) (not (list_begins t 112)) _ (Err (HeaderTwice (n + 1)))
      (either (n + 1) (list_begins t 37) (Ok (record s { over = true })) _ wider
      (each (n + 1) (with_below s) (numbers_say (n + 1) w (map token_value (t ∷ ts))) (λ v. wider)))
      tt

  line_stays : (ts : List (List ℕ)) → Stays (n + 1) (line_says (n + 1) s ts)
  unfolding line_says
  line_stays [] = wider
  line_stays (t ∷ ts) =
      either (n + 1) s.over (Ok s) _ wider
      (either (n + 1) (list_begins t 99) _ _ (comment_stays (t ∷ ts)) (plain_stays s.below t ts))

-- behind line n
abbrev AllStay : ℕ → Result Lines TextRefused → Type 0
AllStay n (Ok j) = (j.count ≡ n) × Rising n j.said.saved
AllStay n (Err r) = Unit {0}

next_stays : (n : ℕ) (x : Result Said TextRefused) → Stays n x →
    AllStay n (and_then (λ s. Ok (record { count = n; said = s })) x)
next_stays n (Ok s) h = (refl, h)
next_stays n (Err r) h = tt

lines_stay : (n : ℕ) (j : Lines) (ls : List (List ℕ)) → (j.count ≡ n) × Rising n j.said.saved →
    AllStay (n + length ls) (steps next_line j ls)
lines_stay n j [] h =
    let same : n ≡ n + 0 = omega arith in subst (λ m. AllStay m (Ok j)) same h
lines_stay n j (l ∷ ls) h =
    at (next_line j l)
    (subst (λ m. AllStay (m + 1) (next_line j l)) h.0 (next_stays (j.count + 1) (line_says (j.count + 1) j.said (tokens l))
    (line_stays j.count j.said (later n j.count j.said.saved (omega (arith, h.0)) h.1) (tokens l))))
    (λ k. lines_stay (n + 1) k ls)
  where
    at : (x : Result Lines TextRefused) → AllStay (n + 1) x →
        ((k : Lines) → (k.count ≡ n + 1) × Rising (n + 1) k.said.saved →
        AllStay (n + 1 + length ls) (steps next_line k ls)) →
        AllStay (n + length (l ∷ ls)) (and_then (λ k. steps next_line k ls) x)
    at (Ok k) r more =
        let same : n + 1 + length ls ≡ n + length (l ∷ ls) = omega arith in
        subst (λ m. AllStay m (steps next_line k ls)) same (more k r)
    at (Err r) e more = tt

text_stays : (ls : List (List ℕ)) → AllStay (length ls) (lines_say ls)
unfolding lines_say
text_stays ls =
    let none : Rising 0 no_line.said.saved = record {
      cubes = All-nil rises;
      pending = All-nil rises;
      mets = All-nil both_rise;
      few = omega arith;
      cube_lines = none_in_order line_in;
      open_lines = none_in_order line_in;
      met_lines = none_in_order met_line_in;
    } in
    let same : 0 + length ls ≡ length ls = omega arith in
    subst (λ m. AllStay m (steps next_line no_line ls)) same (lines_stay 0 no_line ls (refl, none))

pub saved_lines_rise : SavedLinesRise
saved_lines_rise ls j e =
    let h : AllStay (length ls) (Ok j) = subst (λ (x : Result Lines TextRefused). AllStay (length ls) x) e (text_stays ls) in
    (h.1.cube_lines.pairs, h.1.open_lines.pairs, h.1.met_lines.pairs)

-- ---- no more lines than bytes

abbrev parts_of : Cut → ℕ
parts_of c = length c.whole + length c.open_part

byte_parts : (c : Cut) (b : ℕ) (q : Bool) →
    parts_of (cond q (record { whole = c.whole ++ c.open_part ∷ []; open_part = [] }) (record { whole = c.whole; open_part = c.open_part ++ b ∷ [] })) ≤ parts_of c + 1
byte_parts c b true = omega (arith, length_push c.whole c.open_part)
byte_parts c b false = omega (arith, length_push c.open_part b)

all_parts : (c : Cut) (bs : List ℕ) → parts_of (fold line_byte c bs) ≤ parts_of c + length bs
all_parts c [] = omega arith
all_parts c (b ∷ bs) =
    omega (arith, all_parts (line_byte c b) bs, byte_parts c b (is_newline b))

last_part : (ws : List (List ℕ)) (part : List ℕ) → length (with_part ws part) ≤ length ws + length part
last_part ws [] = omega arith
last_part ws (b ∷ bs) = omega (arith, length_push ws (b ∷ bs))

few_lines : (bs : List ℕ) → length (lines bs) ≤ length bs
unfolding cut_lines
few_lines bs =
    omega (arith, last_part (cut_lines bs).whole (cut_lines bs).open_part, all_parts nothing_cut bs)

-- ---- the end

module _ (vs : List ℕ) (u : List ℤ) where
  one_more : (c : List ℤ) (cs : List (List ℤ)) → rises_above 0 c ≡ true → is_saved_cube vs u c ≡ true →
      AreInside vs u cs → AreInside vs u (c ∷ cs)
  one_more c cs up e h =
      let (over, inside) = and_parts (list_all (λ l. is_among vs (nat_abs l)) c) (within c u) e in
      let InU : List ℤ → Type 0 = λ d. within d u ≡ true in
      record {
        over = All-append (IsCube vs) (c ∷ []) cs (All-push (IsCube vs) [] c (All-nil (IsCube vs)) (record { rising = up; over = over })) h.over;
        inside = All-append InU (c ∷ []) cs (All-push InU [] c (All-nil InU) inside) h.inside;
      }

  first_inside : (m : SavedLine) (ms : List SavedLine) (q : Bool) → is_saved_cube vs u m.cube ≡ q → rises m →
      (first_outside vs u ms ≡ None → AreInside vs u (cubes_of ms)) →
      cond q (first_outside vs u ms) (Some m.line) ≡ None → AreInside vs u (cubes_of (m ∷ ms))
  first_inside m ms true f up more e = one_more m.cube (cubes_of ms) up f (more e)
  first_inside m ms false f up more e = absurd (cc)

  all_inside : (ms : List SavedLine) → All rises ms → first_outside vs u ms ≡ None → AreInside vs u (cubes_of ms)
  all_inside [] up e = record { over = All-nil (IsCube vs); inside = All-nil (λ d. within d u ≡ true) }
  all_inside (m ∷ ms) up e =
      first_inside m ms (is_saved_cube vs u m.cube) refl (All-head rises m ms up)
      (λ f. all_inside ms (All-tail rises m ms up) f) e

  none_lower : (a b : Option ℕ) → lower_line a b ≡ None → (a ≡ None) × (b ≡ None)
  none_lower None b e = (refl, e)
  none_lower (Some m) None e = absurd (cc)
  none_lower (Some m) (Some n) e = absurd (cc)

  saved_inside : (n : ℕ) (k : SavedSaid) (named : Bool) → n < 2 ^ 32 → Rising n k → lowest_outside vs u k ≡ None →
      IsSavedOf vs u (cond named (Some (record { cubes = cubes_of k.cubes; pending = cubes_of k.pending })) None)
  saved_inside n k true few h e =
      let (a, b) = none_lower (first_outside vs u k.cubes) (first_outside vs u k.pending) e in
      let same : length (cubes_of k.pending) ≡ length k.pending = length-map k.pending (λ m. SavedLine.cube m) in
      record {
        cubes = all_inside k.cubes h.cubes a;
        pending = all_inside k.pending h.pending b;
        few = omega (arith, h.few, same, few);
      }
  saved_inside n k false few h e = tt

module _ (v : ℕ) (vs : List ℕ) (u : List ℤ) where
  one_met : (m : MetLine) (ms : List MetLine) → both_rise m → is_met_line v vs u m ≡ true →
      AreMetOf v vs u (mets_of ms) → AreMetOf v vs u (mets_of (m ∷ ms))
  one_met m ms up e h =
      let (saved, hidden) = and_parts (is_saved_cube vs u m.met.cube) (list_all (is_hidden v vs) m.met.hidden) e in
      let (over, inside) = and_parts (list_all (λ l. is_among vs (nat_abs l)) m.met.cube) (within m.met.cube u) saved in
      record {
        lines = All-cons (IsMet v vs) m.met (mets_of ms) (record { cube = record { rising = up.0; over = over }; rising = up.1; hidden = hidden }) h.lines;
        inside = All-cons (λ (x : Met). within x.cube u ≡ true) m.met (mets_of ms) inside h.inside;
      }

  first_met : (m : MetLine) (ms : List MetLine) (q : Bool) → is_met_line v vs u m ≡ q → both_rise m →
      (first_unmet v vs u ms ≡ None → AreMetOf v vs u (mets_of ms)) →
      cond q (first_unmet v vs u ms) (Some m.line) ≡ None → AreMetOf v vs u (mets_of (m ∷ ms))
  first_met m ms true f up more e = one_met m ms up f (more e)
  first_met m ms false f up more e = absurd (cc)

  all_met : (ms : List MetLine) → All both_rise ms → first_unmet v vs u ms ≡ None → AreMetOf v vs u (mets_of ms)
  all_met [] up e = record { lines = All-nil (IsMet v vs); inside = All-nil (λ (x : Met). within x.cube u ≡ true) }
  all_met (m ∷ ms) up e =
      first_met m ms (is_met_line v vs u m) refl (All-head both_rise m ms up)
      (λ f. all_met ms (All-tail both_rise m ms up) f) e

  met_if_named : (ms : List MetLine) (named : Bool) → All both_rise ms → first_unmet v vs u ms ≡ None → IsMetOf v vs u (met_if named ms)
  met_if_named ms true up e = all_met ms up e
  met_if_named ms false up e = tt

-- what a text has besides its subject is of it
abbrev IsOwnOf : Input → Type 0
IsOwnOf input =
    IsSavedOf input.subject.shown input.subject.under input.saved
    × IsMetOf input.subject.formula.variables input.subject.shown input.subject.under input.met

abbrev Tells : Result Input TextRefused → Type 0
Tells (Ok input) = IsOwnOf input
Tells (Err r) = Unit {0}

tells_needs : (b : Bool) (r : TextRefused) (x : Result Input TextRefused) → Tells x → Tells (needs b r x)
tells_needs true r x h = h
tells_needs false r x h = tt

tells_unless : (o : Option ℕ) (f : ℕ → TextRefused) (x : Result Input TextRefused) → (o ≡ None → Tells x) → Tells (unless o f x)
tells_unless None f x h = h refl
tells_unless (Some n) f x h = tt

end_tells : (n m : ℕ) (s : Said) (o : Option Below) → m < 2 ^ 32 → Rising m s.saved → Tells (end_says n s o)
end_tells n m s None few h = tt
end_tells n m s (Some w) few h =
    let vs : List ℕ = shown_of w s.shows in
    let u : List ℤ = under_of s.given vs in
    tells_needs (is_nil w.open_clause) _ _
    (tells_needs (not (s.saved.named || s.saved.met) || s.saved.ended) _ _
    (tells_needs (eqb (length w.clauses) w.said) _ _
    (tells_unless (first_above w.variables s.shows) _ _ (λ e.
    tells_needs (leb (length vs) _) _ _
    (tells_unless (first_misplaced vs [] s.given) _ _ (λ f.
    tells_unless (lowest_outside vs u s.saved) _ _ (λ g.
    tells_unless (first_unmet w.variables vs u s.saved.mets) _ _ (λ d.
    (saved_inside vs u m s.saved s.saved.named few h g, met_if_named w.variables vs u s.saved.mets s.saved.met h.mets d)))))))))

read_tells : (m : ℕ) (x : Result Lines TextRefused) → m < 2 ^ 32 → AllStay m x →
    Tells (and_then (λ j. end_says (last_line j.count) j.said j.said.below) x)
read_tells m (Ok j) few h = end_tells (last_line j.count) m j.said j.said.below few h.1
read_tells m (Err r) few h = tt

long_tells : (x : Result Lines TextRefused) → Tells (and_then (λ j. Err (TextTooLong (Lines.count j + 1))) x)
long_tells (Ok j) = tt
long_tells (Err r) = tt

tells_either : (b : Bool) (x y : Result Input TextRefused) → (b ≡ true → Tells x) → Tells y → Tells (cond b x y)
tells_either true x y h k = h refl
tells_either false x y h k = k

reads_tell : (bs : List ℕ) → Tells (reads bs)
unfolding reads
reads_tell bs =
    tells_either (leb (length bs) most_bytes) _ _
    (λ e. let le : length bs ≤ most_bytes = leb-true (length bs) most_bytes e in
    read_tells (length (lines bs)) (lines_say (lines bs)) (omega (arith, few_lines bs, le)) (text_stays (lines bs)))
    (long_tells (lines_say (complete (take most_bytes bs))))

pub text_inside : (old new : SourceView) (result : Result Input ReadRefused) →
    ReadsText old new result →
    IfOk result (λ input. IsSavedOf input.subject.shown input.subject.under input.saved)
text_inside old new (Ok input) r = (subst Tells r.says.says (reads_tell r.bytes)).0
text_inside old new (Err failed) r = tt

pub text_met : (old new : SourceView) (result : Result Input ReadRefused) →
    ReadsText old new result →
    IfOk result (λ input. IsMetOf input.subject.formula.variables input.subject.shown input.subject.under input.met)
text_met old new (Ok input) r = (subst Tells r.says.says (reads_tell r.bytes)).1
text_met old new (Err failed) r = tt
