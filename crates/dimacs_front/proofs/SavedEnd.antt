-- What the lines of a saved text say at their end: the shown variables, the given literals and the cubes that were written.
use Rattle.std.proofs.Common.{◌≡◌, ℕ, zero, suc, ◌+◌, ◌<◌, ◌≤◌, Bool, true, false, not, cond, eqb, ◌||◌, List, [], ◌∷◌, ◌++◌, map, flat_map, ℤ, pos, negsuc, nat_abs, None, refl, sym, ap, ◌∙◌, arith}
use Rattle.std.specs.Prelude.{neg_ℤ, nat_lt, nat_le}
use Rattle.std.specs.Ordering.{int_eq}
use Rattle.std.specs.List.{All, list_all, list_any, filter, range_with_len}
use Rattle.std.proofs.lemmas.Bool.{and_parts, and_from, cond-true, cond-false, le-leb, ltb-true, lt-ltb, eqb-true, eqb-false}
use Rattle.std.proofs.lemmas.Bool.Decides.{nat_tests}
use Rattle.std.proofs.lemmas.List.Elements.{All-head, All-tail}
use Rattle.std.proofs.lemmas.List.Folds.{list_any-append}
use Rattle.sat_terms.specs.Cubes.{is_among, has_literal, rises_above, within, IsCube}
use Rattle.sat_terms.proofs.CubeLemmas.{nat_abs-neg, int_eq-same, int_eq-apart, rises_above-head, rises_above-tail, has_literal-below}
use Rattle.dimacs_front.specs.declared.saved_lines.SavedLine.{SavedLine}
use Rattle.dimacs_front.specs.declared.under_lines.Given.{Given}
use Rattle.dimacs_front.specs.TextEnds.{is_saved_cube, first_outside, first_misplaced, is_placed, given_for, cubes_of}
use Rattle.dimacs_front.specs.Answers.{AreInside}
use Rattle.dimacs_front.proofs.UnderCube.{rises}

-- ---- shown variables

eqb-swap : (u v : ℕ) → eqb u v ≡ eqb v u
eqb-swap u v = grind (arith, nat_tests)

eqb-above : (u v : ℕ) → v < u → eqb u v ≡ false
eqb-above u v h = grind (arith, nat_tests)

eqb-below : (u v : ℕ) → u < v → eqb u v ≡ false
eqb-below u v h = grind (arith, nat_tests)

-- none of numbers that rise above m is m or less
not_among : (m : ℕ) (q : List ℕ) (w : ℕ) → rises m q ≡ true → w ≤ m → is_among q w ≡ false
not_among m [] w up le = refl
not_among m (v ∷ q) w up le =
    let (first, rest) = and_parts (nat_lt m v) (rises v q) up in
    let now : m < v = ltb-true m v first in
    ap (λ b. b || is_among q w) (eqb-below w v (omega arith)) ∙ not_among v q w rest (omega arith)

rises-lower : (m n : ℕ) (q : List ℕ) → n ≤ m → rises m q ≡ true → rises n q ≡ true
rises-lower m n [] le up = refl
rises-lower m n (v ∷ q) le up =
    let (first, rest) = and_parts (nat_lt m v) (rises v q) up in
    let now : m < v = ltb-true m v first in
    and_from (nat_lt n v) (rises v q) (lt-ltb n v (omega arith)) rest

-- numbers that are no larger than m
abbrev pub IsWithin : ℕ → ℕ → Type 0
IsWithin m v = v ≤ m

-- filtered by a test that tells the numbers of p, the k numbers behind n are p
abbrev pub Filters : (ℕ → Bool) → ℕ → ℕ → Type 0
Filters f k n = (p : List ℕ) → rises n p ≡ true → All (IsWithin (n + k)) p →
    ((v : ℕ) → n < v → f v ≡ is_among p v) → filter f (range_with_len (n + 1) k) ≡ p

pub filter_range : (f : ℕ → Bool) (k n : ℕ) → Filters f k n
filter_range f zero n [] up le tells = refl
filter_range f zero n (v ∷ p) up le tells =
    let now : n < v = ltb-true n v (and_parts (nat_lt n v) (rises v p) up).0 in
    let last : v ≤ n + 0 = All-head (IsWithin (n + 0)) v p le in
    absurd (omega arith)
filter_range f (suc k) n [] up le tells =
    cond-false (f (n + 1)) _ _ (tells (n + 1) (omega arith))
    ∙ filter_range f k (n + 1) [] refl (λ i d h. absurd (omega arith)) (λ v h. tells v (omega arith))
filter_range f (suc k) n (v ∷ q) up le tells =
    at (filter_range f k (n + 1)) (eqb (n + 1) v) refl
  where
    rest : rises v q ≡ true
    rest = (and_parts (nat_lt n v) (rises v q) up).1

    now : n < v
    now = ltb-true n v (and_parts (nat_lt n v) (rises v q) up).0

    wide : All (IsWithin (n + 1 + k)) (v ∷ q)
    wide = λ i d h. let here = le i d h in omega arith

    at : Filters f k (n + 1) → (m : Bool) → eqb (n + 1) v ≡ m →
        cond (f (n + 1)) ((n + 1) ∷ filter f (range_with_len (n + 1 + 1) k)) (filter f (range_with_len (n + 1 + 1) k)) ≡ v ∷ q
    at again true e =
        let same : n + 1 ≡ v = eqb-true (n + 1) v e in
        cond-true (f (n + 1)) _ _ (tells (n + 1) (omega arith) ∙ ap (λ b. b || is_among q (n + 1)) e)
        ∙ (λ i. same i ∷ again q (ap (λ m. rises m q) same ∙ rest) (All-tail (IsWithin (n + 1 + k)) v q wide)
        (λ w h. tells w (omega arith) ∙ ap (λ b. b || is_among q w) (eqb-above w v (omega (arith, same)))) i)
    at again false e =
        let other : n + 1 ≡ v → ⊥ = eqb-false (n + 1) v e in
        cond-false (f (n + 1)) _ _ (tells (n + 1) (omega arith) ∙ ap (λ b. b || is_among q (n + 1)) e ∙ not_among v q (n + 1) rest (omega (arith, now)))
        ∙ again (v ∷ q) (and_from (nat_lt (n + 1) v) (rises v q) (lt-ltb (n + 1) v (omega (arith, now, other))) rest) wide
        (λ w h. tells w (omega arith))

-- a line that holds these variables tells them
pub tells_variables : (v : ℕ) (p : List ℕ) → list_any (λ l. eqb (nat_abs l) v) (map (λ u. pos u) p) ≡ is_among p v
tells_variables v [] = refl
tells_variables v (u ∷ p) = (λ i. eqb-swap u v i || tells_variables v p i)

pub none_above : (n : ℕ) (p : List ℕ) → All (IsWithin n) p →
    list_any (λ l. not (nat_le (nat_abs l) n)) (map (λ u. pos u) p) ≡ false
none_above n [] h = refl
none_above n (u ∷ p) h =
    (λ i. not (le-leb u n (All-head (IsWithin n) u p h) i) || none_above n p (All-tail (IsWithin n) u p h) i)

-- ---- given literals

abbrev pub are_over : List ℕ → List ℤ → Bool
are_over vs c = list_all (λ l. is_among vs (nat_abs l)) c

-- literals above v that are over v and others are over the others
over_rest : (v : ℕ) (q : List ℕ) (c : List ℤ) → rises_above v c ≡ true → are_over (v ∷ q) c ≡ true → are_over q c ≡ true
over_rest v q [] up h = refl
over_rest v q (l ∷ c) up h =
    let above : v < nat_abs l = rises_above-head v l c up in
    let (first, rest) = and_parts (is_among (v ∷ q) (nat_abs l)) (are_over (v ∷ q) c) h in
    and_from (is_among q (nat_abs l)) (are_over q c)
    (sym (ap (λ b. b || is_among q (nat_abs l)) (eqb-above (nat_abs l) v above)) ∙ first)
    (over_rest v q c (up_from v (nat_abs l) c (omega arith) (rises_above-tail v l c up)) rest)
  where
    up_from : (n m : ℕ) (d : List ℤ) → n ≤ m → rises_above m d ≡ true → rises_above n d ≡ true
    up_from n m [] le r = refl
    up_from n m (k ∷ d) le r =
        let high : m < nat_abs k = rises_above-head m k d r in
        and_from (nat_lt n (nat_abs k)) (rises_above (nat_abs k) d) (lt-ltb n (nat_abs k) (omega arith)) (rises_above-tail m k d r)

-- one of numbers that rise above v is above v
among_above : (v : ℕ) (q : List ℕ) (x : ℕ) → rises v q ≡ true → is_among q x ≡ true → v < x
among_above v [] x up h = absurd (cc)
among_above v (w ∷ q) x up h =
    let (first, rest) = and_parts (nat_lt v w) (rises w q) up in
    let now : v < w = ltb-true v w first in
    at now (λ g. among_above w q x rest g) (eqb x w) refl h
  where
    at : v < w → (is_among q x ≡ true → w < x) → (m : Bool) → eqb x w ≡ m → (m || is_among q x) ≡ true → v < x
    at now more true e h = let same : x ≡ w = eqb-true x w e in omega arith
    at now more false e h = let above : w < x = more h in omega arith

-- for each variable its literal, by two tests
abbrev pub by_tests : (ℕ → Bool) → (ℕ → Bool) → ℕ → List ℤ
by_tests f g v = cond (f v) (pos v ∷ []) (cond (g v) (neg_ℤ (pos v) ∷ []) [])

-- the tests tell the literals of u above n
pub record Tell (f g : ℕ → Bool) (n : ℕ) (u : List ℤ) : Type 0 where
  pub positive : (v : ℕ) → n < v → f v ≡ has_literal u (pos v)
  pub negative : (v : ℕ) → n < v → g v ≡ has_literal u (neg_ℤ (pos v))

tell_more : (f g : ℕ → Bool) (n m : ℕ) (u : List ℤ) → n ≤ m → Tell f g n u → Tell f g m u
tell_more f g n m u le t = record {
  positive = λ v h. t.positive v (omega arith);
  negative = λ v h. t.negative v (omega arith);
}

tell_rest : (f g : ℕ → Bool) (n : ℕ) (l : ℤ) (c : List ℤ) → n ≤ nat_abs l → Tell f g n (l ∷ c) → Tell f g (nat_abs l) c
tell_rest f g n l c le t = record {
  positive = λ v h. t.positive v (omega arith) ∙ ap (λ b. b || has_literal c (pos v)) (int_eq-apart (pos v) l (λ e. absurd (omega (arith, e))));
  negative = λ v h. t.negative v (omega arith) ∙ ap (λ b. b || has_literal c (neg_ℤ (pos v))) (int_eq-apart (neg_ℤ (pos v)) l (λ e. absurd (omega (arith, e, nat_abs-neg (pos v)))));
}

-- the literal of a variable below all of u
skipped : (f g : ℕ → Bool) (n v : ℕ) (u : List ℤ) → n < v → rises_above v u ≡ true → Tell f g n u → by_tests f g v ≡ []
skipped f g n v u lt up t =
    cond-false (f v) _ _ (t.positive v lt ∙ has_literal-below v u (pos v) up (omega arith))
    ∙ cond-false (g v) _ _ (t.negative v lt ∙ has_literal-below v u (neg_ℤ (pos v)) up (omega (arith, nat_abs-neg (pos v))))

-- the literal of the first variable of u
taken : (f g : ℕ → Bool) (n : ℕ) (l : ℤ) (c : List ℤ) → n < nat_abs l → rises_above (nat_abs l) c ≡ true →
    Tell f g n (l ∷ c) → by_tests f g (nat_abs l) ≡ l ∷ []
taken f g n (pos m) c lt up t =
    cond-true (f m) _ _ (t.positive m lt ∙ ap (λ b. b || has_literal c (pos m)) (int_eq-same (pos m)))
taken f g n (negsuc m) c lt up t =
    cond-false (f (suc m)) _ _ (t.positive (suc m) lt ∙ has_literal-below (suc m) c (pos (suc m)) up (omega arith))
    ∙ cond-true (g (suc m)) _ _ (t.negative (suc m) lt ∙ ap (λ b. b || has_literal c (negsuc m)) (int_eq-same (negsuc m)))

abbrev pub GivesBack : (ℕ → Bool) → (ℕ → Bool) → List ℕ → Type 0
GivesBack f g vs = (n : ℕ) (u : List ℤ) → rises n vs ≡ true → rises_above n u ≡ true → are_over vs u ≡ true →
    Tell f g n u → flat_map (by_tests f g) vs ≡ u

pub literals_back : (f g : ℕ → Bool) (vs : List ℕ) → GivesBack f g vs
literals_back f g [] n [] up rise over t = refl
literals_back f g [] n (l ∷ c) up rise over t = absurd (cc)
literals_back f g (v ∷ q) n [] up rise over t =
    let (first, rest) = and_parts (nat_lt n v) (rises v q) up in
    let now : n < v = ltb-true n v first in
    ap (λ x. x ++ flat_map (by_tests f g) q) (skipped f g n v [] now refl t)
    ∙ literals_back f g q v [] rest refl refl (tell_more f g n v [] (omega arith) t)
literals_back f g (v ∷ q) n (l ∷ c) up rise over t =
    at (literals_back f g q) (eqb (nat_abs l) v) refl
  where
    rest : rises v q ≡ true
    rest = (and_parts (nat_lt n v) (rises v q) up).1

    now : n < v
    now = ltb-true n v (and_parts (nat_lt n v) (rises v q) up).0

    tail : rises_above (nat_abs l) c ≡ true
    tail = rises_above-tail n l c rise

    here : n < nat_abs l
    here = rises_above-head n l c rise

    overs : (is_among (v ∷ q) (nat_abs l) ≡ true) × (are_over (v ∷ q) c ≡ true)
    overs = and_parts (is_among (v ∷ q) (nat_abs l)) (are_over (v ∷ q) c) over

    at : GivesBack f g q → (m : Bool) → eqb (nat_abs l) v ≡ m → by_tests f g v ++ flat_map (by_tests f g) q ≡ l ∷ c
    at again true e =
        let same : nat_abs l ≡ v = eqb-true (nat_abs l) v e in
        (λ i. by_tests f g (sym same i) ++ flat_map (by_tests f g) q)
        ∙ ap (λ x. x ++ flat_map (by_tests f g) q) (taken f g n l c here tail t)
        ∙ ap (λ x. l ∷ x) (again (nat_abs l) c (ap (λ m. rises m q) same ∙ rest) tail
        (over_rest (nat_abs l) q c tail (ap (λ m. are_over (m ∷ q) c) same ∙ overs.1)) (tell_rest f g n l c (omega (arith, here)) t))
    at again false e =
        let among : is_among q (nat_abs l) ≡ true = sym (ap (λ b. b || is_among q (nat_abs l)) e) ∙ overs.0 in
        let above : v < nat_abs l = among_above v q (nat_abs l) rest among in
        let higher : rises_above v (l ∷ c) ≡ true = and_from (nat_lt v (nat_abs l)) (rises_above (nat_abs l) c) (lt-ltb v (nat_abs l) above) tail in
        ap (λ x. x ++ flat_map (by_tests f g) q) (skipped f g n v (l ∷ c) now higher t)
        ∙ again v (l ∷ c) rest higher (over_rest v q (l ∷ c) higher over) (tell_more f g n v (l ∷ c) (omega (arith, now)) t)

-- the given literals are a cube over the shown variables, so they are read back
pub under_back : (vs : List ℕ) (u : List ℤ) → rises 0 vs ≡ true → IsCube vs u → flat_map (given_for u) vs ≡ u
under_back vs u up h =
    literals_back (λ v. has_literal u (pos v)) (λ v. has_literal u (neg_ℤ (pos v))) vs 0 u up h.rising h.over
    (record { positive = λ v lt. refl; negative = λ v lt. refl })

-- and none is misplaced
abbrev pub given_in : ℕ → List ℤ → List Given
given_in n u = map (λ l. record { literal = l; line = n }) u

pub given_literals : (n : ℕ) (u : List ℤ) → map (λ g. Given.literal g) (given_in n u) ≡ u
given_literals n [] = refl
given_literals n (l ∷ u) = ap (λ x. l ∷ x) (given_literals n u)

pub none_misplaced : (n : ℕ) (vs : List ℕ) (before : List ℤ) (m : ℕ) (u : List ℤ) → are_over vs u ≡ true → rises_above m u ≡ true →
    ((l : ℤ) → m < nat_abs l → has_literal before (neg_ℤ l) ≡ false) → first_misplaced vs before (given_in n u) ≡ None
none_misplaced n vs before m [] over up free = refl
none_misplaced n vs before m (l ∷ u) over up free =
    let (first, rest) = and_parts (is_among vs (nat_abs l)) (are_over vs u) over in
    cond-true (is_placed vs before l) _ _ (and_from (is_among vs (nat_abs l)) _ first (ap not (free l (rises_above-head m l u up))))
    ∙ none_misplaced n vs (before ++ l ∷ []) (nat_abs l) u rest (rises_above-tail m l u up)
    (λ k lt. list_any-append (int_eq (neg_ℤ k)) before (l ∷ [])
    ∙ (λ i. free k (let here = rises_above-head m l u up in omega arith) i || (int_eq-apart (neg_ℤ k) l (λ e. absurd (omega (arith, e, nat_abs-neg k))) i || false)))

-- ---- cubes

-- the cubes, each with the number of its line, from the one behind n on
abbrev pub numbered : ℕ → List (List ℤ) → List SavedLine
numbered n [] = []
numbered n (c ∷ cs) = record { line = n + 1; cube = c } ∷ numbered (n + 1) cs

pub numbered_cubes : (n : ℕ) (cs : List (List ℤ)) → cubes_of (numbered n cs) ≡ cs
numbered_cubes n [] = refl
numbered_cubes n (c ∷ cs) = ap (λ x. c ∷ x) (numbered_cubes (n + 1) cs)

pub none_outside : (vs : List ℕ) (u : List ℤ) (n : ℕ) (cs : List (List ℤ)) → AreInside vs u cs → first_outside vs u (numbered n cs) ≡ None
none_outside vs u n [] h = refl
none_outside vs u n (c ∷ cs) h =
    let cube : IsCube vs c = All-head (IsCube vs) c cs h.over in
    let inside : within c u ≡ true = All-head (λ d. within d u ≡ true) c cs h.inside in
    cond-true (is_saved_cube vs u c) _ _ (and_from (are_over vs c) (within c u) cube.over inside)
    ∙ none_outside vs u (n + 1) cs (record {
      over = All-tail (IsCube vs) c cs h.over;
      inside = All-tail (λ d. within d u ≡ true) c cs h.inside;
    })
