-- The prefixes of the trail, and the same as cubes.
use Rattle.std.proofs.Common.{◌≡◌, ℕ, ◌+◌, ◌-◌, ◌^◌, ◌<◌, ◌≤◌, Bool, true, false, not, ◌&&◌, ◌||◌, cond, nat_eq, nat_lt, nat_le, ℤ, neg_ℤ, nat_abs, List, [], ◌∷◌, ◌++◌, length, get_or, Option, Some, None, refl, sym, ap, ap₂, subst, ◌∙◌, inl, inr, arith, length-append}
use Rattle.std.specs.List.{All, list_all, cons_option}
use Rattle.std.specs.List.Sorted.{IsStrictlyIncreasing}
use Rattle.std.proofs.lemmas.Bool.{and_parts, and_from, or_from, or_parts, both_ways, cases_Bool, cases_eq, eq-eqb, eqb-true, ne_eqb, ltb-true, false_from_ne_true, le-leb}
use Rattle.std.proofs.lemmas.List.Folds.{list_all-append}
use Rattle.sat_terms.specs.Literals.{lit_true}
use Rattle.sat_terms.specs.Truth.{holds}
use Rattle.sat_terms.specs.Cubes.{is_among}
use Rattle.sat_terms.proofs.CubeLemmas.{nat_abs-neg}
use Rattle.search_region.specs.Trail.{Item, depth, flip, seen, agrees, is_assigned, is_implied}
use Rattle.search_region.specs.Steady.{Steady, Fine, FineFlipped}
use Rattle.search_region.specs.Cubes.{hit, over}
use Rattle.search_region.specs.Region.{cut, front, is_open}
use Rattle.search_region.specs.Running.{Running}
use Rattle.search_region.specs.ReadCube.{picked_literal, read_cube}
use Rattle.search_region.proofs.Agree.{agree_head, agree_tail}
use Rattle.search_region.proofs.Cut.{same_bools}
use Rattle.search_region.proofs.Fits.{front_agrees, in_front}
use Rattle.search_region.proofs.ReadCube.{rises, rises_from_increasing, picked_literal-free, read_cube_says}
use Rattle.search_job.proofs.Weights.{shown_count_long}
use Rattle.sat_terms.proofs.Variables.{All-among}
use Rattle.std.proofs.lemmas.List.Elements.{All-tail}
use Rattle.search_job.specs.Weights.{shown_count, AreShownUpto, weight, weighs, FitsWeighed}
use Rattle.search_job.specs.Working.{Working}
use Rattle.search_job.specs.Same.{SamePrefix, is_plain, front_cube, other_cube}

-- ---- the front as a cube holds the same

front_holds : (shown t : ℕ → Bool) (trail : List Item) → agrees (in_front shown) t trail ≡ true → holds t (front shown trail) ≡ true
front_holds shown t [] a = refl
front_holds shown t (i ∷ older) a =
    let before = front_holds shown t older (agree_tail (in_front shown) t i older a) in
    elim (cases_Bool (seen shown i && not (is_implied i.kind))) [
      | inl e ↦ rw e (list_all-append (lit_true t) (front shown older) (i.lit ∷ []) ∙ and_from (holds t (front shown older)) (lit_true t i.lit && true) before (and_from (lit_true t i.lit) true (agree_head (in_front shown) t i older a e) refl))
      | inr e ↦ rw e before
    ]

-- ---- and is as long

none_below : (n v : ℕ) (p : List ℕ) → rises n p ≡ true → v ≤ n → is_among p v ≡ false
none_below n v [] r low = refl
none_below n v (w ∷ p) r low =
    let (above, rest) = and_parts (nat_lt n w) (rises w p) r in
    let high = ltb-true n w above in
    or_from (nat_eq v w) (is_among p v) (ne_eqb v w (λ same. omega arith)) (none_below w v p rest (omega arith))

abbrev pub literal_count : Option ℤ → ℕ
literal_count None = 0
literal_count (Some l) = 1

long_cons : (o : Option ℤ) (c : List ℤ) → length (cons_option o c) ≡ literal_count o + length c
long_cons None c = omega arith
long_cons (Some l) c = omega arith

module _ (pick : Item → Bool) (i : Item) (older : List Item) (fresh : is_assigned (nat_abs i.lit) older ≡ false) where
  -- a new item leaves the other variables' literals as they are
  longer_none : (p : List ℕ) → is_among p (nat_abs i.lit) ≡ false → length (read_cube pick (i ∷ older) p) ≡ length (read_cube pick older p)
  longer_none [] h = refl
  longer_none (v ∷ p) h =
      let (other, rest) = or_parts (nat_eq (nat_abs i.lit) v) (is_among p (nat_abs i.lit)) h in
      let apart : nat_eq v (nat_abs i.lit) ≡ false = false_from_ne_true (nat_eq v (nat_abs i.lit)) (λ same. both_ways (nat_eq (nat_abs i.lit) v) other (eq-eqb (nat_abs i.lit) v (sym (eqb-true v (nat_abs i.lit) same)))) in
      long_cons (picked_literal pick (i ∷ older) v) (read_cube pick (i ∷ older) p)
      ∙ ap₂ (λ a b. literal_count a + b) (rw apart refl) (longer_none p rest)
      ∙ sym (long_cons (picked_literal pick older v) (read_cube pick older p))

  -- and gives its own one, where it is picked
  longer_one : (n : ℕ) (p : List ℕ) → rises n p ≡ true → is_among p (nat_abs i.lit) ≡ true → length (read_cube pick (i ∷ older) p) ≡ length (read_cube pick older p) + cond (pick i) 1 0
  longer_one n [] r h = absurd (both_ways false refl h)
  longer_one n (v ∷ p) r h =
      let (above, rises_on) = and_parts (nat_lt n v) (rises v p) r in
      elim (cases_eq v (nat_abs i.lit)) [
        | inl same ↦
            let rest = longer_none p (none_below v (nat_abs i.lit) p rises_on (omega arith)) in
            let was : literal_count (picked_literal pick older v) ≡ 0 = ap literal_count (picked_literal-free pick older v (ap (λ k. is_assigned k older) same ∙ fresh)) ∙ nothing in
            let now : literal_count (picked_literal pick (i ∷ older) v) ≡ cond (pick i) 1 0 = ap literal_count (rw (eq-eqb v (nat_abs i.lit) same) refl) ∙ something (pick i) in
            let new_cons = long_cons (picked_literal pick (i ∷ older) v) (read_cube pick (i ∷ older) p) in
            let old_cons = long_cons (picked_literal pick older v) (read_cube pick older p) in
            omega arith
        | inr other ↦
            let rest = longer_one v p rises_on (elsewhere other h) in
            let same : literal_count (picked_literal pick (i ∷ older) v) ≡ literal_count (picked_literal pick older v) = ap literal_count (rw (ne_eqb v (nat_abs i.lit) other) refl) in
            let new_cons = long_cons (picked_literal pick (i ∷ older) v) (read_cube pick (i ∷ older) p) in
            let old_cons = long_cons (picked_literal pick older v) (read_cube pick older p) in
            omega arith
      ]
    where
      nothing : literal_count None ≡ 0
      nothing = refl

      something : (b : Bool) → literal_count (cond b (Some i.lit) None) ≡ cond b 1 0
      something true = refl
      something false = refl

      elsewhere : (v ≡ nat_abs i.lit → ⊥) → (nat_eq (nat_abs i.lit) v || is_among p (nat_abs i.lit)) ≡ true → is_among p (nat_abs i.lit) ≡ true
      elsewhere differs h1 = rw (ne_eqb (nat_abs i.lit) v (λ e. differs (sym e))) at h1

module _ (f : List (List ℤ)) (p : List ℕ) (up : IsStrictlyIncreasing p) where
  front_long : (trail : List Item) → Steady f (is_among p) trail → (0 < length p → 0 < get_or p 0 0) → length (front (is_among p) trail) ≡ length (front_cube trail p)
  front_long [] s named = sym (none p)
    where
      none : (r : List ℕ) → length (front_cube [] r) ≡ 0
      none [] = refl
      none (v ∷ r) = none r
  front_long (i ∷ older) s named =
      let before = front_long older s.1 named in
      let rises_all = rises_from_increasing 0 p up named in
      elim (cases_Bool (is_among p (nat_abs i.lit))) [
        | inr hides ↦ let same = longer_none is_plain i older s.0.fresh p hides in rw hides (omega arith)
        | inl shows ↦
            let more = longer_one is_plain i older s.0.fresh 0 p rises_all shows in
            let one = length-append (front (is_among p) older) (i.lit ∷ []) in
            elim (cases_Bool (is_plain i)) [
              | inl plain ↦ let here : cond {A = ℕ} (is_plain i) 1 0 ≡ 1 = rw plain refl in rw (shows, plain) (omega arith)
              | inr implied ↦ let here : cond {A = ℕ} (is_plain i) 1 0 ≡ 0 = rw implied refl in rw (shows, implied) (omega arith)
            ]
      ]

  -- the prefix that the search is in is the same as a cube
  pub front_same : (trail : List Item) → Steady f (is_among p) trail → (0 < length p → 0 < get_or p 0 0) → SamePrefix (front (is_among p) trail) (front_cube trail p)
  front_same trail s named = record {
    says = λ t. same_bools (holds t (front (is_among p) trail)) (agrees (in_front (is_among p)) t trail) (front_agrees (is_among p) t trail) (front_holds (is_among p) t trail) ∙ sym (read_cube_says f p is_plain t trail s);
    long = front_long trail s named;
  }

  -- so is the other side of a shown decision
  pub other_same : (d : Item) (older : List Item) → Fine f (is_among p) d older → Steady f (is_among p) older → seen (is_among p) d ≡ true → (0 < length p → 0 < get_or p 0 0) → SamePrefix (front (is_among p) older ++ neg_ℤ d.lit ∷ []) (other_cube d older p)
  other_same d older fine s shows named =
      subst (λ x. SamePrefix x (other_cube d older p)) fronts (front_same (flip (depth older) d ∷ older) (
        record {
          named = rw (nat_abs-neg d.lit) fine.named;
          fresh = rw (nat_abs-neg d.lit) fine.fresh;
          kinds = (let flips : FineFlipped f (is_among p) (flip (depth older) d) older = record {
            stays = refl;
            late = λ hides. absurd (both_ways (is_among p (nat_abs (neg_ℤ d.lit))) hides (rw (nat_abs-neg d.lit) shows));
            spent = λ hides. absurd (both_ways (is_among p (nat_abs (neg_ℤ d.lit))) hides (rw (nat_abs-neg d.lit) shows));
          } in flips);
        },
        s,
      ) named)
    where
      fronts : front (is_among p) (flip (depth older) d ∷ older) ≡ front (is_among p) older ++ neg_ℤ d.lit ∷ []
      fronts = rw (nat_abs-neg d.lit, shows) refl

-- ---- what holds of a prefix holds of one that is the same

pub same_weight : (n : ℕ) (q r : List ℤ) → SamePrefix q r → weight n q ≡ weight n r
same_weight n q r same = ap (λ k. 2 ^ (n - k)) same.long

pub same_hit : (t : ℕ → Bool) (q r : List ℤ) → SamePrefix q r → hit t q ≡ hit t r
same_hit t q r same = ap (λ b. cond {A = ℕ} b 1 0) (same.says t)

pub running_moved : (f : List (List ℤ)) (shown : ℕ → Bool) (base : ℕ) (q r : List ℤ) (trail : List Item) (found : List (List ℤ)) → SamePrefix q r → over shown r ≡ true → Running f shown base q trail found → Running f shown base r trail found
running_moved f shown base q r trail found same shows run = record {
  steady = run.steady;
  region = record {
    based = run.region.based;
    found_over = run.region.found_over;
    prefix_over = shows;
    good = run.region.good;
    exact = λ t m. run.region.exact t m ∙ ap (λ b. cond (b && cut shown t trail) 1 0) (same.says t);
    below = λ t h. sym (same.says t) ∙ run.region.below t h;
    above = λ t h. run.region.above t (same.says t ∙ h);
  };
}

weighs_moved : (shown : ℕ → Bool) (n base : ℕ) (count : ℕ → ℕ) (q r : List ℤ) (w now : ℕ) (trail : List Item) → weight n q ≡ weight n r → weighs shown n base count q w now trail ≡ weighs shown n base count r w now trail
weighs_moved shown n base count q r w now [] same = ap (nat_le (w + now)) same
weighs_moved shown n base count q r w now (i ∷ older) same = elim (cases_Bool (is_open shown base i)) [
  | inr shut ↦ rw shut (weighs_moved shown n base count q r w now older same)
  | inl opens ↦ rw opens (ap (λ b. nat_le (weight n (front shown older ++ neg_ℤ i.lit ∷ []) + w + now) (weight n (front shown older) + count i.level) && (nat_le (count i.level) now && b)) (weighs_moved shown n base count q r (weight n (front shown older)) (count i.level) older same))
]

pub working_moved : (f : List (List ℤ)) (shown : ℕ → Bool) (n base : ℕ) (count : ℕ → ℕ) (q r : List ℤ) (trail : List Item) (found : List (List ℤ)) (leaves : ℕ) → SamePrefix q r → over shown r ≡ true → Working f shown n base count q trail found leaves → Working f shown n base count r trail found leaves
working_moved f shown n base count q r trail found leaves same shows w = record {
  running = running_moved f shown base q r trail found same shows w.running;
  stuck = w.stuck;
  weights = sym (weighs_moved shown n base count q r (weight n (front shown trail)) leaves trail (same_weight n q r same)) ∙ w.weights;
}

-- two prefixes left open
pub fits_moved : (f : List (List ℤ)) (shown : ℕ → Bool) (n : ℕ) (q given kept new_given new_kept : List ℤ) (found : List (List ℤ)) (leaves : ℕ) → SamePrefix given new_given → SamePrefix kept new_kept → FitsWeighed f shown n q found (given ∷ kept ∷ []) leaves → FitsWeighed f shown n q found (new_given ∷ new_kept ∷ []) leaves
fits_moved f shown n q given kept new_given new_kept found leaves same_given same_kept h = record {
  fits = record {
    bound = λ t. (let was = h.fits.bound t in let one = same_hit t given new_given same_given in let two = same_hit t kept new_kept same_kept in omega arith);
    good = h.fits.good;
    cover = λ t m. (let was = h.fits.cover t m in let one = same_hit t given new_given same_given in let two = same_hit t kept new_kept same_kept in omega arith);
  };
  weighs = (let was = h.weighs in let one = same_weight n given new_given same_given in let two = same_weight n kept new_kept same_kept in omega arith);
}

-- the shown variables are as many as their list is long, and within the variables
pub counts_shown : (m : ℕ) (p : List ℕ) → IsStrictlyIncreasing p → All (λ v. (0 < v) × (v ≤ m)) p → (shown_count m (is_among p) ≡ length p) × AreShownUpto m (is_among p)
counts_shown m p up all = (
  shown_count_long m 0 p (rises_from_increasing 0 p up (λ h. (all 0 0 h).0)) (low p all),
  λ v among. All-among (λ w. (0 < w) × (w ≤ m)) p v all among,
)
  where
    low : (q : List ℕ) → All (λ v. (0 < v) × (v ≤ m)) q → list_all (λ v. nat_le v m) q ≡ true
    low [] h = refl
    low (v ∷ q) h = and_from (nat_le v m) (list_all (λ w. nat_le w m) q) (le-leb v m (h 0 0 (omega arith)).1) (low q (All-tail (λ w. (0 < w) × (w ≤ m)) v q h))
