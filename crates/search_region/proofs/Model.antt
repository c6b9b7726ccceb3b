-- A found model: its cube holds good assignments alone, and none that has left the trail; a decision is turned over, or the search is closed.
use Rattle.std.proofs.Common.{◌≡◌, ℕ, suc, ◌<◌, ◌≤◌, Bool, true, false, not, ◌&&◌, ◌||◌, cond, nat_le, nat_lt, nat_eq, ℤ, pos, negsuc, neg_ℤ, nat_abs, List, [], ◌∷◌, ◌++◌, refl, sym, ap, subst, ◌∙◌, ◌⊎◌, inl, inr, arith, ◌+◌}
use Rattle.std.specs.List.{list_any, list_all}
use Rattle.std.specs.Ordering.{int_eq}
use Rattle.std.proofs.lemmas.Bool.{and_parts, and_from, and_left, and_right, or_cases, or_parts, or_from, or_left, or_right, both_ways, not-true, not_from_true, not_from_false, false_from_ne_true, true_from_ne_false, cases_Bool, le-leb, leb-true, eq-eqb, eqb-true, ltb-true}
use Rattle.std.proofs.lemmas.List.Folds.{list_all-append}
use Rattle.sat_terms.specs.Literals.{lit_true}
use Rattle.sat_terms.specs.Truth.{sat, sat_clause, holds}
use Rattle.search_region.specs.Trail.{Item, Decided, depth, upto, seen, seen_upto, agrees, is_assigned, is_flipped, is_implied, flip, turn_over}
use Rattle.search_region.specs.Steady.{Steady, IsFull}
use Rattle.search_region.specs.Cubes.{Good, hit, hits, over}
use Rattle.search_region.specs.Region.{cut, leaves_at, front, root, Closed}
use Rattle.search_region.specs.Model.{is_kept, is_met, keeps_flips, reaches, are_named, CubeOf}
use Rattle.sat_terms.specs.Cubes.{has_pair}
use Rattle.search_region.specs.Running.{Running}
use Rattle.search_region.proofs.Literals.{all_weaker, any_weaker, none_both}
use Rattle.search_region.proofs.Agree.{agree_head, agree_tail, agree_among, levels_within, agree_fewer}
use Rattle.search_region.proofs.Back.{steady_older}
use Rattle.search_region.proofs.Flip.{fine_decided, assigned_newer, steady_flip, region_turn}
use Rattle.sat_terms.proofs.Disjoint.{lit_true-agree, lit_true-neg}
use Rattle.sat_terms.proofs.CubeLemmas.{int_eq-true, neg-not_same, nat_abs-neg}
use Rattle.search_region.proofs.Cut.{found_cut}
use Rattle.search_region.proofs.Hits.{hits_push}
use Rattle.search_region.proofs.Heart.{heart}

-- the literal stands on the trail
abbrev pub is_on : ℤ → List Item → Bool
is_on l trail = list_any (λ i. int_eq l i.lit) trail

-- the values that the trail gives; an unassigned variable is false
abbrev pub value_on : List Item → ℕ → Bool
value_on trail v = is_on (pos v) trail

-- the shown values of an assignment with the hidden ones of the trail
abbrev pub with_hidden : (ℕ → Bool) → List Item → (ℕ → Bool) → ℕ → Bool
with_hidden shown trail t v = cond (shown v) (t v) (value_on trail v)

pub on_assigned : (l : ℤ) (trail : List Item) → is_on l trail ≡ true → is_assigned (nat_abs l) trail ≡ true
on_assigned l trail h = any_weaker (λ i. int_eq l i.lit) (λ i. nat_eq (nat_abs l) (nat_abs i.lit)) (λ i e. eq-eqb (nat_abs l) (nat_abs i.lit) (ap nat_abs (int_eq-true l i.lit e))) trail h

module _ (f : List (List ℤ)) (shown : ℕ → Bool) where
  -- a trail has no literal with its negation
  pub not_both : (l : ℤ) → 0 < nat_abs l → (trail : List Item) → Steady f shown trail → is_on l trail ≡ true → is_on (neg_ℤ l) trail ≡ true → ⊥
  not_both l named [] s h g = both_ways false refl h
  not_both l named (i ∷ older) s h g =
      elim (or_cases (int_eq l i.lit) (is_on l older) h) [
        | inl a ↦ elim (or_cases (int_eq (neg_ℤ l) i.lit) (is_on (neg_ℤ l) older) g) [
          | inl b ↦ neg-not_same l named (int_eq-true (neg_ℤ l) i.lit b ∙ sym (int_eq-true l i.lit a))
          | inr b ↦ both_ways (is_assigned (nat_abs i.lit) older) s.0.fresh
              (subst (λ n. is_assigned n older ≡ true) (nat_abs-neg l ∙ ap nat_abs (int_eq-true l i.lit a)) (on_assigned (neg_ℤ l) older b))
        ]
        | inr a ↦ elim (or_cases (int_eq (neg_ℤ l) i.lit) (is_on (neg_ℤ l) older) g) [
          | inl b ↦ both_ways (is_assigned (nat_abs i.lit) older) s.0.fresh
              (subst (λ n. is_assigned n older ≡ true) (sym (nat_abs-neg l) ∙ ap nat_abs (int_eq-true (neg_ℤ l) i.lit b)) (on_assigned l older a))
          | inr b ↦ not_both l named older s.1 a b
        ]
      ]

  -- the trail's values make its literals true
  pub value_true : (l : ℤ) → 0 < nat_abs l → (trail : List Item) → Steady f shown trail → is_on l trail ≡ true → lit_true (value_on trail) l ≡ true
  value_true (pos n) named trail s h = h
  value_true (negsuc n) named trail s h = not_from_false (value_on trail (suc n)) (false_from_ne_true (value_on trail (suc n)) λ both. not_both (negsuc n) named trail s h both)

  -- a kept literal is a shown one that is true in the assignment, or a hidden one on the trail
  pub kept_cases : (b : ℕ) (t : ℕ → Bool) (l : ℤ) (trail : List Item) → agrees (seen_upto shown b) t trail ≡ true → is_kept shown b trail l ≡ true → (shown (nat_abs l) ≡ true) × (lit_true t l ≡ true) ⊎ (shown (nat_abs l) ≡ false) × (is_on l trail ≡ true)
  kept_cases b t l [] a h = absurd (both_ways false refl h)
  kept_cases b t l (i ∷ older) a h =
      elim (or_cases (int_eq l i.lit && (not (seen shown i) || nat_le i.level b)) (is_kept shown b older l) h) [
        | inl here ↦ elim (cases_Bool (seen shown i)) [
          | inl shows ↦ inl (rw (same here) shows, rw (same here) (agree_head (seen_upto shown b) t i older a (and_from (seen shown i) (nat_le i.level b) shows (low here shows))))
          | inr hides ↦ inr (rw (same here) hides, or_left (int_eq l i.lit) (is_on l older) (parts here).0)
        ]
        | inr before ↦ elim (kept_cases b t l older (agree_tail (seen_upto shown b) t i older a) before) [
          | inl g ↦ inl g
          | inr g ↦ inr (g.0, or_right (int_eq l i.lit) (is_on l older) g.1)
        ]
      ]
    where
      parts : (int_eq l i.lit && (not (seen shown i) || nat_le i.level b)) ≡ true → (int_eq l i.lit ≡ true) × ((not (seen shown i) || nat_le i.level b) ≡ true)
      parts here = and_parts (int_eq l i.lit) (not (seen shown i) || nat_le i.level b) here

      same : (int_eq l i.lit && (not (seen shown i) || nat_le i.level b)) ≡ true → l ≡ i.lit
      same here = int_eq-true l i.lit (parts here).0

      low : (int_eq l i.lit && (not (seen shown i) || nat_le i.level b)) ≡ true → seen shown i ≡ true → nat_le i.level b ≡ true
      low here shows = elim (or_cases (not (seen shown i)) (nat_le i.level b) (parts here).1) [
        | inl n ↦ absurd (both_ways (seen shown i) (not-true (seen shown i) n) shows)
        | inr e ↦ e
      ]

  kept_true : (b : ℕ) (t : ℕ → Bool) (trail : List Item) → Steady f shown trail → agrees (seen_upto shown b) t trail ≡ true → (l : ℤ) → 0 < nat_abs l → is_kept shown b trail l ≡ true → lit_true (with_hidden shown trail t) l ≡ true
  kept_true b t trail s a l named h =
      elim (kept_cases b t l trail a h) [
        | inl g ↦ lit_true-agree (with_hidden shown trail t) t l (rw g.0 refl) ∙ g.1
        | inr g ↦ lit_true-agree (with_hidden shown trail t) (value_on trail) l (rw g.0 refl) ∙ value_true l named trail s g.1
      ]

  -- a clause with a pair is true under any assignment
  pub pair_true : (t : ℕ → Bool) (c : List ℤ) → list_all (λ l. nat_lt 0 (nat_abs l)) c ≡ true → has_pair c ≡ true → sat_clause t c ≡ true
  pair_true t c named h =
      true_from_ne_false (sat_clause t c) λ wrong.
      none_both (λ l. list_any (int_eq (neg_ℤ l)) c) (λ l. nat_lt 0 (nat_abs l) && not (lit_true t l))
      (λ l has q. let (n, w) = and_parts (nat_lt 0 (nat_abs l)) (not (lit_true t l)) q in
      none_both (int_eq (neg_ℤ l)) (λ m. nat_lt 0 (nat_abs m) && not (lit_true t m))
      (λ m same z. both_ways (lit_true t (neg_ℤ l))
      (ap (lit_true t) (int_eq-true (neg_ℤ l) m same) ∙ not-true (lit_true t m) (and_parts (nat_lt 0 (nat_abs m)) (not (lit_true t m)) z).1)
      (lit_true-neg t l (ltb-true 0 (nat_abs l) n) ∙ w))
      c has (all_wrong c named wrong))
      c h (all_wrong c named wrong)
    where
      all_wrong : (e : List ℤ) → list_all (λ l. nat_lt 0 (nat_abs l)) e ≡ true → sat_clause t e ≡ false → list_all (λ l. nat_lt 0 (nat_abs l) && not (lit_true t l)) e ≡ true
      all_wrong [] n w = refl
      all_wrong (l ∷ e) n w =
          let (n0, n1) = and_parts (nat_lt 0 (nat_abs l)) (list_all (λ m. nat_lt 0 (nat_abs m)) e) n in
          let (w0, w1) = or_parts (lit_true t l) (sat_clause t e) w in
          and_from (nat_lt 0 (nat_abs l) && not (lit_true t l)) (list_all (λ m. nat_lt 0 (nat_abs m) && not (lit_true t m)) e)
          (and_from (nat_lt 0 (nat_abs l)) (not (lit_true t l)) n0 (not_from_false (lit_true t l) w0)) (all_wrong e n1 w1)

  -- a met clause is true under the cube's assignments, with the hidden values of the trail
  pub clause_met : (b : ℕ) (t : ℕ → Bool) (trail : List Item) → Steady f shown trail → agrees (seen_upto shown b) t trail ≡ true → (c : List ℤ) → list_all (λ l. nat_lt 0 (nat_abs l)) c ≡ true → is_met shown b trail c ≡ true → sat_clause (with_hidden shown trail t) c ≡ true
  clause_met b t trail s a c named h =
      elim (or_cases (has_pair c) (list_any (is_kept shown b trail) c) h) [
        | inl pair ↦ pair_true (with_hidden shown trail t) c named pair
        | inr kept ↦ some_true c named kept
      ]
    where
      some_true : (e : List ℤ) → list_all (λ l. nat_lt 0 (nat_abs l)) e ≡ true → list_any (is_kept shown b trail) e ≡ true → sat_clause (with_hidden shown trail t) e ≡ true
      some_true [] n k = k
      some_true (l ∷ e) n k =
          let (n0, n1) = and_parts (nat_lt 0 (nat_abs l)) (list_all (λ m. nat_lt 0 (nat_abs m)) e) n in
          elim (or_cases (is_kept shown b trail l) (list_any (is_kept shown b trail) e) k) [
            | inl here ↦ or_left (lit_true (with_hidden shown trail t) l) (sat_clause (with_hidden shown trail t) e) (kept_true b t trail s a l (ltb-true 0 (nat_abs l) n0) here)
            | inr rest ↦ or_right (lit_true (with_hidden shown trail t) l) (sat_clause (with_hidden shown trail t) e) (some_true e n1 rest)
          ]

  formula_met : (b : ℕ) (t : ℕ → Bool) (trail : List Item) → Steady f shown trail → agrees (seen_upto shown b) t trail ≡ true → (g : List (List ℤ)) → are_named g ≡ true → list_all (is_met shown b trail) g ≡ true → sat g (with_hidden shown trail t) ≡ true
  formula_met b t trail s a [] named h = refl
  formula_met b t trail s a (c ∷ g) named h =
      let (n0, n1) = and_parts (list_all (λ l. nat_lt 0 (nat_abs l)) c) (are_named g) named in
      let (h0, h1) = and_parts (is_met shown b trail c) (list_all (is_met shown b trail) g) h in
      and_from (sat_clause (with_hidden shown trail t) c) (sat g (with_hidden shown trail t)) (clause_met b t trail s a c n0 h0) (formula_met b t trail s a g n1 h1)

  -- so each assignment that agrees with the shown items up to b is good
  pub implicant_good : (b : ℕ) (t : ℕ → Bool) (trail : List Item) → Steady f shown trail → are_named f ≡ true → list_all (is_met shown b trail) f ≡ true → agrees (seen_upto shown b) t trail ≡ true → Good f shown t
  implicant_good b t trail s named h a = record {
    model = with_hidden shown trail t;
    meets = formula_met b t trail s a f named h;
    same = λ v shows. rw shows refl;
  }

  -- and none of them left at a shown flipped literal of level at most b
  pub cut_cube : (b : ℕ) (t : ℕ → Bool) (trail : List Item) → keeps_flips shown b trail ≡ true → agrees (seen_upto shown b) t trail ≡ true → cut shown t trail ≡ false
  cut_cube b t [] k a = refl
  cut_cube b t (i ∷ older) k a =
      let (now, rest) = and_parts (not (is_flipped i.kind && seen shown i) || nat_le i.level b) (keeps_flips shown b older) k in
      or_from (cut shown t older) (leaves_at shown t i older) (cut_cube b t older rest (agree_tail (seen_upto shown b) t i older a))
      (elim (cases_Bool (is_flipped i.kind && seen shown i)) [
        | inl flips ↦ and_right (is_flipped i.kind && seen shown i) (not (lit_true t i.lit) && agrees (seen shown) t older)
            (and_left (not (lit_true t i.lit)) (agrees (seen shown) t older) (not_from_true (lit_true t i.lit)
            (agree_head (seen_upto shown b) t i older a (and_from (seen shown i) (nat_le i.level b) (and_parts (is_flipped i.kind) (seen shown i) flips).1
            (elim (or_cases (not (is_flipped i.kind && seen shown i)) (nat_le i.level b) now) [
              | inl n ↦ absurd (both_ways (is_flipped i.kind && seen shown i) (not-true (is_flipped i.kind && seen shown i) n) flips)
              | inr low ↦ low
            ])))))
        | inr not_one ↦ and_left (is_flipped i.kind && seen shown i) (not (lit_true t i.lit) && agrees (seen shown) t older) not_one
      ])

  pub front_true : (t : ℕ → Bool) (trail : List Item) → agrees (seen shown) t trail ≡ true → holds t (front shown trail) ≡ true
  front_true t [] a = refl
  front_true t (i ∷ older) a =
      let before = front_true t older (agree_tail (seen shown) t i older a) in
      elim (cases_Bool (seen shown i && not (is_implied i.kind))) [
        | inl e ↦ rw e (list_all-append (lit_true t) (front shown older) (i.lit ∷ []) ∙ and_from (holds t (front shown older)) (holds t (i.lit ∷ [])) before
            (and_from (lit_true t i.lit) true (agree_head (seen shown) t i older a (and_parts (seen shown i) (not (is_implied i.kind)) e).0) refl))
        | inr e ↦ rw e before
      ]

  -- they lie within the root
  pub root_low : (base b : ℕ) (t : ℕ → Bool) (trail : List Item) → Steady f shown trail → base ≤ b → agrees (seen_upto shown b) t trail ≡ true → holds t (front shown (root base trail)) ≡ true
  root_low base b t [] s low a = refl
  root_low base b t (i ∷ older) s low a =
      elim (cases_Bool (nat_le (depth (i ∷ older)) base)) [
        | inl e ↦ rw e (front_true t (i ∷ older)
            (agree_among (upto base) (seen_upto shown b) (seen shown) (λ j h sh. and_from (seen shown j) (nat_le j.level b) sh (let h1 = leb-true j.level base h in le-leb j.level b (omega arith))) t (i ∷ older)
            (levels_within f shown base (i ∷ older) s (leb-true (depth (i ∷ older)) base e)) a))
        | inr e ↦ rw e (root_low base b t older s.1 low (agree_tail (seen_upto shown b) t i older a))
      ]

  -- where some shown item is of the decision's level, the decision is shown
  pub reached_shown : (newer : List Item) (d : Item) (older : List Item) → Steady f shown (newer ++ d ∷ older) → d.kind ≡ Decided → reaches shown d.level (newer ++ d ∷ older) ≡ true → seen shown d ≡ true
  reached_shown newer d older s e h =
      true_from_ne_false (seen shown d) λ hides.
      none_both (λ i. seen shown i && nat_eq i.level d.level) (λ i. not (seen shown i && nat_eq i.level d.level))
      (λ i a b. both_ways (seen shown i && nat_eq i.level d.level) (not-true (seen shown i && nat_eq i.level d.level) b) a)
      (newer ++ d ∷ older) h (none_here hides newer s)
    where
      decided_late : seen shown d ≡ false → IsFull shown older
      decided_late hides = (fine_decided f shown d older (steady_older f shown newer (d ∷ older) s).0 e).late hides

      opens : d.level ≡ suc (depth older)
      opens = (fine_decided f shown d older (steady_older f shown newer (d ∷ older) s).0 e).opens

      lower : list_all (λ i. not (seen shown i && nat_eq i.level d.level)) older ≡ true
      lower = all_weaker (upto (depth older)) (λ i. not (seen shown i && nat_eq i.level d.level))
          (λ i low. not_from_false (seen shown i && nat_eq i.level d.level) (and_right (seen shown i) (nat_eq i.level d.level) (false_from_ne_true (nat_eq i.level d.level) λ same.
          (let low1 = leb-true i.level (depth older) low in let same1 = eqb-true i.level d.level same in let on = opens in omega arith))))
          older (levels_within f shown (depth older) older (steady_older f shown newer (d ∷ older) s).1 (omega arith))

      unseen : (i : Item) → seen shown i ≡ false → not (seen shown i && nat_eq i.level d.level) ≡ true
      unseen i hides = not_from_false (seen shown i && nat_eq i.level d.level) (and_left (seen shown i) (nat_eq i.level d.level) hides)

      none_here : seen shown d ≡ false → (part : List Item) → Steady f shown (part ++ d ∷ older) → list_all (λ i. not (seen shown i && nat_eq i.level d.level)) (part ++ d ∷ older) ≡ true
      none_here hides [] z = and_from (not (seen shown d && nat_eq d.level d.level)) (list_all (λ i. not (seen shown i && nat_eq i.level d.level)) older) (unseen d hides) lower
      none_here hides (i ∷ part) z =
          and_from (not (seen shown i && nat_eq i.level d.level)) (list_all (λ j. not (seen shown j && nat_eq j.level d.level)) (part ++ d ∷ older))
          (unseen i (false_from_ne_true (seen shown i) λ shows. both_ways (is_assigned (nat_abs i.lit) (part ++ d ∷ older)) z.0.fresh
          (assigned_newer (nat_abs i.lit) part (d ∷ older) (assigned_newer (nat_abs i.lit) (d ∷ []) older (decided_late hides (nat_abs i.lit) shows)))))
          (none_here hides part z.1)

pub all_over_push : (shown : ℕ → Bool) (found : List (List ℤ)) (c : List ℤ) → list_all (over shown) found ≡ true → over shown c ≡ true → list_all (over shown) (found ++ c ∷ []) ≡ true
all_over_push shown found c h g =
    list_all-append (over shown) found (c ∷ []) ∙ and_from (list_all (over shown) found) (over shown c && true) h (and_from (over shown c) true g refl)

module _ (f : List (List ℤ)) (shown : ℕ → Bool) (base : ℕ) (p : List ℤ) where
  -- a found cube and the cubes of before hold each solution that has left, once
  found_exact : (t : ℕ → Bool) (found : List (List ℤ)) (c : List ℤ) (was now : Bool) → hits t found ≡ cond (holds t p && was) 1 0 → now ≡ (was || holds t c) → (holds t c ≡ true → (was ≡ false) × (holds t p ≡ true)) → hits t (found ++ c ∷ []) ≡ cond (holds t p && now) 1 0
  found_exact t found c was now before same apart =
      hits_push t found c ∙ elim (cases_Bool (holds t c)) [
        | inl held ↦ rw (same, before, held, (apart held).0, (apart held).1) refl
        | inr free ↦ rw (same, before, free) (elim was as (λ b. cond (holds t p && b) 1 0 + 0 ≡ cond (holds t p && (b || false)) 1 0) [ true ↦ omega arith | false ↦ omega arith ])
      ]

  -- what a found cube holds is good, lies in p, and hadn't left
  pub cube_apart : (b : ℕ) (trail : List Item) (found : List (List ℤ)) (c : List ℤ) → Running f shown base p trail found → base ≤ b → keeps_flips shown b trail ≡ true → CubeOf shown b trail c → (t : ℕ → Bool) → holds t c ≡ true → (cut shown t trail ≡ false) × (holds t p ≡ true)
  cube_apart b trail found c r low keeps cube t held =
      let a = sym (cube.says t) ∙ held in
      (cut_cube f shown b t trail keeps a, r.region.below t (root_low f shown base b t trail r.steady low a))

  pub found_good : (b : ℕ) (trail : List Item) (found : List (List ℤ)) (c : List ℤ) → Running f shown base p trail found → are_named f ≡ true → list_all (is_met shown b trail) f ≡ true → CubeOf shown b trail c → (t : ℕ → Bool) → 0 < hits t (found ++ c ∷ []) → Good f shown t
  found_good b trail found c r named met cube t h =
      elim (cases_Bool (holds t c)) [
        | inl held ↦ implicant_good f shown b t trail r.steady named met (sym (cube.says t) ∙ held)
        | inr free ↦ r.region.good t (let both = hits_push t found c in let gone : hit t c ≡ 0 = rw free refl in omega arith)
      ]

  -- a found model above the base, with the level that its cube needs
  pub model_keeps_running : (newer : List Item) (d : Item) (older : List Item) (found : List (List ℤ)) (c : List ℤ) → Running f shown base p (newer ++ d ∷ older) found → d.kind ≡ Decided → base < d.level → are_named f ≡ true → reaches shown d.level (newer ++ d ∷ older) ≡ true → keeps_flips shown d.level (newer ++ d ∷ older) ≡ true → list_all (is_met shown d.level (newer ++ d ∷ older)) f ≡ true → CubeOf shown d.level (newer ++ d ∷ older) c → Running f shown base p (turn_over newer d older) (found ++ c ∷ [])
  model_keeps_running newer d older found c r e above named reached keeps met cube = record {
    steady = steady;
    region = region_turn f shown base p newer d (flip (depth older) d) older found (found ++ c ∷ []) r.steady steady e refl refl above r.region
        (all_over_push shown found c r.region.found_over cube.over_shown)
        (found_good d.level (newer ++ d ∷ older) found c r named met cube)
        (λ t m. found_exact t found c (cut shown t (newer ++ d ∷ older)) (cut shown t (turn_over newer d older)) (r.region.exact t m) (found_cut f shown newer d older r.steady e shows c cube t m)
        (cube_apart d.level (newer ++ d ∷ older) found c r (omega arith) keeps cube t));
  }
    where
      shows : seen shown d ≡ true
      shows = reached_shown f shown newer d older r.steady e reached

      steady : Steady f shown (turn_over newer d older)
      steady = steady_flip f shown newer d older r.steady e (λ hides. absurd (both_ways (seen shown d) hides shows))

  -- a model whose cube needs no level above the base: with it all is found
  pub model_closes : (c : List ℤ) (trail : List Item) (found : List (List ℤ)) → Running f shown base p trail found → are_named f ≡ true → keeps_flips shown base trail ≡ true → list_all (is_met shown base trail) f ≡ true → CubeOf shown base trail c → Closed f shown p (found ++ c ∷ [])
  model_closes c trail found r named keeps met cube = record {
    found_over = all_over_push shown found c r.region.found_over cube.over_shown;
    prefix_over = r.region.prefix_over;
    good = found_good base trail found c r named met cube;
    exact = λ t m. hits_push t found c ∙ elim (cases_Bool (holds t c)) [
      | inl held ↦ let (stays, within) = cube_apart base trail found c r (omega arith) keeps cube t held in
          rw (r.region.exact t m, held, stays, within) refl
      | inr free ↦ elim (cases_Bool (holds t p)) [
        | inl within ↦ rw (r.region.exact t m, free, within, left t m free within) refl
        | inr out ↦ rw (r.region.exact t m, free, out) refl
      ]
    ];
  }
    where
      left : (t : ℕ → Bool) → sat f t ≡ true → holds t c ≡ false → holds t p ≡ true → cut shown t trail ≡ true
      left t m free within = true_from_ne_false (cut shown t trail) λ stays.
          both_ways (holds t c) free (cube.says t ∙ agree_fewer (upto base) (seen_upto shown base) (λ i b. (and_parts (seen shown i) (nat_le i.level base) b).1) t trail (heart f shown base t trail r.steady m (r.region.above t within) stays))
