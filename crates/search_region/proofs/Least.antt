-- The least level of a model is that of some shown item, or 0.
use Rattle.std.proofs.Common.{◌≡◌, ℕ, zero, suc, ◌<◌, Bool, true, false, not, ◌&&◌, ◌||◌, nat_le, nat_eq, ℤ, List, [], ◌∷◌, sym, ◌∙◌, inl, inr, arith}
use Rattle.std.specs.List.{list_any, list_all}
use Rattle.std.specs.Ordering.{int_eq}
use Rattle.std.proofs.lemmas.Bool.{and_parts, and_from, and_cases, or_cases, or_parts, or_left, or_right, both_ways, not-false, le-leb, lt-leb, leb-true, leb-false, eq-eqb}
use Rattle.search_region.specs.Trail.{Item, is_flipped, seen}
use Rattle.search_region.specs.Model.{is_kept, is_met, keeps_flips, reaches}
use Rattle.sat_terms.specs.Cubes.{has_pair}

-- what is of level at most suc m, and not at most m, is of level suc m
just : (i : Item) (m : ℕ) → nat_le i.level (suc m) ≡ true → nat_le i.level m ≡ false → nat_eq i.level (suc m) ≡ true
just i m low high =
    eq-eqb i.level (suc m) (let a = leb-true i.level (suc m) low in let b = leb-false i.level m high in omega arith)

-- a flip that m doesn't keep, and suc m does
flips_reach : (shown : ℕ → Bool) (m : ℕ) (trail : List Item) → keeps_flips shown (suc m) trail ≡ true → keeps_flips shown m trail ≡ false → reaches shown (suc m) trail ≡ true
flips_reach shown m [] low high = sym high ∙ low
flips_reach shown m (i ∷ older) low high =
    let (now, rest) = and_parts (not (is_flipped i.kind && seen shown i) || nat_le i.level (suc m)) (keeps_flips shown (suc m) older) low in
    elim (and_cases (not (is_flipped i.kind && seen shown i) || nat_le i.level m) (keeps_flips shown m older) high) [
      | inl here ↦
          let (flips, above) = or_parts (not (is_flipped i.kind && seen shown i)) (nat_le i.level m) here in
          let shows = (and_parts (is_flipped i.kind) (seen shown i) (not-false (is_flipped i.kind && seen shown i) flips)).1 in
          or_left (seen shown i && nat_eq i.level (suc m)) (reaches shown (suc m) older) (and_from (seen shown i) (nat_eq i.level (suc m)) shows
          (elim (or_cases (not (is_flipped i.kind && seen shown i)) (nat_le i.level (suc m)) now) [
            | inl n ↦ absurd (both_ways (not (is_flipped i.kind && seen shown i)) flips n)
            | inr upto ↦ just i m upto above
          ]))
      | inr before ↦ or_right (seen shown i && nat_eq i.level (suc m)) (reaches shown (suc m) older) (flips_reach shown m older rest before)
    ]

-- a literal that is kept at suc m, and not at m
kept_reach : (shown : ℕ → Bool) (m : ℕ) (l : ℤ) (trail : List Item) → is_kept shown (suc m) trail l ≡ true → is_kept shown m trail l ≡ false → reaches shown (suc m) trail ≡ true
kept_reach shown m l [] low high = low
kept_reach shown m l (i ∷ older) low high =
    let (wrong, rest) = or_parts (int_eq l i.lit && (not (seen shown i) || nat_le i.level m)) (is_kept shown m older l) high in
    elim (or_cases (int_eq l i.lit && (not (seen shown i) || nat_le i.level (suc m))) (is_kept shown (suc m) older l) low) [
      | inl here ↦
          let (same, upto) = and_parts (int_eq l i.lit) (not (seen shown i) || nat_le i.level (suc m)) here in
          elim (and_cases (int_eq l i.lit) (not (seen shown i) || nat_le i.level m) wrong) [
            | inl other ↦ absurd (both_ways (int_eq l i.lit) other same)
            | inr above ↦
                let (shows, high_here) = or_parts (not (seen shown i)) (nat_le i.level m) above in
                or_left (seen shown i && nat_eq i.level (suc m)) (reaches shown (suc m) older) (and_from (seen shown i) (nat_eq i.level (suc m)) (not-false (seen shown i) shows)
                (elim (or_cases (not (seen shown i)) (nat_le i.level (suc m)) upto) [
                  | inl n ↦ absurd (both_ways (not (seen shown i)) shows n)
                  | inr low_here ↦ just i m low_here high_here
                ]))
          ]
      | inr before ↦ or_right (seen shown i && nat_eq i.level (suc m)) (reaches shown (suc m) older) (kept_reach shown m l older before rest)
    ]

some_reach : (shown : ℕ → Bool) (m : ℕ) (trail : List Item) (c : List ℤ) → list_any (is_kept shown (suc m) trail) c ≡ true → list_any (is_kept shown m trail) c ≡ false → reaches shown (suc m) trail ≡ true
some_reach shown m trail [] low high = absurd (both_ways false high low)
some_reach shown m trail (l ∷ c) low high =
    let (wrong, rest) = or_parts (is_kept shown m trail l) (list_any (is_kept shown m trail) c) high in
    elim (or_cases (is_kept shown (suc m) trail l) (list_any (is_kept shown (suc m) trail) c) low) [
      | inl here ↦ kept_reach shown m l trail here wrong
      | inr before ↦ some_reach shown m trail c before rest
    ]

met_reach : (shown : ℕ → Bool) (m : ℕ) (trail : List Item) (f : List (List ℤ)) → list_all (is_met shown (suc m) trail) f ≡ true → list_all (is_met shown m trail) f ≡ false → reaches shown (suc m) trail ≡ true
met_reach shown m trail [] low high = absurd (both_ways true high low)
met_reach shown m trail (c ∷ f) low high =
    let (now, rest) = and_parts (is_met shown (suc m) trail c) (list_all (is_met shown (suc m) trail) f) low in
    elim (and_cases (is_met shown m trail c) (list_all (is_met shown m trail) f) high) [
      | inl here ↦
          let (unpaired, wrong) = or_parts (has_pair c) (list_any (is_kept shown m trail) c) here in
          elim (or_cases (has_pair c) (list_any (is_kept shown (suc m) trail) c) now) [
            | inl paired ↦ absurd (both_ways (has_pair c) unpaired paired)
            | inr kept ↦ some_reach shown m trail c kept wrong
          ]
      | inr before ↦ met_reach shown m trail f rest before
    ]

-- the level is enough, the one below isn't: some shown item is of it
pub least_reaches : (shown : ℕ → Bool) (trail : List Item) (f : List (List ℤ)) (level : ℕ) → 0 < level → ((b : ℕ) → (keeps_flips shown b trail && list_all (is_met shown b trail) f) ≡ nat_le level b) → reaches shown level trail ≡ true
least_reaches shown trail f zero h least = absurd (omega arith)
least_reaches shown trail f (suc m) h least =
    let (flips, met) = and_parts (keeps_flips shown (suc m) trail) (list_all (is_met shown (suc m) trail) f) (least (suc m) ∙ le-leb (suc m) (suc m) (omega arith)) in
    elim (and_cases (keeps_flips shown m trail) (list_all (is_met shown m trail) f) (least m ∙ lt-leb (suc m) m (omega arith))) [
      | inl high ↦ flips_reach shown m trail flips high
      | inr high ↦ met_reach shown m trail f met high
    ]
