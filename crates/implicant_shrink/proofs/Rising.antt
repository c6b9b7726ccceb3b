-- The level as it rises over some of the clauses.
use Rattle.std.proofs.Common.{◌≡◌, ℕ, suc, ◌+◌, ◌<◌, ◌≤◌, Bool, true, false, ◌&&◌, nat_eq, nat_le, max, List, [], ◌∷◌, length, get_or, take, ℤ, nat_abs, Option, Some, None, is_some, refl, sym, ap, subst, ◌∙◌, inl, inr, arith, length-take}
use Rattle.std.specs.List.{All, list_any, list_all}
use Rattle.std.specs.Ordering.{int_eq}
use Rattle.std.proofs.lemmas.Bool.{and_left, and_right, and_from, or_left, or_right, both_ways, cases_Bool, false_from_ne_true, cases_lt, cases_eq, le-leb, lt-leb}
use Rattle.std.proofs.lemmas.List.Elements.{All-head, All-tail}
use Rattle.std.proofs.lemmas.List.{get_or-take}
use Rattle.std.proofs.lemmas.List.Folds.{list_all_at, list_any_at}
use Rattle.sat_terms.specs.Literals.{IsLiteralOf}
use Rattle.sat_terms.specs.Cubes.{has_pair}
use Rattle.search_region.specs.Model.{is_met, keeps_flips}
use Rattle.chrono_trail.specs.declared.item.Item.{Item}
use Rattle.chrono_trail.specs.Items.{item_of, is_upto}
use Rattle.chrono_trail.specs.Trails.{IsTrail}
use Rattle.chrono_trail.specs.Clauses.{is_false, is_false_clause}
use Rattle.chrono_trail.specs.Pictures.{picture_of}
use Rattle.chrono_trail.proofs.Back.{all_low}
use Rattle.chrono_trail.proofs.Splits.{found_is}
use Rattle.implicant_shrink.specs.Levels.{is_at_most, level_by, is_kept_at, is_met_at}
use Rattle.implicant_shrink.specs.Shrinking.{IsLeastFrom, RisesIn}
use Rattle.implicant_shrink.proofs.Kept.{met_at, same_or_false, within_both}

-- ---- at the level of the trail each clause is met

right_is_kept : (shown : ℕ → Bool) (m : ℕ) (items : List Item) (l : ℤ) → list_all (is_upto m) items ≡ true → is_some (item_of items (nat_abs l)) ≡ true →
    is_false items l ≡ false → is_kept_at shown m items l ≡ true
right_is_kept shown m items l low set right = by (item_of items (nat_abs l)) refl set
  where
    by : (o : Option Item) → item_of items (nat_abs l) ≡ o → is_some o ≡ true → is_kept_at shown m items l ≡ true
    by None at some = cc
    by (Some i) at some = elim (cases_Bool (int_eq l i.lit)) [
      | inl same ↦
          let under : nat_le i.level m ≡ true = found_is (λ j. nat_eq (nat_abs l) (nat_abs j.lit)) (is_upto m) items i at low in
          ap (λ o. is_at_most m (level_by shown l o)) at ∙ rw same (elim (cases_Bool (shown (nat_abs l))) [
            | inl shows ↦ rw shows under
            | inr hides ↦ rw hides (le-leb 0 m (omega arith))
          ])
      | inr other ↦ absurd (both_ways (is_false items l) right (same_or_false items l i at other))
    ]

right_is_met : (n : ℕ) (shown : ℕ → Bool) (m : ℕ) (items : List Item) → list_all (is_upto m) items ≡ true →
    ((v : ℕ) → 0 < v → v ≤ n → is_some (item_of items v) ≡ true) → (c : List ℤ) → All (IsLiteralOf n) c →
    is_false_clause items c ≡ false → is_met_at shown m items c ≡ true
right_is_met n shown m items low set [] named right = absurd (both_ways (is_false_clause items []) right refl)
right_is_met n shown m items low set (l ∷ c) named right = elim (cases_Bool (is_false items l)) [
  | inl wrong ↦
      let rest : is_false_clause items c ≡ false = rw wrong at right in
      or_right (is_kept_at shown m items l) (is_met_at shown m items c) (right_is_met n shown m items low set c (All-tail (IsLiteralOf n) l c named) rest)
  | inr here ↦
      let is = All-head (IsLiteralOf n) l c named in
      or_left (is_kept_at shown m items l) (is_met_at shown m items c) (right_is_kept shown m items l low (set (nat_abs l) is.0 is.1) here)
]

pub met_at_top : (n : ℕ) (shown : ℕ → Bool) (clauses : List (List ℤ)) (items : List Item) (top : ℕ) → IsTrail n items top →
    ((v : ℕ) → 0 < v → v ≤ n → is_some (item_of items v) ≡ true) → (c : List ℤ) → All (IsLiteralOf n) c →
    is_false_clause items c ≡ false → (m : ℕ) → top ≤ m → is_met shown m (picture_of clauses items) c ≡ true
met_at_top n shown clauses items top trail set c named right m high =
    let current = trail.current in
    met_at clauses shown m items c trail.distinct
    ∙ or_right (has_pair c) (is_met_at shown m items c)
    (right_is_met n shown m items (all_low 0 m items trail.stands (omega arith)) set c named right)

-- the clause of a number, as the formula has it
pub in_front : (clauses : List (List ℤ)) (base id : ℕ) (c : List ℤ) → id < length (take base clauses) → c ≡ get_or clauses id [] →
    (id < length clauses) × (c ≡ get_or (take base clauses) id [])
in_front clauses base id c inside at =
    let size = length-take base clauses in
    (omega arith, at ∙ sym (get_or-take base clauses id [] (omega arith)))

-- all clauses of the formula are met there
pub all_met_at_top : (n : ℕ) (shown : ℕ → Bool) (clauses : List (List ℤ)) (base : ℕ) (items : List Item) (top : ℕ) → IsTrail n items top →
    ((v : ℕ) → 0 < v → v ≤ n → is_some (item_of items v) ≡ true) → All (All (IsLiteralOf n)) clauses →
    list_any (is_false_clause items) (take base clauses) ≡ false → (m j : ℕ) → top ≤ m → j < length (take base clauses) →
    is_met shown m (picture_of clauses items) (get_or (take base clauses) j []) ≡ true
all_met_at_top n shown clauses base items top trail set named right m j high inside =
    let f = take base clauses in
    let at = in_front clauses base j (get_or clauses j []) inside refl in
    let own : All (IsLiteralOf n) (get_or f j []) = subst (All (IsLiteralOf n)) at.1 (named j [] at.0) in
    met_at_top n shown clauses items top trail set (get_or f j []) own
    (false_from_ne_true (is_false_clause items (get_or f j [])) (λ wrong.
    both_ways (list_any (is_false_clause items) f) right (list_any_at (is_false_clause items) f j [] inside wrong)))
    m high

-- ---- one clause after the other

group : (a b c : Bool) → (a && (b && c)) ≡ ((a && b) && c)
group true b c = refl
group false b c = refl

all_from : (p : List ℤ → Bool) (f : List (List ℤ)) → ((j : ℕ) → j < length f → p (get_or f j []) ≡ true) → list_all p f ≡ true
all_from p [] h = refl
all_from p (c ∷ f) h = and_from (p c) (list_all p f) (h 0 (omega arith)) (all_from p f (λ j inside. h (suc j) (omega arith)))

module _ (shown : ℕ → Bool) (clauses : List (List ℤ)) (items : List Item) (f : List (List ℤ)) where
  -- before the first one
  pub rise_start : (first level : ℕ) → RisesIn shown (picture_of clauses items) f first first level level
  rise_start first level = record {
    above = omega arith;
    needed = λ m low high. absurd (omega arith);
    met = λ m id high from below. absurd (omega arith);
  }

  -- one more, which the level is enough for just from a higher one on
  pub rise_more : (first id level now higher : ℕ) → id < length f → now ≤ higher →
      ((m : ℕ) → now ≤ m → is_met shown m (picture_of clauses items) (get_or f id []) ≡ nat_le higher m) →
      RisesIn shown (picture_of clauses items) f first id level now →
      RisesIn shown (picture_of clauses items) f first (id + 1) level higher
  rise_more first id level now higher inside low meets before =
      let above = before.above in
      record {
        above = omega arith;
        needed = λ m from below. elim (cases_lt m now) [
          | inl under ↦ before.needed m from under
          | inr over ↦ list_all_at (is_met shown m (picture_of clauses items)) f id [] inside (meets m over ∙ lt-leb higher m below)
        ];
        met = λ m j high from below. elim (cases_eq j id) [
          | inl same ↦ ap (λ k. is_met shown m (picture_of clauses items) (get_or f k [])) same ∙ meets m (omega arith) ∙ le-leb higher m high
          | inr other ↦ before.met m j (omega arith) from (omega (arith, other))
        ];
      }

  -- all others, where each level from here on meets every clause
  pub rise_rest : (first id end level now : ℕ) → end ≤ length f →
      ((m j : ℕ) → now ≤ m → j < length f → is_met shown m (picture_of clauses items) (get_or f j []) ≡ true) →
      RisesIn shown (picture_of clauses items) f first id level now →
      RisesIn shown (picture_of clauses items) f first end level now
  rise_rest first id end level now within meets before = record {
    above = before.above;
    needed = before.needed;
    met = λ m j high from below. meets m j high (omega arith);
  }

  -- over the clauses from a place on, and then over those before it
  pub rise_round : (base flips first middle b : ℕ) → ((m : ℕ) → keeps_flips shown m (picture_of clauses items) ≡ nat_le flips m) →
      RisesIn shown (picture_of clauses items) f first (length f) (max base flips) middle →
      RisesIn shown (picture_of clauses items) f 0 first middle b →
      IsLeastFrom base shown (picture_of clauses items) f b
  rise_round base flips first middle b keeps one two = λ m.
      let P = picture_of clauses items in
      let above_one = one.above in
      let above_two = two.above in
      group (nat_le base m) (keeps_flips shown m P) (list_all (is_met shown m P) f)
      ∙ ap (λ x. (nat_le base m && x) && list_all (is_met shown m P) f) (keeps m)
      ∙ ap (λ x. x && list_all (is_met shown m P) f) (within_both base m flips)
      ∙ elim (cases_lt m (max base flips)) [
        | inl low ↦ and_left (nat_le (max base flips) m) (list_all (is_met shown m P) f) (lt-leb (max base flips) m low) ∙ sym (lt-leb b m (omega arith))
        | inr from ↦ elim (cases_lt m b) [
          | inl low ↦
              and_right (nat_le (max base flips) m) (list_all (is_met shown m P) f) (elim (cases_lt m middle) [
                | inl under ↦ one.needed m from under
                | inr over ↦ two.needed m over low
              ]) ∙ sym (lt-leb b m low)
          | inr high ↦
              and_from (nat_le (max base flips) m) (list_all (is_met shown m P) f) (le-leb (max base flips) m from)
              (all_from (is_met shown m P) f (λ j inside. elim (cases_lt j first) [
                | inl before ↦ two.met m j high (omega arith) before
                | inr after ↦ one.met m j (omega arith) after inside
              ]))
              ∙ sym (le-leb b m high)
        ]
      ]
