-- Values that were copied off a trail.
use Rattle.std.proofs.Common.{◌≡◌, ℕ, zero, suc, ◌+◌, ◌<◌, ◌≤◌, Bool, true, false, cond, int_lt, min, nat_eq, List, [], ◌∷◌, ◌++◌, length, get_or, set, take, drop, filter, Some, None, ℤ, pos, negsuc, neg_ℤ, nat_abs, refl, sym, ap, ◌∙◌, length-append, get_or-set_same, get_or-set_other, inl, inr, arith}
use Rattle.std.specs.List.{list_all}
use Rattle.std.specs.Ordering.{int_eq}
use Rattle.std.proofs.lemmas.Bool.{and_parts, and_from, lt-ltb, cases_Bool, eq-eqb}
use Rattle.std.proofs.lemmas.List.{take-append-le, take-take, take_more, length-take}
use Rattle.std.proofs.lemmas.List.Folds.{list_all-append}
use Rattle.sat_terms.proofs.CubeLemmas.{int_eq-same}
use Rattle.chrono_trail.specs.declared.item.Item.{Item}
use Rattle.chrono_trail.specs.Items.{item_of, is_upto, are_distinct}
use Rattle.conflict_analysis.proofs.Places.{none_before}
use Rattle.implicant_shrink.specs.Levels.{marked}
use Rattle.live_engine.specs.Values.{has_value, AreCopied}

-- items that join
pub copied_more : (xs ys : List Item) (count : ℕ) (values : List Bool) → AreCopied xs count values → AreCopied (xs ++ ys) count values
copied_more xs ys count values h = record {
  within = (let within = h.within in let long = length-append xs ys in omega arith);
  same = ap (list_all (has_value (marked values))) (take-append-le count xs ys h.within) ∙ h.same;
}

-- levels that are taken back
filter_front : (p : Item → Bool) (n : ℕ) (items : List Item) → list_all p (take n items) ≡ true → filter p items ≡ take n items ++ filter p (drop n items)
filter_front p zero items h = refl
filter_front p (suc n) [] h = refl
filter_front p (suc n) (i ∷ items) h =
    let (now, rest) = and_parts (p i) (list_all p (take n items)) h in
    rw now (ap (λ xs. i ∷ xs) (filter_front p n items rest))

all_fewer : (p : Item → Bool) (m n : ℕ) (items : List Item) → m ≤ n → list_all p (take n items) ≡ true → list_all p (take m items) ≡ true
all_fewer p zero n items few h = refl
all_fewer p (suc m) zero items few h = absurd (omega arith)
all_fewer p (suc m) (suc n) [] few h = refl
all_fewer p (suc m) (suc n) (i ∷ items) few h =
    let (now, rest) = and_parts (p i) (list_all p (take n items)) h in
    and_from (p i) (list_all p (take m items)) now (all_fewer p m n items (omega arith) rest)

pub copied_back : (items : List Item) (level place count : ℕ) (values : List Bool) → place ≤ length items → list_all (is_upto level) (take place items) ≡ true →
    AreCopied items count values → AreCopied (filter (is_upto level) items) (min count place) values
copied_back items level place count values inside low h =
    let front = filter_front (is_upto level) place items low in
    let long = length-append (take place items) (filter (is_upto level) (drop place items)) in
    let short = length-take place items in
    record {
      within = (let whole = ap length front in omega arith);
      same =
          ap (λ xs. list_all (has_value (marked values)) (take (min count place) xs)) front
          ∙ ap (list_all (has_value (marked values))) (take-append-le (min count place) (take place items) (filter (is_upto level) (drop place items)) (omega arith))
          ∙ ap (list_all (has_value (marked values))) (take-take (min count place) place items (omega arith))
          ∙ all_fewer (has_value (marked values)) (min count place) count items (omega arith) h.same;
    }

-- one item more is copied
others_stay : (values : List Bool) (v : ℕ) (b : Bool) (items : List Item) → item_of items v ≡ None → list_all (has_value (marked values)) items ≡ true →
    list_all (has_value (marked (set values v b))) items ≡ true
others_stay values v b [] none h = refl
others_stay values v b (i ∷ items) none h = elim (cases_Bool (nat_eq v (nat_abs i.lit))) [
  | inl same ↦ absurd (some_none i (rw same at none))
  | inr other ↦
      let rest : item_of items v ≡ None = rw other at none in
      let (now, later) = and_parts (has_value (marked values) i) (list_all (has_value (marked values)) items) h in
      let kept : marked (set values v b) (nat_abs i.lit) ≡ marked values (nat_abs i.lit) = get_or-set_other values v (nat_abs i.lit) b false
      (λ same. no_way (nat_eq v (nat_abs i.lit)) other (eq-eqb v (nat_abs i.lit) (sym same))) in
      and_from (has_value (marked (set values v b)) i) (list_all (has_value (marked (set values v b))) items)
      (ap (λ c. int_eq i.lit (cond c (pos (nat_abs i.lit)) (neg_ℤ (pos (nat_abs i.lit))))) kept ∙ now)
      (others_stay values v b items rest later)
]
  where
    some_none : (j : Item) → Some j ≡ None → ⊥
    some_none j e = cc

    no_way : (c : Bool) → c ≡ false → c ≡ true → ⊥
    no_way true off on = cc
    no_way false off on = cc

-- whether a literal is positive
abbrev pub is_positive : ℤ → Bool
is_positive l = int_lt (pos 0) l

value_of_literal : (l : ℤ) → l ≡ cond (is_positive l) (pos (nat_abs l)) (neg_ℤ (pos (nat_abs l)))
value_of_literal (pos zero) = refl
value_of_literal (pos (suc n)) = rw (lt-ltb 0 (suc n) (omega arith)) refl
value_of_literal (negsuc n) = refl

pub copied_next : (items : List Item) (place : ℕ) (d : Item) (values : List Bool) (v : ℕ) (b : Bool) → place < length items → are_distinct items ≡ true →
    v ≡ nat_abs (get_or items place d).lit → v < length values → b ≡ is_positive (get_or items place d).lit →
    AreCopied items place values → AreCopied items (place + 1) (set values v b)
copied_next items place d values v b inside distinct at room positive h =
    let i : Item = get_or items place d in
    let none : item_of (take place items) v ≡ None = ap (item_of (take place items)) at ∙ none_before items place d inside distinct in
    let here : marked (set values v b) (nat_abs i.lit) ≡ is_positive i.lit = ap (marked (set values v b)) (sym at) ∙ get_or-set_same values v b false room ∙ positive in
    let now : has_value (marked (set values v b)) i ≡ true =
    ap (λ c. int_eq i.lit (cond c (pos (nat_abs i.lit)) (neg_ℤ (pos (nat_abs i.lit))))) here
    ∙ ap (int_eq i.lit) (sym (value_of_literal i.lit)) ∙ int_eq-same i.lit in
    record {
      within = omega arith;
      same =
          ap (list_all (has_value (marked (set values v b)))) (take_more items place d inside)
          ∙ list_all-append (has_value (marked (set values v b))) (take place items) (i ∷ [])
          ∙ and_from (list_all (has_value (marked (set values v b))) (take place items)) (list_all (has_value (marked (set values v b))) (i ∷ []))
          (others_stay values v b (take place items) none h.same) (and_from (has_value (marked (set values v b)) i) true now refl);
    }
