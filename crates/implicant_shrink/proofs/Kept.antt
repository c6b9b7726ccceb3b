-- Literals and flips of the picture, seen at the items.
use Rattle.std.proofs.Common.{◌≡◌, ℕ, zero, suc, ◌+◌, ◌<◌, ◌≤◌, Bool, true, false, ◌&&◌, ◌||◌, not, cond, nat_eq, nat_le, max, List, [], ◌∷◌, length, get_or, take, ℤ, pos, negsuc, neg_ℤ, nat_abs, Option, Some, None, is_some, is_none, refl, sym, ap, ◌∙◌, inl, inr, arith}
use Rattle.std.specs.List.{All, list_any}
use Rattle.std.specs.Ordering.{int_eq}
use Rattle.std.proofs.lemmas.Bool.{and_parts, and_from, and_left, and_right, or_cases, or_parts, both_ways, cases_Bool, eqb-true, eq-eqb, false_from_ne_true, le-leb}
use Rattle.std.proofs.lemmas.Bool.Decides.{nat_tests}
use Rattle.std.proofs.lemmas.Grind.{common_steps}
use Rattle.std.proofs.lemmas.List.{take_more}
use Rattle.std.proofs.lemmas.List.Elements.{All-head, All-tail}
use Rattle.sat_terms.specs.Literals.{IsLiteralOf}
use Rattle.sat_terms.specs.Cubes.{has_pair}
use Rattle.sat_terms.proofs.CubeLemmas.{int_eq-same, int_eq-true, nat_abs-neg}
use Rattle.search_region.specs.Trail as picture
use Rattle.search_region.specs.Model.{is_kept, is_met, keeps_flips}
use Rattle.chrono_trail.specs.declared.item.Kind.{Kind}
use Rattle.chrono_trail.specs.declared.item.Kind.TheVariants.{Assumed, Decided, Flipped, Turned, Implied}
use Rattle.chrono_trail.specs.declared.item.Item.{Item}
use Rattle.chrono_trail.specs.Items.{item_of, are_distinct}
use Rattle.chrono_trail.specs.Clauses.{is_false, is_false_clause}
use Rattle.chrono_trail.specs.Pictures.{kind_of, picture_of}
use Rattle.chrono_trail.proofs.Items.{none_is}
use Rattle.chrono_trail.proofs.Pictures.{picture-push, any-picture}
use Rattle.chrono_trail.proofs.Clauses.{false_from_other}
use Rattle.implicant_shrink.specs.Levels.{is_flip, is_at_most, level_by, is_kept_at, is_met_at}

-- there is an item, and it passes the test
abbrev pub passes : (Item → Bool) → Option Item → Bool
passes test None = false
passes test (Some i) = test i

or_none : (b : Bool) → (b || false) ≡ b
or_none true = refl
or_none false = refl

-- a test that only items of one variable pass
pub any_item : (test : Item → Bool) (v : ℕ) → ((i : Item) → test i ≡ true → nat_abs i.lit ≡ v) →
    (items : List Item) → are_distinct items ≡ true → list_any test items ≡ passes test (item_of items v)
any_item test v only [] d = refl
any_item test v only (i ∷ later) d =
    let (alone, apart) = and_parts (is_none (item_of later (nat_abs i.lit))) (are_distinct later) d in
    let rest = any_item test v only later apart in
    elim (cases_Bool (nat_eq v (nat_abs i.lit))) [
      | inl same ↦
          let none = ap (item_of later) (eqb-true v (nat_abs i.lit) same) ∙ none_is (item_of later (nat_abs i.lit)) alone in
          rw same (ap (λ b. test i || b) (rest ∙ ap (passes test) none) ∙ or_none (test i))
      | inr other ↦
          let wrong : test i ≡ false = false_from_ne_true (test i) (λ h. both_ways (nat_eq v (nat_abs i.lit)) other (eq-eqb v (nat_abs i.lit) (sym (only i h)))) in
          rw (other, wrong) rest
    ]

-- ---- literals

kept_by : (shown : ℕ → Bool) (b : ℕ) (l : ℤ) (o : Option Item) →
    passes (λ i. int_eq l i.lit && (not (shown (nat_abs i.lit)) || nat_le i.level b)) o ≡ is_at_most b (level_by shown l o)
kept_by shown b l None = refl
kept_by shown b l (Some i) = elim (cases_Bool (int_eq l i.lit)) [
  | inl same ↦
      let e : i.lit ≡ l = sym (int_eq-true l i.lit same) in
      rw (same, e) (elim (cases_Bool (shown (nat_abs l))) [
        | inl shows ↦ rw shows refl
        | inr hides ↦ rw hides (sym (le-leb 0 b (omega arith)))
      ])
  | inr other ↦ rw other refl
]

pub kept_at : (clauses : List (List ℤ)) (shown : ℕ → Bool) (b : ℕ) (items : List Item) (l : ℤ) → are_distinct items ≡ true →
    is_kept shown b (picture_of clauses items) l ≡ is_kept_at shown b items l
kept_at clauses shown b items l d =
    any-picture clauses (λ i. int_eq l i.lit && (not (picture.seen shown i) || nat_le i.level b)) items
    ∙ any_item (λ i. int_eq l i.lit && (not (shown (nat_abs i.lit)) || nat_le i.level b)) (nat_abs l)
    (λ i on. ap nat_abs (sym (int_eq-true l i.lit (and_parts (int_eq l i.lit) (not (shown (nat_abs i.lit)) || nat_le i.level b) on).0))) items d
    ∙ kept_by shown b l (item_of items (nat_abs l))

any_alike : (p q : ℤ → Bool) (c : List ℤ) → ((l : ℤ) → p l ≡ q l) → list_any p c ≡ list_any q c
any_alike p q [] same = refl
any_alike p q (l ∷ c) same = ap (λ b. b || list_any p c) (same l) ∙ ap (λ b. q l || b) (any_alike p q c same)

pub met_at : (clauses : List (List ℤ)) (shown : ℕ → Bool) (b : ℕ) (items : List Item) (c : List ℤ) → are_distinct items ≡ true →
    is_met shown b (picture_of clauses items) c ≡ (has_pair c || is_met_at shown b items c)
met_at clauses shown b items c d =
    ap (λ x. has_pair c || x) (any_alike (is_kept shown b (picture_of clauses items)) (is_kept_at shown b items) c (λ l. kept_at clauses shown b items l d))

-- the literal of an item
pub same_or_false : (items : List Item) (l : ℤ) (i : Item) → item_of items (nat_abs l) ≡ Some i → int_eq l i.lit ≡ false → is_false items l ≡ true
same_or_false items l i at other = false_from_other items l i at (λ same. both_ways (int_eq l i.lit) other (ap (int_eq l) same ∙ int_eq-same l))

-- a literal that is kept at no level is false
pub never_kept : (shown : ℕ → Bool) (level : ℕ) (items : List Item) (l : ℤ) → is_some (item_of items (nat_abs l)) ≡ true →
    ((b : ℕ) → level ≤ b → is_kept_at shown b items l ≡ false) → is_false items l ≡ true
never_kept shown level items l set never = by (item_of items (nat_abs l)) refl set
  where
    by : (o : Option Item) → item_of items (nat_abs l) ≡ o → is_some o ≡ true → is_false items l ≡ true
    by None at some = cc
    by (Some i) at some = elim (cases_Bool (int_eq l i.lit)) [
      | inl same ↦
          let k = cond (shown (nat_abs l)) i.level 0 in
          let here : is_kept_at shown (max level k) items l ≡ nat_le k (max level k) =
          ap (λ o. is_at_most (max level k) (level_by shown l o)) at ∙ rw same refl in
          absurd (both_ways (is_kept_at shown (max level k) items l) (never (max level k) (omega arith)) (here ∙ le-leb k (max level k) (omega arith)))
      | inr other ↦ same_or_false items l i at other
    ]

pub never_met : (n : ℕ) (shown : ℕ → Bool) (level : ℕ) (items : List Item) → ((v : ℕ) → 0 < v → v ≤ n → is_some (item_of items v) ≡ true) →
    (c : List ℤ) → All (IsLiteralOf n) c → ((b : ℕ) → level ≤ b → is_met_at shown b items c ≡ false) → is_false_clause items c ≡ true
never_met n shown level items set [] named never = refl
never_met n shown level items set (l ∷ c) named never =
    let here = All-head (IsLiteralOf n) l c named in
    and_from (is_false items l) (is_false_clause items c)
    (never_kept shown level items l (set (nat_abs l) here.0 here.1) (λ b low. (or_parts (is_kept_at shown b items l) (is_met_at shown b items c) (never b low)).0))
    (never_met n shown level items set c (All-tail (IsLiteralOf n) l c named) (λ b low. (or_parts (is_kept_at shown b items l) (is_met_at shown b items c) (never b low)).1))

-- a literal that is kept is not false
not_own : (l : ℤ) → 0 < nat_abs l → l ≡ neg_ℤ l → ⊥
not_own (pos zero) some e = omega arith
not_own (pos (suc n)) some e = cc
not_own (negsuc n) some e = cc

pub kept_right : (shown : ℕ → Bool) (b : ℕ) (items : List Item) (l : ℤ) → are_distinct items ≡ true → 0 < nat_abs l → is_kept_at shown b items l ≡ true →
    is_false items l ≡ false
kept_right shown b items l d some kept =
    any_item (λ i. int_eq l (neg_ℤ i.lit)) (nat_abs l) (λ i on. sym (ap nat_abs (int_eq-true l (neg_ℤ i.lit) on) ∙ nat_abs-neg i.lit)) items d
    ∙ by (item_of items (nat_abs l)) kept
  where
    by : (o : Option Item) → is_at_most b (level_by shown l o) ≡ true → passes (λ i. int_eq l (neg_ℤ i.lit)) o ≡ false
    by None k = refl
    by (Some i) k = elim (cases_Bool (int_eq l i.lit)) [
      | inl same ↦ false_from_ne_true (int_eq l (neg_ℤ i.lit)) (λ wrong.
          not_own l some (int_eq-true l (neg_ℤ i.lit) wrong ∙ ap neg_ℤ (sym (int_eq-true l i.lit same))))
      | inr other ↦ let none : is_at_most b None ≡ true = rw other at k in absurd (both_ways false refl none)
    ]

pub met_right : (n : ℕ) (shown : ℕ → Bool) (b : ℕ) (items : List Item) → are_distinct items ≡ true → (c : List ℤ) → All (IsLiteralOf n) c →
    is_met_at shown b items c ≡ true → is_false_clause items c ≡ false
met_right n shown b items d [] named met = absurd (both_ways false refl met)
met_right n shown b items d (l ∷ c) named met = elim (or_cases (is_kept_at shown b items l) (is_met_at shown b items c) met) [
  | inl here ↦ and_left (is_false items l) (is_false_clause items c) (kept_right shown b items l d (All-head (IsLiteralOf n) l c named).0 here)
  | inr later ↦ and_right (is_false items l) (is_false_clause items c) (met_right n shown b items d c (All-tail (IsLiteralOf n) l c named) later)
]

-- ---- flips

pub flipped_same : (clauses : List (List ℤ)) (k : Kind) → picture.is_flipped (kind_of clauses k) ≡ is_flip k
flipped_same clauses Assumed = refl
flipped_same clauses Decided = refl
flipped_same clauses Flipped = refl
flipped_same clauses (Turned id) = refl
flipped_same clauses (Implied id) = refl

pub flips_more : (clauses : List (List ℤ)) (shown : ℕ → Bool) (b : ℕ) (items : List Item) (i : ℕ) (d : Item) → i < length items →
    keeps_flips shown b (picture_of clauses (take (i + 1) items))
    ≡ ((not (is_flip (get_or items i d).kind && shown (nat_abs (get_or items i d).lit)) || nat_le (get_or items i d).level b)
    && keeps_flips shown b (picture_of clauses (take i items)))
flips_more clauses shown b items i d inside =
    ap (λ xs. keeps_flips shown b (picture_of clauses xs)) (take_more items i d inside)
    ∙ ap (keeps_flips shown b) (picture-push clauses (take i items) (get_or items i d))
    ∙ ap (λ x. (not (x && shown (nat_abs (get_or items i d).lit)) || nat_le (get_or items i d).level b) && keeps_flips shown b (picture_of clauses (take i items)))
    (flipped_same clauses (get_or items i d).kind)

-- both levels are at most b where the greater one is
pub within_both : (a b c : ℕ) → (nat_le a b && nat_le c b) ≡ nat_le (max a c) b
within_both a b c = grind (arith, nat_tests, common_steps)
