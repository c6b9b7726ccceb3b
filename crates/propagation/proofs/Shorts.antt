-- The clauses of no or one literal.
use Rattle.std.proofs.Common.{◌≡◌, ℕ, ◌+◌, ◌<◌, ◌||◌, Bool, true, false, nat_eq, nat_le, List, [], ◌∷◌, ◌++◌, length, get_or, filter, ℤ, pos, nat_abs, Some, refl, sym, ap, subst, ◌∙◌, inl, inr, arith, below_more}
use Rattle.std.specs.List.{list_any, list_all}
use Rattle.std.specs.Ordering.{int_eq}
use Rattle.std.proofs.lemmas.Bool.{and_from, or_cases, or_left, or_right, cases_Bool}
use Rattle.search_region.proofs.Literals.{test_from_same}
use Rattle.chrono_trail.specs.declared.item.Item.{Item}
use Rattle.chrono_trail.specs.Items.{item_of, is_upto}
use Rattle.chrono_trail.specs.Clauses.{is_true}
use Rattle.propagation.specs.Settled.{is_held}
use Rattle.propagation.specs.Steps.{Propagates}
use Rattle.propagation.proofs.Truths.{true_more}
use Rattle.propagation.proofs.Settled.{any_weaker, held_more}

-- those below one are met, or held
abbrev pub MetBelow : List (List ℤ) → List Item → ℕ → Type 0
MetBelow clauses items upper = (id : ℕ) → id < upper → length (get_or clauses id []) < 2 → list_any (is_true items) (get_or clauses id []) ≡ true

abbrev pub HeldBelow : List (List ℤ) → List Item → ℕ → Type 0
HeldBelow clauses items upper = (id : ℕ) → id < upper → length (get_or clauses id []) < 2 → is_held items (get_or clauses id []) ≡ true

pub sole : (c : List ℤ) → 0 < length c → length c < 2 → c ≡ get_or c 0 (pos 0) ∷ []
sole [] some short = absurd (omega arith)
sole (l ∷ []) some short = refl
sole (l ∷ m ∷ c) some short = absurd (omega arith)

-- an item of level 0 holds its literal
pub held_by : (items : List Item) (l : ℤ) (i : Item) → item_of items (nat_abs l) ≡ Some i → i.lit ≡ l → i.level ≡ 0 → is_true (filter (is_upto 0) items) l ≡ true
held_by [] l i h same low = cc
held_by (j ∷ later) l i h same low = elim (cases_Bool (nat_eq (nat_abs l) (nat_abs j.lit))) [
  | inl here ↦
      let some : Some j ≡ Some i = rw here at h in
      let equal : j ≡ i = cc in
      let stays : nat_le j.level 0 ≡ true = ap (λ (x : Item). nat_le x.level 0) equal ∙ ap (λ k. nat_le k 0) low in
      rw stays (or_left (int_eq l j.lit) (is_true (filter (is_upto 0) later) l) (test_from_same l j.lit (sym same ∙ ap (λ (x : Item). x.lit) (sym equal))))
  | inr away ↦
      let rest : item_of later (nat_abs l) ≡ Some i = rw away at h in
      let below = held_by later l i rest same low in
      elim (cases_Bool (nat_le j.level 0)) [
        | inl stays ↦ rw stays (or_right (int_eq l j.lit) (is_true (filter (is_upto 0) later) l) below)
        | inr leaves ↦ rw leaves below
      ]
]

-- what is held is met
true_stays : (p : Item → Bool) (items : List Item) (l : ℤ) → is_true (filter p items) l ≡ true → is_true items l ≡ true
true_stays p [] l h = h
true_stays p (i ∷ later) l h = elim (cases_Bool (p i)) [
  | inl stays ↦
      let kept : (int_eq l i.lit || is_true (filter p later) l) ≡ true = rw stays at h in
      elim (or_cases (int_eq l i.lit) (is_true (filter p later) l) kept) [
        | inl here ↦ or_left (int_eq l i.lit) (is_true later l) here
        | inr there ↦ or_right (int_eq l i.lit) (is_true later l) (true_stays p later l there)
      ]
  | inr leaves ↦
      let kept : is_true (filter p later) l ≡ true = rw leaves at h in
      or_right (int_eq l i.lit) (is_true later l) (true_stays p later l kept)
]

pub met_from_held : (items : List Item) (c : List ℤ) → is_held items c ≡ true → list_any (is_true items) c ≡ true
met_from_held items c h = any_weaker (is_true (filter (is_upto 0) items)) (is_true items) c (λ l on. true_stays (is_upto 0) items l on) h

pub met_more : (items more : List Item) (c : List ℤ) → list_any (is_true items) c ≡ true → list_any (is_true (items ++ more)) c ≡ true
met_more items more c h = any_weaker (is_true items) (is_true (items ++ more)) c (λ l on. true_more items more l on) h

-- propagation leaves them so
pub met_steps : (clauses : List (List ℤ)) (old new : List Item) (upper : ℕ) → Propagates clauses old new → MetBelow clauses old upper → MetBelow clauses new upper
met_steps clauses old new upper steps met id below short = subst (λ xs. list_any (is_true xs) (get_or clauses id []) ≡ true) (sym steps.grows) (met_more old steps.added (get_or clauses id []) (met id below short))

pub held_steps : (clauses : List (List ℤ)) (old new : List Item) (upper : ℕ) → Propagates clauses old new → HeldBelow clauses old upper → HeldBelow clauses new upper
held_steps clauses old new upper steps held id below short = subst (λ xs. is_held xs (get_or clauses id []) ≡ true) (sym steps.grows) (held_more old steps.added (get_or clauses id []) (held id below short))

-- one more
pub met_next : (clauses : List (List ℤ)) (items : List Item) (id : ℕ) → MetBelow clauses items id → (length (get_or clauses id []) < 2 → list_any (is_true items) (get_or clauses id []) ≡ true) → MetBelow clauses items (id + 1)
met_next clauses items id met here = below_more (λ j. length (get_or clauses j []) < 2 → list_any (is_true items) (get_or clauses j []) ≡ true) id met here

pub held_next : (clauses : List (List ℤ)) (items : List Item) (id : ℕ) → HeldBelow clauses items id → (length (get_or clauses id []) < 2 → is_held items (get_or clauses id []) ≡ true) → HeldBelow clauses items (id + 1)
held_next clauses items id held here = below_more (λ j. length (get_or clauses j []) < 2 → is_held items (get_or clauses j []) ≡ true) id held here

pub any_sole : (p : ℤ → Bool) (l : ℤ) → p l ≡ true → list_any p (l ∷ []) ≡ true
any_sole p l h = or_left (p l) false h

pub all_sole : (p : ℤ → Bool) (l : ℤ) → p l ≡ true → list_all p (l ∷ []) ≡ true
all_sole p l h = and_from (p l) true h refl
