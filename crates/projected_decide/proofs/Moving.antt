-- The place moves: what it has passed stays assigned.
use Rattle.std.proofs.Common.{◌≡◌, ℕ, zero, suc, ◌+◌, ◌-◌, ◌<◌, ◌≤◌, Bool, true, false, ◌||◌, nat_eq, nat_le, List, [], ◌∷◌, ◌++◌, length, get_or, take, drop, filter, nat_abs, Option, Some, None, is_some, refl, sym, ap, subst, ◌∙◌, inl, inr, arith, length-drop}
use Rattle.std.specs.List.{list_all}
use Rattle.std.specs.Option.{option_or}
use Rattle.std.proofs.lemmas.Bool.{and_parts, and_from, or_cases, or_left, or_right, both_ways, cases_Bool, eqb-true, leb-true, le-leb}
use Rattle.std.proofs.lemmas.List.{take-append-drop, take_all}
use Rattle.std.proofs.lemmas.List.Folds.{find-append, list_all-append, list_all_more}
use Rattle.sat_terms.specs.Cubes.{is_among}
use Rattle.search_region.proofs.Literals.{all_weaker}
use Rattle.chrono_trail.specs.declared.item.Item.{Item}
use Rattle.chrono_trail.specs.Items.{item_of}
use Rattle.projected_decide.specs.Orders.{OrderView, is_set, place_in, HasPassed}
use Rattle.projected_decide.proofs.Variables.{holds_among, all_among, among_more}

-- items that join
set_stays : (old added : List Item) (v : ℕ) → is_set old v ≡ true → is_set (old ++ added) v ≡ true
set_stays old added v h = ap is_some (find-append (λ i. nat_eq v (nat_abs i.lit)) old added) ∙ first (item_of old v) h
  where
    first : (o : Option Item) → is_some o ≡ true → is_some (option_or o (item_of added v)) ≡ true
    first None g = cc
    first (Some i) g = refl

pub appending_keeps_passed : (items added : List Item) (o : OrderView) → HasPassed items o → HasPassed (items ++ added) o
appending_keeps_passed items added o h = all_weaker (is_set items) (is_set (items ++ added)) (set_stays items added) (take o.from o.order) h

-- who is among the first ones has its place there
place_before : (order : List ℕ) (k v : ℕ) → is_among (take k order) v ≡ true → place_in v order < k
place_before [] zero v among = absurd (both_ways false refl among)
place_before [] (suc k) v among = absurd (both_ways false refl among)
place_before (u ∷ later) zero v among = absurd (both_ways false refl among)
place_before (u ∷ later) (suc k) v among = elim (cases_Bool (nat_eq v u)) [
  | inl same ↦ rw same (let first : 0 < suc k = omega arith in first)
  | inr other ↦
      let rest : is_among (take k later) v ≡ true = rw other at among in
      let below = place_before later k v rest in
      rw other (let next : suc (place_in v later) < suc k = omega arith in next)
]

-- each item stays, or the place k has come back to its variable
abbrev pub is_back : (Item → Bool) → ℕ → List ℕ → Item → Bool
is_back stays k order i = stays i || nat_le k (place_in (nat_abs i.lit) order)

still_set : (items : List Item) (stays : Item → Bool) (order : List ℕ) (k v : ℕ) → list_all (is_back stays k order) items ≡ true →
    place_in v order < k → is_set items v ≡ true → is_set (filter stays items) v ≡ true
still_set [] stays order k v back before set = set
still_set (i ∷ later) stays order k v back before set =
    let (now, rest) = and_parts (is_back stays k order i) (list_all (is_back stays k order) later) back in
    elim (cases_Bool (nat_eq v (nat_abs i.lit))) [
      | inl same ↦ elim (or_cases (stays i) (nat_le k (place_in (nat_abs i.lit) order)) now) [
        | inl stay ↦ rw (stay, same) refl
        | inr gone ↦
            let high : k ≤ place_in (nat_abs i.lit) order = leb-true k (place_in (nat_abs i.lit) order) gone in
            let here : place_in v order ≡ place_in (nat_abs i.lit) order = ap (λ u. place_in u order) (eqb-true v (nat_abs i.lit) same) in
            absurd (omega arith)
      ]
      | inr other ↦
          let set_later : is_set later v ≡ true = rw other at set in
          elim (cases_Bool (stays i)) [
            | inl stay ↦ rw (stay, other) (still_set later stays order k v rest before set_later)
            | inr goes ↦ rw goes (still_set later stays order k v rest before set_later)
          ]
    ]

pub putting_back_keeps_passed : (items : List Item) (stays : Item → Bool) (old now : OrderView) → HasPassed items old → now.order ≡ old.order →
    now.from ≤ old.from → list_all (is_back stays now.from old.order) items ≡ true → HasPassed (filter stays items) now
putting_back_keeps_passed items stays old now h same low back =
    subst (λ order. list_all (is_set (filter stays items)) (take now.from order) ≡ true) (sym same)
    (all_among (is_set (filter stays items)) (take now.from old.order)
    (λ v among. still_set items stays old.order now.from v back (place_before old.order now.from v among)
    (holds_among (is_set items) (take old.from old.order) v h (among_more old.order now.from old.from v low among))))

-- a lower place has come back to as much
pub back_lower : (stays : Item → Bool) (order : List ℕ) (k m : ℕ) → m ≤ k → (items : List Item) → list_all (is_back stays k order) items ≡ true →
    list_all (is_back stays m order) items ≡ true
back_lower stays order k m low = all_weaker (is_back stays k order) (is_back stays m order) (λ i h. elim (or_cases (stays i) (nat_le k (place_in (nat_abs i.lit) order)) h) [
  | inl stay ↦ or_left (stays i) (nat_le m (place_in (nat_abs i.lit) order)) stay
  | inr gone ↦ let high = leb-true k (place_in (nat_abs i.lit) order) gone in
      or_right (stays i) (nat_le m (place_in (nat_abs i.lit) order)) (le-leb m (place_in (nat_abs i.lit) order) (omega arith))
])

-- one item more is looked at
pub back_more : (stays : Item → Bool) (order : List ℕ) (xs : List Item) (i : ℕ) (d : Item) (k m : ℕ) → i < length xs → m ≤ k →
    list_all (is_back stays k order) (take i xs) ≡ true → is_back stays m order (get_or xs i d) ≡ true →
    list_all (is_back stays m order) (take (i + 1) xs) ≡ true
back_more stays order xs i d k m inside low before now =
    list_all_more (is_back stays m order) xs i d inside
    ∙ and_from (list_all (is_back stays m order) (take i xs)) (is_back stays m order (get_or xs i d))
    (back_lower stays order k m low (take i xs) before) now

-- the items up to a place all stay, and the others are back
pub back_whole : (stays : Item → Bool) (order : List ℕ) (k : ℕ) (items : List Item) (n : ℕ) → list_all stays (take n items) ≡ true →
    list_all (is_back stays k order) (take (length items - n) (drop n items)) ≡ true → list_all (is_back stays k order) items ≡ true
back_whole stays order k items n low back =
    ap (list_all (is_back stays k order)) (sym (take-append-drop n items))
    ∙ list_all-append (is_back stays k order) (take n items) (drop n items)
    ∙ and_from (list_all (is_back stays k order) (take n items)) (list_all (is_back stays k order) (drop n items))
    (all_weaker stays (is_back stays k order) (λ i s. or_left (stays i) (nat_le k (place_in (nat_abs i.lit) order)) s) (take n items) low)
    (sym (ap (list_all (is_back stays k order)) (take_all (length items - n) (drop n items) (omega (arith, length-drop {A = Item})))) ∙ back)

pub filter-all : (p : Item → Bool) (xs : List Item) → list_all p xs ≡ true → filter p xs ≡ xs
filter-all p [] h = refl
filter-all p (x ∷ xs) h = let (now, rest) = and_parts (p x) (list_all p xs) h in rw now (ap (λ ys. x ∷ ys) (filter-all p xs rest))
