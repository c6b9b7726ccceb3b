-- Levels taken back: which items stay, and what the table tells then.
use Rattle.std.proofs.Common.{◌≡◌, ℕ, zero, suc, ◌+◌, ◌-◌, ◌<◌, ◌≤◌, Bool, true, false, cond, ◌&&◌, nat_eq, nat_lt, nat_le, List, [], ◌∷◌, ◌++◌, length, get_or, take, drop, filter, Some, None, nat_abs, is_none, refl, sym, ap, subst, ◌∙◌, inl, inr, arith}
use Rattle.std.specs.List.{list_all, All}
use Rattle.std.proofs.lemmas.Bool.{and_parts, and_from, and_right, or_from, cases_Bool, eqb-true, leb-true, leb-false, le-leb, lt-leb}
use Rattle.std.proofs.lemmas.List.{take_more, take-append-drop, length-drop, get_or-drop}
use Rattle.std.proofs.lemmas.List.Folds.{list_any-append}
use Rattle.search_region.proofs.Back.{all_in_filter}
use Rattle.chrono_trail.specs.declared.item.Item.{Item}
use Rattle.chrono_trail.specs.Items.{item_of, is_within, are_distinct, is_decision, level_after, depth_from, may_stand, may_all_stand, is_upto, HasPlace, goes}
use Rattle.chrono_trail.specs.Trails.{IsTrail}
use Rattle.chrono_trail.proofs.Items.{none_is, is_none_from, depth_from-append}

low_after : (k : ℕ) (i : Item) → is_decision i.kind ≡ false → level_after k i ≡ k
low_after k i h = rw h refl

-- what may stand after what
pub level_rises : (k : ℕ) (i : Item) → may_stand k i ≡ true → k ≤ level_after k i
level_rises k i h =
    elim (cases_Bool (is_decision i.kind)) [
      | inl yes_decided ↦
          let same : nat_eq i.level (suc k) ≡ true = rw yes_decided at h in
          let level = eqb-true i.level (suc k) same in
          let after : level_after k i ≡ i.level = rw yes_decided refl in
          omega arith
      | inr not_decided ↦ let after : level_after k i ≡ k = rw not_decided refl in omega arith
    ]

pub depth_rises : (k : ℕ) (items : List Item) → may_all_stand k items ≡ true → k ≤ depth_from k items
depth_rises k [] h = omega arith
depth_rises k (i ∷ later) h =
    let (now, rest) = and_parts (may_stand k i) (may_all_stand (level_after k i) later) h in
    let one = level_rises k i now in
    let more = depth_rises (level_after k i) later rest in
    omega arith

pub low_item : (k m : ℕ) (i : Item) → may_stand k i ≡ true → level_after k i ≤ m → i.level ≤ m
low_item k m i h low =
    elim (cases_Bool (is_decision i.kind)) [
      | inl yes_decided ↦ let after : level_after k i ≡ i.level = rw yes_decided refl in omega arith
      | inr not_decided ↦
          let under : nat_le i.level k ≡ true = rw not_decided at h in
          let le = leb-true i.level k under in
          let after : level_after k i ≡ k = rw not_decided refl in
          omega arith
    ]

-- no item is above the level that is current after all
pub all_low : (k m : ℕ) (items : List Item) → may_all_stand k items ≡ true → depth_from k items ≤ m → list_all (is_upto m) items ≡ true
all_low k m [] h low = refl
all_low k m (i ∷ later) h low =
    let (now, rest) = and_parts (may_stand k i) (may_all_stand (level_after k i) later) h in
    let more = depth_rises (level_after k i) later rest in
    and_from (is_upto m i) (list_all (is_upto m) later) (le-leb i.level m (low_item k m i now (omega arith))) (all_low (level_after k i) m later rest low)

pub stand_take : (k n : ℕ) (items : List Item) → may_all_stand k items ≡ true → may_all_stand k (take n items) ≡ true
stand_take k zero items h = refl
stand_take k (suc n) [] h = refl
stand_take k (suc n) (i ∷ later) h =
    let (now, rest) = and_parts (may_stand k i) (may_all_stand (level_after k i) later) h in
    and_from (may_stand k i) (may_all_stand (level_after k i) (take n later)) now (stand_take (level_after k i) n later rest)

stand_last : (k : ℕ) (items : List Item) (e : Item) → may_all_stand k (items ++ e ∷ []) ≡ true → may_stand (depth_from k items) e ≡ true
stand_last k [] e h = (and_parts (may_stand k e) true h).0
stand_last k (i ∷ later) e h = stand_last (level_after k i) later e (and_parts (may_stand k i) (may_all_stand (level_after k i) (later ++ e ∷ [])) h).1

-- the item before a place, and the level before that
pub stand_before : (items : List Item) (n : ℕ) (d : Item) → may_all_stand 0 items ≡ true → 0 < n → n ≤ length items → may_stand (depth_from 0 (take (n - 1) items)) (get_or items (n - 1) d) ≡ true
stand_before items n d h some inside =
    let k : ℕ = n - 1 in
    let next : k + 1 ≡ n = omega arith in
    stand_last 0 (take k items) (get_or items k d) (subst (λ xs. may_all_stand 0 xs ≡ true) (take_more items k d (omega arith)) (stand_take 0 (k + 1) items h))

pub depth_before : (items : List Item) (n : ℕ) (d : Item) → 0 < n → n ≤ length items → depth_from 0 (take n items) ≡ level_after (depth_from 0 (take (n - 1) items)) (get_or items (n - 1) d)
depth_before items n d some inside =
    let k : ℕ = n - 1 in
    let next : k + 1 ≡ n = omega arith in
    ap (λ m. depth_from 0 (take m items)) (sym next) ∙ ap (depth_from 0) (take_more items k d (omega arith)) ∙ depth_from-append 0 (take k items) (get_or items k d ∷ [])

pub depth_nothing : (items : List Item) (n m : ℕ) → depth_from 0 (take n items) ≡ m → 0 < m → 0 < n
depth_nothing items zero m h some = absurd (omega arith)
depth_nothing items (suc n) m h some = omega arith

-- once a level above m is open, what stays is below
stay_above : (k m : ℕ) (items : List Item) → may_all_stand k items ≡ true → m < k → (may_all_stand m (filter (is_upto m) items) ≡ true) × (depth_from m (filter (is_upto m) items) ≡ m)
stay_above k m [] h above = (refl, refl)
stay_above k m (i ∷ later) h above =
    let (now, rest) = and_parts (may_stand k i) (may_all_stand (level_after k i) later) h in
    let rises = level_rises k i now in
    let more = stay_above (level_after k i) m later rest (omega arith) in
    elim (cases_Bool (is_decision i.kind)) [
      | inl yes_decided ↦
          let same : nat_eq i.level (suc k) ≡ true = rw yes_decided at now in
          let level = eqb-true i.level (suc k) same in
          let goes : nat_le i.level m ≡ false = lt-leb i.level m (omega arith) in
          rw goes more
      | inr not_decided ↦
          elim (cases_Bool (nat_le i.level m)) [
            | inl stays ↦ (rw (stays, not_decided) (rw stays more.0), rw stays (ap (λ j. depth_from j (filter (is_upto m) later)) (low_after m i not_decided) ∙ more.1))
            | inr leaves ↦ rw leaves more
          ]
    ]

-- what stays stands, and the level that is current then is m
pub stay : (k m : ℕ) (items : List Item) → may_all_stand k items ≡ true → k ≤ m → m ≤ depth_from k items → (may_all_stand k (filter (is_upto m) items) ≡ true) × (depth_from k (filter (is_upto m) items) ≡ m)
stay k m [] h low high = (refl, omega arith)
stay k m (i ∷ later) h low high =
    let (now, rest) = and_parts (may_stand k i) (may_all_stand (level_after k i) later) h in
    elim (cases_Bool (is_decision i.kind)) [
      | inl yes_decided ↦
          let same : nat_eq i.level (suc k) ≡ true = rw yes_decided at now in
          let level = eqb-true i.level (suc k) same in
          let after : level_after k i ≡ i.level = rw yes_decided refl in
          elim (cases_Bool (nat_le i.level m)) [
            | inl stays ↦
                let le = leb-true i.level m stays in
                let more = stay (level_after k i) m later rest (omega arith) high in
                let more_here : (may_all_stand i.level (filter (is_upto m) later) ≡ true) × (depth_from i.level (filter (is_upto m) later) ≡ m) = subst (λ j. (may_all_stand j (filter (is_upto m) later) ≡ true) × (depth_from j (filter (is_upto m) later) ≡ m)) after more in
                (rw (stays, yes_decided) (rw same more_here.0), rw stays more.1)
            | inr leaves ↦
                let gt = leb-false i.level m leaves in
                let equal : m ≡ k = omega arith in
                let more = stay_above (level_after k i) m later rest (omega arith) in
                rw leaves (subst (λ j. (may_all_stand j (filter (is_upto m) later) ≡ true) × (depth_from j (filter (is_upto m) later) ≡ m)) equal more)
          ]
      | inr not_decided ↦
          let under : nat_le i.level k ≡ true = rw not_decided at now in
          let le = leb-true i.level k under in
          let after : level_after k i ≡ k = rw not_decided refl in
          let stays : nat_le i.level m ≡ true = le-leb i.level m (omega arith) in
          let more = stay (level_after k i) m later rest (omega arith) high in
          let more_here : (may_all_stand k (filter (is_upto m) later) ≡ true) × (depth_from k (filter (is_upto m) later) ≡ m) = subst (λ j. (may_all_stand j (filter (is_upto m) later) ≡ true) × (depth_from j (filter (is_upto m) later) ≡ m)) after more in
          (rw (stays, not_decided) (rw under more_here.0), rw stays more.1)
    ]

none_stays : (p : Item → Bool) (items : List Item) (v : ℕ) → item_of items v ≡ None → item_of (filter p items) v ≡ None
none_stays p [] v h = refl
none_stays p (i ∷ later) v h =
    elim (cases_Bool (nat_eq v (nat_abs i.lit))) [
      | inl same ↦ let none : Some i ≡ None = rw same at h in cc
      | inr other ↦
          let rest : item_of later v ≡ None = rw other at h in
          elim (cases_Bool (p i)) [
            | inl stays ↦ rw (stays, other) (none_stays p later v rest)
            | inr leaves ↦ rw leaves (none_stays p later v rest)
          ]
    ]

distinct_stay : (p : Item → Bool) (items : List Item) → are_distinct items ≡ true → are_distinct (filter p items) ≡ true
distinct_stay p [] h = refl
distinct_stay p (i ∷ later) h =
    let (alone, rest) = and_parts (is_none (item_of later (nat_abs i.lit))) (are_distinct later) h in
    elim (cases_Bool (p i)) [
      | inl stays ↦ rw stays (and_from (is_none (item_of (filter p later) (nat_abs i.lit))) (are_distinct (filter p later))
          (is_none_from (item_of (filter p later) (nat_abs i.lit)) (none_stays p later (nat_abs i.lit) (none_is (item_of later (nat_abs i.lit)) alone)))
          (distinct_stay p later rest))
      | inr leaves ↦ rw leaves (distinct_stay p later rest)
    ]

pub trail_back : (n : ℕ) (items : List Item) (level m : ℕ) → IsTrail n items level → m ≤ level → IsTrail n (filter (is_upto m) items) m
trail_back n items level m t low =
    let current = t.current in
    let stays = stay 0 m items t.stands (omega arith) (omega arith) in
    record {
      small = t.small;
      within = all_in_filter (is_within n) (is_upto m) items t.within;
      distinct = distinct_stay (is_upto m) items t.distinct;
      stands = stays.0;
      current = sym stays.1;
    }

-- a variable with no item loses none
none_goes : (k : ℕ) (items : List Item) (v : ℕ) → item_of items v ≡ None → goes k items v ≡ false
none_goes k [] v h = refl
none_goes k (i ∷ later) v h =
    elim (cases_Bool (nat_eq v (nat_abs i.lit))) [
      | inl same ↦ let none : Some i ≡ None = rw same at h in cc
      | inr other ↦ let rest : item_of later v ≡ None = rw other at h in rw other (none_goes k later v rest)
    ]

-- what the table tells where the places of the items above m were emptied
pub tells_back : (m : ℕ) (items : List Item) (v : ℕ) → are_distinct items ≡ true → item_of (filter (is_upto m) items) v ≡ cond (goes (m + 1) items v) None (item_of items v)
tells_back m [] v h = refl
tells_back m (i ∷ later) v h =
    let (alone, rest) = and_parts (is_none (item_of later (nat_abs i.lit))) (are_distinct later) h in
    let here : item_of later (nat_abs i.lit) ≡ None = none_is (item_of later (nat_abs i.lit)) alone in
    elim (cases_Bool (nat_eq v (nat_abs i.lit))) [
      | inl same ↦
          let equal = eqb-true v (nat_abs i.lit) same in
          let none : item_of later v ≡ None = ap (item_of later) equal ∙ here in
          elim (cases_Bool (nat_le i.level m)) [
            | inl stays ↦
                let le = leb-true i.level m stays in
                let gone : nat_le (m + 1) i.level ≡ false = lt-leb (m + 1) i.level (omega arith) in
                rw (stays, same) (rw (gone, none_goes (m + 1) later v none) refl)
            | inr leaves ↦
                let gt = leb-false i.level m leaves in
                let gone : nat_le (m + 1) i.level ≡ true = le-leb (m + 1) i.level (omega arith) in
                rw (leaves, same) (rw gone (none_stays (is_upto m) later v none))
          ]
      | inr other ↦
          elim (cases_Bool (nat_le i.level m)) [
            | inl stays ↦ rw (stays, other) (tells_back m later v rest)
            | inr leaves ↦ rw (leaves, other) (tells_back m later v rest)
          ]
    ]

-- where every place is emptied, nothing is told
pub tells_cleared : (items : List Item) (v : ℕ) → cond (goes 0 items v) None (item_of items v) ≡ None
tells_cleared [] v = refl
tells_cleared (i ∷ later) v =
    elim (cases_Bool (nat_eq v (nat_abs i.lit))) [
      | inl same ↦ rw (same, le-leb 0 i.level (omega arith)) refl
      | inr other ↦ rw other (tells_cleared later v)
    ]

-- the items before a place where all are low lose nothing
low_stay : (m : ℕ) (items : List Item) (v : ℕ) → list_all (is_upto m) items ≡ true → goes (m + 1) items v ≡ false
low_stay m [] v h = refl
low_stay m (i ∷ later) v h =
    let (now, rest) = and_parts (is_upto m i) (list_all (is_upto m) later) h in
    let le = leb-true i.level m now in
    or_from (nat_eq v (nat_abs i.lit) && nat_le (m + 1) i.level) (goes (m + 1) later v) (and_right (nat_eq v (nat_abs i.lit)) (nat_le (m + 1) i.level) (lt-leb (m + 1) i.level (omega arith))) (low_stay m later v rest)

pub goes_after : (m n : ℕ) (items : List Item) (v : ℕ) → list_all (is_upto m) (take n items) ≡ true → goes (m + 1) (drop n items) v ≡ goes (m + 1) items v
goes_after m n items v h =
    sym (ap (λ xs. goes (m + 1) xs v) (sym (take-append-drop n items))
    ∙ list_any-append (λ i. nat_eq v (nat_abs i.lit) && nat_le (m + 1) i.level) (take n items) (drop n items)
    ∙ rw (low_stay m (take n items) v h) refl)

-- the table has places for the items
pub place_at : (n places : ℕ) (items : List Item) → list_all (is_within n) items ≡ true → n < places → (k : ℕ) (d : Item) → k < length items → HasPlace places (get_or items k d)
place_at n places [] w long k d h = absurd (omega arith)
place_at n places (i ∷ later) w long zero d h =
    let (now, rest) = and_parts (is_within n i) (list_all (is_within n) later) w in
    let below = leb-true (nat_abs i.lit) n (and_parts (nat_lt 0 (nat_abs i.lit)) (nat_le (nat_abs i.lit) n) now).1 in
    omega arith
place_at n places (i ∷ later) w long (suc k) d h =
    let (now, rest) = and_parts (is_within n i) (list_all (is_within n) later) w in
    place_at n places later rest long k d (omega arith)

pub place_after : (n places start : ℕ) (items : List Item) → list_all (is_within n) items ≡ true → n < places → All (HasPlace places) (drop start items)
place_after n places start items w long k d h =
    let inside : start + k < length items = omega (arith, length-drop start items) in
    subst (HasPlace places) (sym (get_or-drop start items k d)) (place_at n places items w long (start + k) d inside)
