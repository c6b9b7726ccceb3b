-- What a trail tells of its decisions, and what it keeps once levels were taken back, or all was.
use Rattle.std.proofs.Common.{◌≡◌, ℕ, zero, suc, ◌+◌, ◌-◌, ◌<◌, ◌≤◌, min, Bool, true, false, cond, nat_eq, List, [], ◌∷◌, length, get_or, take, filter, Option, None, refl, sym, ap, subst, ◌∙◌, inl, inr, arith, take_all}
use Rattle.std.specs.List.{list_all}
use Rattle.std.proofs.lemmas.Bool.{cases_Bool, and_parts, and_from}
use Rattle.chrono_trail.specs.declared.item.Item.{Item}
use Rattle.chrono_trail.specs.Items.{goes, is_upto}
use Rattle.chrono_trail.specs.Trails.{IsTrail, IsKept}
use Rattle.chrono_trail.proofs.Back.{trail_back, tells_back, tells_cleared}
use Rattle.chrono_trail.proofs.Decisions.{decisions_count, decisions_back}

-- the stack has a place for each level
pub kept_count : {items : List Item} {given : List (Option Item)} {decided : List ℕ} {seen level wide deep : ℕ} → IsKept items given decided seen level wide deep → length decided ≡ level
kept_count {items} k =
    let count = decisions_count 0 0 items k.trail.stands in
    let current = k.trail.current in
    let stack = ap length k.stack in
    omega arith

pub kept_back : (items : List Item) (given now : List (Option Item)) (decided : List ℕ) (seen now_seen level wide deep wide_now deep_now m : ℕ) → IsKept items given decided seen level wide deep → m ≤ level → length now ≡ length given → wide_now ≡ wide → deep_now ≡ deep → ((v : ℕ) → get_or now v None ≡ cond (goes (m + 1) items v) None (get_or given v None)) → now_seen ≤ length (filter (is_upto m) items) → IsKept (filter (is_upto m) items) now (take m decided) now_seen m wide_now deep_now
kept_back items given now decided seen now_seen level wide deep wide_now deep_now m k low long same_wide same_deep empties few =
    let places = k.places in
    let room = k.room in
    let depth_room = k.depth_room in
    record {
      trail = subst (λ n. IsTrail (n - 1) (filter (is_upto m) items) m) (sym long) (trail_back (length given - 1) items level m k.trail low);
      places = omega arith;
      tells = λ v h. empties v ∙ ap (cond (goes (m + 1) items v) None) (k.tells v (omega arith)) ∙ sym (tells_back m items v k.trail.distinct);
      stack = ap (take m) k.stack ∙ sym (decisions_back 0 m m 0 items k.trail.stands (omega arith));
      marked = few;
      room = omega arith;
      depth_room = omega arith;
    }

pub kept_nothing : (items : List Item) (given now : List (Option Item)) (decided : List ℕ) (seen level wide deep wide_now deep_now : ℕ) → IsKept items given decided seen level wide deep → length now ≡ length given → wide_now ≡ wide → deep_now ≡ deep → ((v : ℕ) → get_or now v None ≡ cond (goes 0 items v) None (get_or given v None)) → IsKept [] now [] 0 0 wide_now deep_now
kept_nothing items given now decided seen level wide deep wide_now deep_now k long same_wide same_deep empties =
    let places = k.places in
    let room = k.room in
    let depth_room = k.depth_room in
    let small = k.trail.small in
    record {
      trail = record { small = omega arith; within = refl; distinct = refl; stands = refl; current = refl };
      places = omega arith;
      tells = λ v h. empties v ∙ ap (cond (goes 0 items v) None) (k.tells v (omega arith)) ∙ tells_cleared items v;
      stack = refl;
      marked = omega arith;
      room = omega arith;
      depth_room = omega arith;
    }

-- the mark moved
pub kept_seen : {items : List Item} {given : List (Option Item)} {decided : List ℕ} {seen level wide deep : ℕ} → IsKept items given decided seen level wide deep → (now : ℕ) → now ≤ length items → IsKept items given decided now level wide deep
kept_seen k now few = record {
  trail = k.trail;
  places = k.places;
  tells = k.tells;
  stack = k.stack;
  marked = few;
  room = k.room;
  depth_room = k.depth_room;
}

-- of the first items no more stay than of all
pub fewer_stay : (p : Item → Bool) (n : ℕ) (items : List Item) → length (filter p (take n items)) ≤ length (filter p items)
fewer_stay p zero items = omega arith
fewer_stay p (suc n) [] = omega arith
fewer_stay p (suc n) (i ∷ later) =
    let more = fewer_stay p n later in
    elim (cases_Bool (p i)) [
      | inl stays ↦
          let long : length (filter p (take (suc n) (i ∷ later))) ≡ suc (length (filter p (take n later))) = rw stays refl in
          let whole : length (filter p (i ∷ later)) ≡ suc (length (filter p later)) = rw stays refl in
          omega arith
      | inr leaves ↦
          let long : length (filter p (take (suc n) (i ∷ later))) ≡ length (filter p (take n later)) = rw leaves refl in
          let whole : length (filter p (i ∷ later)) ≡ length (filter p later) = rw leaves refl in
          omega arith
    ]

-- how many of the first `seen` items stay of those before one more place: it stays and is marked
stay_next : (p : Item → Bool) (items : List Item) (seen i : ℕ) (d : Item) → i < length items → p (get_or items i d) ≡ true → i < seen → length (filter p (take (suc i) (take seen items))) ≡ suc (length (filter p (take i (take seen items))))
stay_next p [] seen i d inside stays low = absurd (omega arith)
stay_next p (x ∷ items) zero i d inside stays low = absurd (omega arith)
stay_next p (x ∷ items) (suc seen) zero d inside stays low = rw stays refl
stay_next p (x ∷ items) (suc seen) (suc i) d inside stays low =
    let more = stay_next p items seen i d (omega arith) stays (omega arith) in
    elim (cases_Bool (p x)) [
      | inl first ↦ rw first (ap suc more)
      | inr other ↦ rw other more
    ]

-- it is not marked
past_next : (p : Item → Bool) (items : List Item) (seen i : ℕ) → seen ≤ i → length (filter p (take (suc i) (take seen items))) ≡ length (filter p (take i (take seen items)))
past_next p items zero i low = ap (λ xs. length (filter p xs)) (sym (take_all i [] (omega arith)))
past_next p [] (suc seen) i low = ap (λ xs. length (filter p xs)) (sym (take_all i [] (omega arith)))
past_next p (x ∷ items) (suc seen) zero low = absurd (omega arith)
past_next p (x ∷ items) (suc seen) (suc i) low =
    let more = past_next p items seen i (omega arith) in
    elim (cases_Bool (p x)) [
      | inl first ↦ rw first (ap suc more)
      | inr other ↦ rw other more
    ]

-- it goes
not_next : (p : Item → Bool) (items : List Item) (seen i : ℕ) (d : Item) → i < length items → p (get_or items i d) ≡ false → length (filter p (take (suc i) (take seen items))) ≡ length (filter p (take i (take seen items)))
not_next p [] seen i d inside leaves = absurd (omega arith)
not_next p (x ∷ items) zero i d inside leaves = ap (λ xs. length (filter p xs)) (sym (take_all i [] (omega arith)))
not_next p (x ∷ items) (suc seen) zero d inside leaves = rw leaves refl
not_next p (x ∷ items) (suc seen) (suc i) d inside leaves =
    let more = not_next p items seen i d (omega arith) leaves in
    elim (cases_Bool (p x)) [
      | inl first ↦ rw first (ap suc more)
      | inr other ↦ rw other more
    ]

next : (p : Item → Bool) (items : List Item) (seen i : ℕ) → length (filter p (take (i + 1) (take seen items))) ≡ length (filter p (take (suc i) (take seen items)))
next p items seen i = let one : i + 1 ≡ suc i = omega arith in ap (λ n. length (filter p (take n (take seen items)))) one

pub stay_more : (p : Item → Bool) (items : List Item) (seen i : ℕ) (d : Item) → i < length items → p (get_or items i d) ≡ true → i < seen → length (filter p (take (i + 1) (take seen items))) ≡ suc (length (filter p (take i (take seen items))))
stay_more p items seen i d inside stays low = next p items seen i ∙ stay_next p items seen i d inside stays low

pub stay_past : (p : Item → Bool) (items : List Item) (seen i : ℕ) → seen ≤ i → length (filter p (take (i + 1) (take seen items))) ≡ length (filter p (take i (take seen items)))
stay_past p items seen i low = next p items seen i ∙ past_next p items seen i low

pub stay_not : (p : Item → Bool) (items : List Item) (seen i : ℕ) (d : Item) → i < length items → p (get_or items i d) ≡ false → length (filter p (take (i + 1) (take seen items))) ≡ length (filter p (take i (take seen items)))
stay_not p items seen i d inside leaves = next p items seen i ∙ not_next p items seen i d inside leaves

-- where each of the first items stays, all of them that are marked do
pub all_in_front : (p : Item → Bool) (start seen : ℕ) (items : List Item) → start ≤ length items → list_all p (take start items) ≡ true → min start seen ≡ length (filter p (take start (take seen items)))
all_in_front p zero seen items long h = omega arith
all_in_front p (suc start) seen [] long h = absurd (omega arith)
all_in_front p (suc start) zero (x ∷ items) long h = omega arith
all_in_front p (suc start) (suc seen) (x ∷ items) long h =
    let (now, rest) = and_parts (p x) (list_all p (take start items)) h in
    let more = all_in_front p start seen items (omega arith) rest in
    let whole : length (filter p (take (suc start) (take (suc seen) (x ∷ items)))) ≡ suc (length (filter p (take start (take seen items)))) = rw now refl in
    omega arith

-- the mark on a level is at most what stayed
pub seen_low : (k kept n : ℕ) → kept ≤ n → cond (nat_eq k 0) 0 kept ≤ n
seen_low k kept n low =
    elim (cases_Bool (nat_eq k 0)) [
      | inl none ↦ rw none (omega arith)
      | inr some ↦ rw some low
    ]

-- what holds of all items holds of the first ones
pub list_all_take : (p : Item → Bool) (n : ℕ) (items : List Item) → list_all p items ≡ true → list_all p (take n items) ≡ true
list_all_take p zero items h = refl
list_all_take p (suc n) [] h = refl
list_all_take p (suc n) (x ∷ items) h =
    let (now, rest) = and_parts (p x) (list_all p items) h in
    and_from (p x) (list_all p (take n items)) now (list_all_take p n items rest)
