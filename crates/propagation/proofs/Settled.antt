-- What settled means, and which moves of the trail leave it so.
use Rattle.std.proofs.Common.{◌≡◌, ℕ, ◌<◌, ◌≤◌, ◌||◌, Bool, true, false, cond, nat_le, length-append, List, [], ◌∷◌, ◌++◌, length, get_or, take, drop, filter, ℤ, neg_ℤ, refl, sym, ap, subst, ◌∙◌, inl, inr, arith}
use Rattle.std.specs.List.{list_any}
use Rattle.std.specs.Ordering.{int_eq}
use Rattle.std.proofs.lemmas.Bool.{both_ways, cases_eq, cases_Bool, or_cases, or_left, or_right, ne_eqb, eq-eqb, false_from_ne_true, le-leb, leb-true}
use Rattle.std.proofs.lemmas.List.{take_at, take-append-drop}
use Rattle.std.proofs.lemmas.List.Elements.{filter-append}
use Rattle.chrono_trail.specs.declared.item.Item.{Item}
use Rattle.chrono_trail.specs.Items.{is_upto}
use Rattle.chrono_trail.specs.Trails.{TrailView}
use Rattle.chrono_trail.specs.Clauses.{is_true, is_false}
use Rattle.chrono_trail.proofs.Kept.{fewer_stay}
use Rattle.propagation.specs.Settled.{Watches, IsSettled, PropagatorView, HasDone, HasListed, is_seen_false, is_held, SettledWatches, UnseenIsSettled, ClearingStaysSettled, AppendingStaysSettled, BacktrackingStaysSettled}
use Rattle.propagation.proofs.Truths.{true_more}
use Rattle.propagation.proofs.Easing.{eased_push}

pub settled_watches : SettledWatches
unfolding Watches IsSettled
settled_watches clauses propagator trail h = h.watches

-- no marked item makes a literal false where none is marked
pub none_seen : (trail : TrailView) (l : ℤ) → trail.seen ≡ 0 → is_seen_false trail l ≡ false
none_seen trail l none = ap (λ k. is_false (take k trail.items) l) none

pub unseen_done : (clauses : List (List ℤ)) (propagator : PropagatorView) (trail : TrailView) → HasListed clauses propagator → trail.seen ≡ 0 → HasDone clauses propagator trail
unseen_done clauses propagator trail watches none = record {
  watches = watches;
  marked = omega arith;
  eased = λ n stands. record {
    not_both = λ off. absurd (both_ways (is_seen_false trail _) (none_seen trail _ none) off);
    lowest = λ low off. absurd (both_ways (is_seen_false trail _) (none_seen trail _ none) off);
  };
  held = λ some. absurd (omega arith);
}

pub settled_unseen : UnseenIsSettled
unfolding Watches IsSettled
settled_unseen clauses propagator trail watches none = unseen_done clauses propagator trail watches none

pub settled_clear : ClearingStaysSettled
settled_clear clauses propagator old new h none = settled_unseen clauses propagator new (settled_watches clauses propagator old h) none

-- a clause that is held stays so
pub any_weaker : (p q : ℤ → Bool) (c : List ℤ) → ((l : ℤ) → p l ≡ true → q l ≡ true) → list_any p c ≡ true → list_any q c ≡ true
any_weaker p q [] weaker h = h
any_weaker p q (l ∷ c) weaker h = elim (or_cases (p l) (list_any p c) h) [
  | inl here ↦ or_left (q l) (list_any q c) (weaker l here)
  | inr later ↦ or_right (q l) (list_any q c) (any_weaker p q c weaker later)
]

pub held_more : (items more : List Item) (c : List ℤ) → is_held items c ≡ true → is_held (items ++ more) c ≡ true
held_more items more c h =
    subst (λ xs. list_any (is_true xs) c ≡ true) (sym (filter-append (is_upto 0) items more))
    (any_weaker (is_true (filter (is_upto 0) items)) (is_true (filter (is_upto 0) items ++ filter (is_upto 0) more)) c (λ l on. true_more (filter (is_upto 0) items) (filter (is_upto 0) more) l on) h)

pub push_done : (clauses : List (List ℤ)) (propagator : PropagatorView) (old new : TrailView) (more : List Item) →
    HasDone clauses propagator old → new.items ≡ old.items ++ more → old.level ≤ new.level → new.seen ≡ old.seen → HasDone clauses propagator new
push_done clauses propagator old new more h items level seen = record {
  watches = h.watches;
  marked = subst (λ k. k ≤ length new.items) (sym seen) (subst (λ xs. old.seen ≤ length xs) (sym items) (let long = length-append old.items more in let marked = h.marked in omega arith));
  eased = eased_push propagator.lists old new more h.eased h.marked items (λ low. omega arith) seen;
  held = λ some id inside short. subst (λ xs. is_held xs (get_or clauses id []) ≡ true) (sym items) (held_more old.items more (get_or clauses id []) (h.held (omega arith) id inside short));
}

pub settled_push : AppendingStaysSettled
unfolding IsSettled
settled_push clauses propagator old new more h variables items level seen = push_done clauses propagator old new more h items level seen

-- what is false by the items that stay was so before
false_stays : (p : Item → Bool) (items : List Item) (l : ℤ) → is_false (filter p items) l ≡ true → is_false items l ≡ true
false_stays p [] l h = h
false_stays p (i ∷ later) l h = elim (cases_Bool (p i)) [
  | inl stays ↦
      let kept : (int_eq l (neg_ℤ i.lit) || is_false (filter p later) l) ≡ true = rw stays at h in
      elim (or_cases (int_eq l (neg_ℤ i.lit)) (is_false (filter p later) l) kept) [
        | inl here ↦ or_left (int_eq l (neg_ℤ i.lit)) (is_false later l) here
        | inr there ↦ or_right (int_eq l (neg_ℤ i.lit)) (is_false later l) (false_stays p later l there)
      ]
  | inr leaves ↦
      let kept : is_false (filter p later) l ≡ true = rw leaves at h in
      or_right (int_eq l (neg_ℤ i.lit)) (is_false later l) (false_stays p later l kept)
]

-- the marked items that stay are the first ones of those that stay
stay_first : (p : Item → Bool) (seen : ℕ) (items : List Item) → take (length (filter p (take seen items))) (filter p items) ≡ filter p (take seen items)
stay_first p seen items =
    ap (λ xs. take (length (filter p (take seen items))) (filter p xs)) (sym (take-append-drop seen items))
    ∙ ap (take (length (filter p (take seen items)))) (filter-append p (take seen items) (drop seen items))
    ∙ take_at (filter p (take seen items)) (filter p (drop seen items)) (length (filter p (take seen items))) refl

-- level 0 is of each level
lowest_stay : (k : ℕ) (items : List Item) → filter (is_upto 0) (filter (is_upto k) items) ≡ filter (is_upto 0) items
lowest_stay k [] = refl
lowest_stay k (i ∷ later) = elim (cases_Bool (nat_le i.level k)) [
  | inl stays ↦ rw stays (elim (cases_Bool (nat_le i.level 0)) [
    | inl low ↦ rw low (ap (λ xs. i ∷ xs) (lowest_stay k later))
    | inr high ↦ rw high (lowest_stay k later)
  ])
  | inr leaves ↦
      let high : nat_le i.level 0 ≡ false = false_from_ne_true (nat_le i.level 0) (λ low. let zero_level = leb-true i.level 0 low in both_ways (nat_le i.level k) leaves (le-leb i.level k (omega arith))) in
      rw leaves (rw high (lowest_stay k later))
]

back_done : (clauses : List (List ℤ)) (propagator : PropagatorView) (old new : TrailView) (k : ℕ) → HasDone clauses propagator old →
    (k ≡ 0 → ⊥) → new.items ≡ filter (is_upto k) old.items → new.level ≡ k → new.seen ≡ length (filter (is_upto k) (take old.seen old.items)) →
    HasDone clauses propagator new
back_done clauses propagator old new k h some items level seen = record {
  watches = h.watches;
  marked = subst (λ n. n ≤ length new.items) (sym seen) (subst (λ xs. length (filter (is_upto k) (take old.seen old.items)) ≤ length xs) (sym items) (fewer_stay (is_upto k) old.seen old.items));
  eased = λ n stands.
      let e = h.eased n stands in
      record {
        not_both = λ off. false_from_ne_true (is_seen_false new _) (λ wrong. both_ways (is_seen_false old _) (e.not_both (before _ off)) (before _ wrong));
        lowest = λ low off. absurd (some (sym level ∙ low));
      };
  held = λ more id inside short.
      subst (λ xs. list_any (is_true xs) (get_or clauses id []) ≡ true) (sym (ap (filter (is_upto 0)) items ∙ lowest_stay k old.items))
      (h.held (marked_before more) id inside short);
}
  where
    marks : take new.seen new.items ≡ filter (is_upto k) (take old.seen old.items)
    marks = ap (λ n. take n new.items) seen ∙ ap (take (length (filter (is_upto k) (take old.seen old.items)))) items ∙ stay_first (is_upto k) old.seen old.items

    before : (l : ℤ) → is_seen_false new l ≡ true → is_seen_false old l ≡ true
    before l off = false_stays (is_upto k) (take old.seen old.items) l (subst (λ xs. is_false xs l ≡ true) marks off)

    marked_before : 0 < new.seen → 0 < old.seen
    marked_before more = elim (cases_eq old.seen 0) [
      | inl none ↦ let nothing : new.seen ≡ 0 = seen ∙ ap (λ n. length (filter (is_upto k) (take n old.items))) none in absurd (omega arith)
      | inr marked ↦ omega (arith, marked)
    ]

pub settled_back : BacktrackingStaysSettled
unfolding IsSettled
settled_back clauses propagator old new k h variables items level seen = elim (cases_eq k 0) [
  | inl lowest ↦ unseen_done clauses propagator new h.watches (seen ∙ ap (λ b. cond b 0 (length (filter (is_upto k) (take old.seen old.items)))) (eq-eqb k 0 lowest))
  | inr some ↦ back_done clauses propagator old new k h some items level (seen ∙ ap (λ b. cond b 0 (length (filter (is_upto k) (take old.seen old.items)))) (ne_eqb k 0 some))
]
