-- Items keep their reasons as others join and go, and as clauses join.
use Rattle.std.proofs.Common.{◌≡◌, ℕ, ◌<◌, ◌≤◌, true, ◌&&◌, ◌||◌, nat_le, List, [], ◌∷◌, ◌++◌, length, filter, get_or, ℤ, neg_ℤ, Some, None, refl, sym, ap, subst, ◌∙◌, inl, inr, arith, append_assoc, append-nil, length-append}
use Rattle.std.specs.Ordering.{int_eq}
use Rattle.std.proofs.Math.ListN.{get_or-append}
use Rattle.std.proofs.lemmas.Bool.{and_parts, and_from, or_cases, or_left, or_right, cases_Bool, leb-true, le-leb, lt-ltb}
use Rattle.std.proofs.lemmas.List.Elements.{filter-append}
use Rattle.search_region.proofs.Literals.{all_weaker}
use Rattle.chrono_trail.specs.declared.item.Kind.{Kind}
use Rattle.chrono_trail.specs.declared.item.Kind.TheVariants.{Assumed, Decided, Flipped, Turned, Implied}
use Rattle.chrono_trail.specs.declared.item.Item.{Item}
use Rattle.chrono_trail.specs.Items.{reason_id, is_inside, are_inside, is_upto}
use Rattle.chrono_trail.specs.Clauses.{false_upto, IsReason}
use Rattle.chrono_trail.specs.Reasons.{HasReason, HaveReasons, AppendingKeepsReasons, BacktrackingKeepsReasons, MoreClausesKeepReasons, ReasonsAreInside, ReasonsArePictured}
use Rattle.chrono_trail.proofs.Reasons.{pictured_reason}

-- what stands by no clause owes none
pub needs_none : (clauses : List (List ℤ)) (older : List Item) (i : Item) → reason_id i.kind ≡ None → HasReason clauses older i
needs_none clauses older i none id some = let clash : Some id ≡ None = sym some ∙ none in cc

-- one reason after another
pub have_more : (clauses : List (List ℤ)) (older xs ys : List Item) → HaveReasons clauses older xs → HaveReasons clauses (older ++ xs) ys → HaveReasons clauses older (xs ++ ys)
have_more clauses older [] ys h g = subst (λ o. HaveReasons clauses o ys) (append-nil older) g
have_more clauses older (x ∷ xs) ys h g =
    (h.0, have_more clauses (older ++ x ∷ []) xs ys h.1 (subst (λ o. HaveReasons clauses o ys) (sym (append_assoc older (x ∷ []) xs)) g))

pub appending_keeps : AppendingKeepsReasons
appending_keeps clauses items e h here = have_more clauses [] items (e ∷ []) h (here, tt)

-- a literal stays false by what stays
false_stays : (j k : ℕ) (items : List Item) (m : ℤ) → j ≤ k → false_upto j items m ≡ true → false_upto j (filter (is_upto k) items) m ≡ true
false_stays j k [] m low h = h
false_stays j k (i ∷ later) m low h =
    elim (or_cases (int_eq m (neg_ℤ i.lit) && nat_le i.level j) (false_upto j later m) h) [
      | inl here ↦
          let parts = and_parts (int_eq m (neg_ℤ i.lit)) (nat_le i.level j) here in
          let level = leb-true i.level j parts.1 in
          rw (le-leb i.level k (omega arith)) (or_left (int_eq m (neg_ℤ i.lit) && nat_le i.level j) (false_upto j (filter (is_upto k) later) m) here)
      | inr rest ↦
          let more = false_stays j k later m low rest in
          elim (cases_Bool (is_upto k i)) [
            | inl stays ↦ rw stays (or_right (int_eq m (neg_ℤ i.lit) && nat_le i.level j) (false_upto j (filter (is_upto k) later) m) more)
            | inr leaves ↦ rw leaves more
          ]
    ]

reason_stays : (k : ℕ) (older : List Item) (i : Item) (c : List ℤ) → i.level ≤ k → IsReason older i c → IsReason (filter (is_upto k) older) i c
reason_stays k older i c low h = record {
  among = h.among;
  rest =
      all_weaker (λ m. int_eq m i.lit || false_upto i.level older m) (λ m. int_eq m i.lit || false_upto i.level (filter (is_upto k) older) m)
      (λ m e. elim (or_cases (int_eq m i.lit) (false_upto i.level older m) e) [
        | inl same ↦ or_left (int_eq m i.lit) (false_upto i.level (filter (is_upto k) older) m) same
        | inr wrong ↦ or_right (int_eq m i.lit) (false_upto i.level (filter (is_upto k) older) m) (false_stays i.level k older m low wrong)
      ])
      c h.rest;
}

have_back : (clauses : List (List ℤ)) (k : ℕ) (older later : List Item) → HaveReasons clauses older later → HaveReasons clauses (filter (is_upto k) older) (filter (is_upto k) later)
have_back clauses k older [] h = tt
have_back clauses k older (i ∷ later) h =
    let more = have_back clauses k (older ++ i ∷ []) later h.1 in
    let parts = filter-append (is_upto k) older (i ∷ []) in
    elim (cases_Bool (is_upto k i)) [
      | inl stays ↦
          let one : filter (is_upto k) (i ∷ []) ≡ i ∷ [] = rw stays refl in
          let grown : filter (is_upto k) (older ++ i ∷ []) ≡ filter (is_upto k) older ++ i ∷ [] = parts ∙ ap (λ xs. filter (is_upto k) older ++ xs) one in
          rw stays (
            (λ id some. let at = h.0 id some in record {
              inside = at.inside;
              reason = reason_stays k older i (get_or clauses id []) (leb-true i.level k stays) at.reason;
            }),
            subst (λ o. HaveReasons clauses o (filter (is_upto k) later)) grown more,
          )
      | inr leaves ↦
          let none : filter (is_upto k) (i ∷ []) ≡ [] = rw leaves refl in
          let same : filter (is_upto k) (older ++ i ∷ []) ≡ filter (is_upto k) older = parts ∙ ap (λ xs. filter (is_upto k) older ++ xs) none ∙ append-nil (filter (is_upto k) older) in
          rw leaves (subst (λ o. HaveReasons clauses o (filter (is_upto k) later)) same more)
    ]

pub backtracking_keeps : BacktrackingKeepsReasons
backtracking_keeps clauses k items h = have_back clauses k [] items h

have_grown : (clauses more : List (List ℤ)) (older later : List Item) → HaveReasons clauses older later → HaveReasons (clauses ++ more) older later
have_grown clauses more older [] h = tt
have_grown clauses more older (i ∷ later) h = (
  (λ id some. let at = h.0 id some in record {
    inside = let inside = at.inside in let long = length-append clauses more in omega arith;
    reason = subst (IsReason older i) (sym (get_or-append clauses more [] id at.inside)) at.reason;
  }),
  have_grown clauses more (older ++ i ∷ []) later h.1,
)

pub more_clauses_keep : MoreClausesKeepReasons
more_clauses_keep clauses more items h = have_grown clauses more [] items h

kind_inside : (m : ℕ) (k : Kind) → ((id : ℕ) → reason_id k ≡ Some id → id < m) → is_inside m k ≡ true
kind_inside m Assumed h = refl
kind_inside m Decided h = refl
kind_inside m Flipped h = refl
kind_inside m (Turned id) h = lt-ltb id m (h id refl)
kind_inside m (Implied id) h = lt-ltb id m (h id refl)

have_inside : (clauses : List (List ℤ)) (older later : List Item) → HaveReasons clauses older later → are_inside (length clauses) later ≡ true
have_inside clauses older [] h = refl
have_inside clauses older (i ∷ later) h =
    and_from (is_inside (length clauses) i.kind) (are_inside (length clauses) later)
    (kind_inside (length clauses) i.kind (λ id some. (h.0 id some).inside)) (have_inside clauses (older ++ i ∷ []) later h.1)

pub reasons_are_inside : ReasonsAreInside
reasons_are_inside clauses items h = have_inside clauses [] items h

-- the reason of an item within the list
pub reason_within : (clauses : List (List ℤ)) (older before : List Item) (i : Item) (after : List Item) → HaveReasons clauses older (before ++ i ∷ after) → HasReason clauses (older ++ before) i
reason_within clauses older [] i after h = subst (λ o. HasReason clauses o i) (sym (append-nil older)) h.0
reason_within clauses older (x ∷ before) i after h = subst (λ o. HasReason clauses o i) (append_assoc older (x ∷ []) before) (reason_within clauses (older ++ x ∷ []) before i after h.1)

pub reasons_are_pictured : ReasonsArePictured
reasons_are_pictured clauses before i after id h some =
    pictured_reason clauses before i (get_or clauses id []) (reason_within clauses [] before i after h id some).reason
