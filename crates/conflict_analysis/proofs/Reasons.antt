-- What a learnt clause asserts, and that it is a reason for it.
use Rattle.std.proofs.Common.{◌≡◌, ℕ, zero, suc, length, get_or, ◌-◌, ◌<◌, ◌≤◌, true, false, ◌&&◌, ◌||◌, nat_eq, nat_le, ℤ, neg_ℤ, List, [], ◌∷◌, filter, find, Option, Some, None, is_none, refl, sym, ap, subst, ◌∙◌, inl, inr, arith}
use Rattle.std.specs.List.{All, list_all, slice_get}
use Rattle.std.specs.Ordering.{int_eq}
use Rattle.std.proofs.lemmas.Bool.{cases_Bool, and_parts, and_from, or_cases, or_left, or_right, eqb-true, leb-true, le-leb}
use Rattle.std.proofs.lemmas.List.Elements.{All-head, All-tail}
use Rattle.sat_terms.specs.Cubes.{has_literal}
use Rattle.search_region.specs.Trail.{is_reason}
use Rattle.search_region.proofs.Literals.{all_weaker, any_weaker}
use Rattle.chrono_trail.specs.declared.item.Item.{Item}
use Rattle.chrono_trail.specs.Items.{reason_id, decides, is_decision, level_after, may_stand, may_all_stand, is_upto}
use Rattle.chrono_trail.specs.Clauses.{is_false, is_or_false, false_upto, rest_level}
use Rattle.chrono_trail.specs.Pictures.{pictured}
use Rattle.chrono_trail.specs.Trails.{IsTrail}
use Rattle.chrono_trail.proofs.Back.{all_low}
use Rattle.chrono_trail.proofs.Clauses.{low_rest}
use Rattle.chrono_trail.proofs.Levels.{opened}
use Rattle.chrono_trail.proofs.Reasons.{rest_low, pictured_reason}
use Rattle.chrono_trail.proofs.Pictures.{back-picture}
use Rattle.conflict_analysis.specs.Lemmas.{negates_branch, negation_in, asserted}
use Rattle.conflict_analysis.specs.Laws.{AssertingLemmaIsReason, AssertingLemmaIsPictured}

-- no decision is of level 0
pub none_of_zero : (k : ℕ) (items : List Item) → may_all_stand k items ≡ true → find (decides 0) items ≡ None
none_of_zero k [] h = refl
none_of_zero k (i ∷ later) h =
    let (now, rest) = and_parts (may_stand k i) (may_all_stand (level_after k i) later) h in
    elim (cases_Bool (decides 0 i)) [
      | inl here ↦
          let (deciding, same) = and_parts (is_decision i.kind) (nat_eq i.level 0) here in
          let level = opened k i now deciding in
          let lowest = eqb-true i.level 0 same in
          absurd (omega arith)
      | inr other ↦ rw other (none_of_zero (level_after k i) later rest)
    ]

at_place : (items : List Item) (n : ℕ) (d : Item) → n < length items → slice_get items n ≡ Some (get_or items n d)
at_place [] n d h = absurd (omega arith)
at_place (i ∷ later) zero d h = refl
at_place (i ∷ later) (suc n) d h = at_place later n d (omega arith)

-- the negation of the decision at a place is asserted where the clause has it
module _ (items : List Item) (k n : ℕ) (d : Item) (lits : List ℤ) (inside : n < length items) (found : find (decides k) items ≡ slice_get items n) where
  told : asserted items k lits ≡ negation_in lits (Some (get_or items n d))
  told = ap (negation_in lits) (found ∙ at_place items n d inside)

  pub told_had : has_literal lits (neg_ℤ (get_or items n d).lit) ≡ true → asserted items k lits ≡ Some (neg_ℤ (get_or items n d).lit)
  told_had on = told ∙ rw on refl

  pub told_lacked : has_literal lits (neg_ℤ (get_or items n d).lit) ≡ false → asserted items k lits ≡ None
  told_lacked off = told ∙ rw off refl

-- the asserted literal is one of the clause
asserted_among : (lits : List ℤ) (o : Option Item) (x : ℤ) → Some x ≡ negation_in lits o → has_literal lits x ≡ true
asserted_among lits None x h = cc
asserted_among lits (Some d) x h =
    elim (cases_Bool (has_literal lits (neg_ℤ d.lit))) [
      | inl on ↦
          let some : Some x ≡ Some (neg_ℤ d.lit) = rw on at h in
          let same : neg_ℤ d.lit ≡ x = cc in
          subst (λ l. has_literal lits l ≡ true) same on
      | inr off ↦ let clash : Some x ≡ None = rw off at h in cc
    ]

-- literals that negate items are false, and so stand beside x
all_false : (items : List Item) (x : ℤ) (c : List ℤ) → All (λ l. negates_branch items l ≡ true) c → list_all (is_or_false items x) c ≡ true
all_false items x [] h = refl
all_false items x (m ∷ c) h =
    and_from (is_or_false items x m) (list_all (is_or_false items x) c)
    (or_right (int_eq m x) (is_false items m)
    (any_weaker (λ i. int_eq m (neg_ℤ i.lit) && is_none (reason_id i.kind)) (λ i. int_eq m (neg_ℤ i.lit))
    (λ i e. (and_parts (int_eq m (neg_ℤ i.lit)) (is_none (reason_id i.kind)) e).0) items (All-head (λ l. negates_branch items l ≡ true) m c h)))
    (all_false items x c (All-tail (λ l. negates_branch items l ≡ true) m c h))

-- a literal stays false by what stays
false_stays : (j k : ℕ) (items : List Item) (m : ℤ) → j ≤ k → false_upto j items m ≡ true → false_upto j (filter (is_upto k) items) m ≡ true
false_stays j k [] m low h = h
false_stays j k (i ∷ later) m low h =
    elim (or_cases (int_eq m (neg_ℤ i.lit) && nat_le i.level j) (false_upto j later m) h) [
      | inl here ↦
          let level = leb-true i.level j (and_parts (int_eq m (neg_ℤ i.lit)) (nat_le i.level j) here).1 in
          rw (le-leb i.level k (omega arith)) (or_left (int_eq m (neg_ℤ i.lit) && nat_le i.level j) (false_upto j (filter (is_upto k) later) m) here)
      | inr rest ↦
          let more = false_stays j k later m low rest in
          elim (cases_Bool (is_upto k i)) [
            | inl stays ↦ rw stays (or_right (int_eq m (neg_ℤ i.lit) && nat_le i.level j) (false_upto j (filter (is_upto k) later) m) more)
            | inr leaves ↦ rw leaves more
          ]
    ]

-- a level of a clause is at most the current one
pub level_low : (n : ℕ) (items : List Item) (level : ℕ) (l : ℤ) (c : List ℤ) → IsTrail n items level → rest_level items l c ≤ level
level_low n items level l c t =
    let current = t.current in
    low_rest items l level c (all_low 0 level items t.stands (omega arith))

pub asserting_is_reason : AssertingLemmaIsReason
asserting_is_reason clauses n items level id lits k r x i t h lower lit lev =
    let among : has_literal lits x ≡ true = asserted_among lits (find (decides k) items) x h.asserts in
    let low = rest_low items x r lits t.distinct (all_false items x lits h.resolvent.negated) (let rest = h.rest in omega arith) in
    record {
      among = subst (λ l. has_literal lits l ≡ true) (sym lit) among;
      rest = subst (λ l. list_all (λ m. int_eq m l || false_upto i.level (filter (is_upto (k - 1)) items) m) lits ≡ true) (sym lit)
          (subst (λ j. list_all (λ m. int_eq m x || false_upto j (filter (is_upto (k - 1)) items) m) lits ≡ true) (sym lev)
          (all_weaker (λ m. int_eq m x || false_upto r items m) (λ m. int_eq m x || false_upto r (filter (is_upto (k - 1)) items) m)
          (λ m e. elim (or_cases (int_eq m x) (false_upto r items m) e) [
            | inl same ↦ or_left (int_eq m x) (false_upto r (filter (is_upto (k - 1)) items) m) same
            | inr wrong ↦ or_right (int_eq m x) (false_upto r (filter (is_upto (k - 1)) items) m) (false_stays r (k - 1) items m (omega arith) wrong)
          ]) lits low));
    }

pub asserting_is_pictured : AssertingLemmaIsPictured
asserting_is_pictured clauses n items level id lits k r x i t h lower lit lev =
    subst (λ trail. is_reason lits (pictured clauses i) trail ≡ true) (sym (back-picture clauses (k - 1) items))
    (pictured_reason clauses (filter (is_upto (k - 1)) items) i lits (asserting_is_reason clauses n items level id lits k r x i t h lower lit lev))
