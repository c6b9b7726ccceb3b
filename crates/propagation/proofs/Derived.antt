-- What propagation derives, and what its end says of the closure.
use Rattle.std.proofs.Common.{◌≡◌, true, false, ◌||◌, List, [], ◌∷◌, ◌++◌, get_or, ℤ, neg_ℤ, nat_abs, Option, Some, None, refl, sym, ap, subst, ◌∙◌, inl, inr, append_assoc, append-nil}
use Rattle.std.specs.List.{All, Contains, list_all}
use Rattle.std.specs.Ordering.{int_eq}
use Rattle.std.proofs.lemmas.Bool.{both_ways, or_cases, cases_Bool, false_from_ne_true}
use Rattle.std.proofs.lemmas.List.{get_or_default}
use Rattle.std.proofs.lemmas.List.Folds.{list_any-append}
use Rattle.std.proofs.lemmas.List.Elements.{Contains-get_or}
use Rattle.sat_terms.specs.Cubes.{has_literal, has_pair}
use Rattle.sat_terms.specs.Literals.{IsLiteral}
use Rattle.sat_terms.proofs.CubeLemmas.{int_eq-true}
use Rattle.search_region.proofs.Literals.{test_from_same, all_weaker}
use Rattle.unit_closure.specs.Closure.{InClosure}
use Rattle.unit_closure.proofs.Follows.{holds_units}
use Rattle.unit_closure.proofs.Members.{all_of, all_from_members}
use Rattle.chrono_trail.specs.declared.item.Item.{Item}
use Rattle.chrono_trail.specs.Items.{item_of, are_distinct}
use Rattle.chrono_trail.specs.Clauses.{is_true, is_false, is_false_clause, is_or_false, IsUnit, IsAtRest}
use Rattle.chrono_trail.proofs.Clauses.{false_from_other}
use Rattle.chrono_trail.proofs.Pairs.{pair_at_rest}
use Rattle.propagation.specs.Steps.{IsImplied, AreImplied, AreAtRest}
use Rattle.propagation.specs.Derived.{AreDerived, PropagationDerives, FalseClauseCloses, RestIsClosed, RestStaysOpen}
use Rattle.propagation.proofs.Reasons.{distinct_front}
use Rattle.propagation.proofs.Truths.{true_negated, true_from_item}

-- a unit clause has no pair, and a false one has none either
unit_is_plain : (items : List Item) (c : List ℤ) (l : ℤ) → are_distinct items ≡ true → All IsLiteral c → IsUnit items l c → has_pair c ≡ false
unit_is_plain items c l apart literals unit = false_from_ne_true (has_pair c) (λ pair. (pair_at_rest items c apart literals pair).not_unit l unit)

false_is_plain : (items : List Item) (c : List ℤ) → are_distinct items ≡ true → All IsLiteral c → is_false_clause items c ≡ true → has_pair c ≡ false
false_is_plain items c apart literals wrong = false_from_ne_true (has_pair c) (λ pair. both_ways (is_false_clause items c) (pair_at_rest items c apart literals pair).not_false wrong)

derive_next : (clauses : List (List ℤ)) (a : List ℤ) (old : List Item) (i : Item) → All (All IsLiteral) clauses → are_distinct old ≡ true → IsImplied clauses old i → AreDerived clauses a old → AreDerived clauses a (old ++ i ∷ [])
derive_next clauses a old i literals apart h derived l on =
    elim (or_cases (is_true old l) (int_eq l i.lit || false) (sym (list_any-append (λ j. int_eq l j.lit) old (i ∷ [])) ∙ on)) [
      | inl before ↦ derived l before
      | inr now ↦
          elim (or_cases (int_eq l i.lit) false now) [
            | inl same ↦ subst (InClosure clauses a) (sym (int_eq-true l i.lit same)) unit
            | inr clash ↦ absurd (both_ways false refl clash)
          ]
    ]
  where
    c : List ℤ
    c = get_or clauses h.id []

    rest : (m : ℤ) → has_literal c m ≡ true → (m ≡ i.lit → ⊥) → InClosure clauses a (neg_ℤ m)
    rest m there other =
        elim (or_cases (int_eq m i.lit) (is_false old m) (all_of (is_or_false old i.lit) c m h.unit.rest there)) [
          | inl same ↦ absurd (other (int_eq-true m i.lit same))
          | inr wrong ↦ derived (neg_ℤ m) (true_negated old m ∙ wrong)
        ]

    unit : InClosure clauses a i.lit
    unit = holds_units clauses a c i.lit (Contains-get_or clauses h.id [] h.inside) (unit_is_plain old c i.lit apart (literals h.id [] h.inside) h.unit) h.unit.among rest

derive_all : (clauses : List (List ℤ)) (a : List ℤ) (old added : List Item) → All (All IsLiteral) clauses → are_distinct (old ++ added) ≡ true → AreImplied clauses old added → AreDerived clauses a old → AreDerived clauses a (old ++ added)
derive_all clauses a old [] literals apart h derived = subst (AreDerived clauses a) (sym (append-nil old)) derived
derive_all clauses a old (i ∷ added) literals apart h derived =
    let shift = append_assoc old (i ∷ []) added in
    subst (AreDerived clauses a) shift
    (derive_all clauses a (old ++ i ∷ []) added literals (subst (λ xs. are_distinct xs ≡ true) (sym shift) apart) h.1
    (derive_next clauses a old i literals (distinct_front old (i ∷ added) apart) h.0 derived))

pub propagation_derives : PropagationDerives
propagation_derives clauses a old new literals apart steps derived =
    subst (AreDerived clauses a) (sym steps.grows)
    (derive_all clauses a old steps.added literals (subst (λ xs. are_distinct xs ≡ true) steps.grows apart) steps.implied derived)

pub conflict_closes : FalseClauseCloses
conflict_closes clauses a items id literals apart wrong derived =
    let c : List ℤ = get_or clauses id [] in
    record {
      clause = c;
      there = Contains-get_or clauses id [] wrong.0;
      plain = false_is_plain items c apart (literals id [] wrong.0) wrong.1;
      negated = λ l there. derived (neg_ℤ l) (true_negated items l ∙ all_of (is_false items) c l wrong.1 there);
    }

-- a clause of the list is at rest
clause_rests : (clauses : List (List ℤ)) (items : List Item) (c : List ℤ) → AreAtRest clauses items → Contains clauses c → IsAtRest items c
clause_rests clauses items c rest there =
    subst (IsAtRest items) (sym (get_or_default clauses there.0 c [] there.1) ∙ there.2) (rest there.0 there.1)

pub rest_is_closed : RestIsClosed
rest_is_closed clauses a items rest start = record {
  start = start;
  units = λ c l there plain has others. unit_true c l (clause_rests clauses items c rest there) has
      (all_weaker (λ m. int_eq m l || is_true items (neg_ℤ m)) (is_or_false items l) (λ m e. sym (ap (λ b. int_eq m l || b) (true_negated items m)) ∙ e) c others);
}
  where
    unit_true : (c : List ℤ) (l : ℤ) → IsAtRest items c → has_literal c l ≡ true → list_all (is_or_false items l) c ≡ true → is_true items l ≡ true
    unit_true c l at_rest has others = go (item_of items (nat_abs l)) refl
      where
        each : is_false items l ≡ true → (m : ℤ) → has_literal c m ≡ true → is_false items m ≡ true
        each wrong m there =
            elim (or_cases (int_eq m l) (is_false items m) (all_of (is_or_false items l) c m others there)) [
              | inl same ↦ ap (is_false items) (int_eq-true m l same) ∙ wrong
              | inr off ↦ off
            ]

        go : (o : Option Item) → item_of items (nat_abs l) ≡ o → is_true items l ≡ true
        go None free = absurd (at_rest.not_unit l (record { free = free; among = has; rest = others }))
        go (Some i) some =
            elim (cases_Bool (int_eq l i.lit)) [
              | inl same ↦ true_from_item items l i some (int_eq-true l i.lit same)
              | inr other ↦
                  let wrong = false_from_other items l i some (λ e. both_ways (int_eq l i.lit) other (test_from_same l i.lit (sym e))) in
                  absurd (both_ways (is_false_clause items c) at_rest.not_false (all_from_members (is_false items) c (each wrong)))
            ]

pub rest_stays_open : RestStaysOpen
rest_stays_open clauses a items rest start closes =
    let c = closes.clause in
    let at_rest = clause_rests clauses items c rest closes.there in
    both_ways (is_false_clause items c) at_rest.not_false
    (all_from_members (is_false items) c (λ l there. sym (true_negated items l) ∙ closes.negated l there (is_true items) (rest_is_closed clauses a items rest start)))
