-- The negations of a clause's literals on a trail, and what they come to.
use Rattle.std.proofs.Common.{◌≡◌, ℕ, suc, ◌+◌, ◌<◌, ◌≤◌, ◌^◌, Bool, true, false, ◌||◌, ℤ, pos, neg_ℤ, nat_abs, nat_eq, nat_lt, List, [], ◌∷◌, ◌++◌, length, get_or, map, take, zero, Option, Some, None, refl, sym, ap, ap₂, subst, ◌∙◌, inl, inr, arith, All, ◌⊎◌, ◌&&◌, subst₂, lt-ltb}
use Rattle.std.specs.List.{list_all}
use Rattle.std.specs.Ordering.{int_eq}
use Rattle.std.proofs.lemmas.Bool.{both_ways, or_cases, or_from, or_parts, or_left, or_right, and_from, and_parts, cases_Bool, false_from_ne_true, eq-eqb, eqb-true, ltb-true, not_from_false}
use Rattle.std.proofs.lemmas.List.{take_more}
use Rattle.std.proofs.lemmas.List.Folds.{list_any-append}
use Rattle.std.proofs.lemmas.List.Elements.{All-head, All-tail, All-weaker}
use Rattle.sat_terms.specs.Literals.{IsLiteral, IsLiteralOf, lit_true}
use Rattle.sat_terms.specs.Truth.{sat, sat_clause, holds}
use Rattle.sat_terms.specs.Cubes.{has_literal, has_pair}
use Rattle.sat_terms.proofs.CubeLemmas.{nat_abs-neg, neg-neg, neg-from_other, neg-not_same, int_eq-same, int_eq-true}
use Rattle.sat_terms.proofs.Disjoint.{lit_true-neg}
use Rattle.search_region.specs.Steady.{Follows}
use Rattle.search_region.proofs.Literals.{test_from_same}
use Rattle.search_region.proofs.Model.{pair_true}
use Rattle.unit_closure.proofs.Members.{any_of, some_of}
use Rattle.clause_arena.specs.Clauses.{Clauses, HasDistinctVariables, has_room}
use Rattle.clause_arena.specs.Once.{once}
use Rattle.clause_arena.proofs.Meaning.{once_keeps_pairs, once_keeps_truth}
use Rattle.clause_arena.proofs.Literals.{has_literal-once, once-distinct}
use Rattle.chrono_trail.specs.declared.item.Item.{Item}
use Rattle.chrono_trail.specs.Items.{item_of, value_in}
use Rattle.chrono_trail.specs.Clauses.{is_true}
use Rattle.chrono_trail.specs.Items.{are_distinct}
use Rattle.chrono_trail.specs.Trails.{TrailView}
use Rattle.unit_closure.specs.Closure.{Closes}
use Rattle.unit_closure.proofs.Follows.{closes_where_none_is_left}
use Rattle.propagation.specs.Derived.{AreDerived}
use Rattle.propagation.specs.Settled.{PropagatorView, IsSettled}
use Rattle.propagation.specs.Steps.{Propagates, IsFalseOf, AreAtRest}
use Rattle.propagation.proofs.Derived.{propagation_derives, conflict_closes, rest_stays_open}
use Rattle.live_engine.specs.declared.search.Search.{Search}
use Rattle.live_engine.specs.Searching.{IsGround, search_formula}
use Rattle.chrono_trail.specs.Reasons.{AreReasoned}
use Rattle.live_engine.proofs.Grounds.{ground_with}
use Rattle.live_engine.specs.Imports.{IsRefuted, Imports, assumed_negation}

-- ---- what the trail of negations says of a literal

none_there : (c : List ℤ) (l : ℤ) → item_of (map assumed_negation c) (nat_abs l) ≡ None → has_literal c l ≡ false
none_there [] l h = refl
none_there (m ∷ c) l h =
    elim (cases_Bool (nat_eq (nat_abs l) (nat_abs (neg_ℤ m)))) [
      | inl same ↦ let some : Some (assumed_negation m) ≡ None = rw same at h in cc
      | inr other ↦
          let rest : item_of (map assumed_negation c) (nat_abs l) ≡ None = rw other at h in
          or_from (int_eq l m) (has_literal c l)
          (false_from_ne_true (int_eq l m) (λ is. both_ways (nat_eq (nat_abs l) (nat_abs (neg_ℤ m))) other (eq-eqb (nat_abs l) (nat_abs (neg_ℤ m)) (ap nat_abs (int_eq-true l m is) ∙ sym (nat_abs-neg m)))))
          (none_there c l rest)
    ]

-- the literal of its item is the negation of one of the clause's
some_there : (c : List ℤ) (l : ℤ) (i : Item) → item_of (map assumed_negation c) (nat_abs l) ≡ Some i → (has_literal c (neg_ℤ i.lit) ≡ true) × (nat_abs i.lit ≡ nat_abs l)
some_there [] l i h = cc
some_there (m ∷ c) l i h =
    elim (cases_Bool (nat_eq (nat_abs l) (nat_abs (neg_ℤ m)))) [
      | inl same ↦
          let some : Some (assumed_negation m) ≡ Some i = rw same at h in
          let is : assumed_negation m ≡ i = cc in
          let lit : neg_ℤ m ≡ i.lit = ap (λ (x : Item). x.lit) is in (
            or_left (int_eq (neg_ℤ i.lit) m) (has_literal c (neg_ℤ i.lit)) (test_from_same (neg_ℤ i.lit) m (ap neg_ℤ (sym lit) ∙ neg-neg m)),
            ap nat_abs (sym lit) ∙ sym (eqb-true (nat_abs l) (nat_abs (neg_ℤ m)) same),
          )
      | inr other ↦
          let rest : item_of (map assumed_negation c) (nat_abs l) ≡ Some i = rw other at h in
          let more = some_there c l i rest in
          (or_right (int_eq (neg_ℤ i.lit) m) (has_literal c (neg_ℤ i.lit)) more.0, more.1)
    ]

none_of_value : (l : ℤ) (o : Option Item) → value_in l o ≡ None → o ≡ None
none_of_value l None h = refl
none_of_value l (Some i) h = cc

pub free_value : (c : List ℤ) (l : ℤ) → value_in l (item_of (map assumed_negation c) (nat_abs l)) ≡ None →
    (item_of (map assumed_negation c) (nat_abs l) ≡ None) × (has_literal c l ≡ false) × (has_literal c (neg_ℤ l) ≡ false)
free_value c l h =
    let free = none_of_value l (item_of (map assumed_negation c) (nat_abs l)) h in
    (free, none_there c l free, none_there c (neg_ℤ l) (ap (item_of (map assumed_negation c)) (nat_abs-neg l) ∙ free))

pub true_value : (c : List ℤ) (l : ℤ) → value_in l (item_of (map assumed_negation c) (nat_abs l)) ≡ Some true → has_literal c (neg_ℤ l) ≡ true
true_value c l h = by_item (item_of (map assumed_negation c) (nat_abs l)) refl h
  where
    by_item : (o : Option Item) → item_of (map assumed_negation c) (nat_abs l) ≡ o → value_in l o ≡ Some true → has_literal c (neg_ℤ l) ≡ true
    by_item None is v = cc
    by_item (Some i) is v =
        let same : int_eq i.lit l ≡ true = cc in
        subst (λ m. has_literal c (neg_ℤ m) ≡ true) (int_eq-true i.lit l same) (some_there c l i is).0

pub false_value : (c : List ℤ) (l : ℤ) → value_in l (item_of (map assumed_negation c) (nat_abs l)) ≡ Some false → has_literal c l ≡ true
false_value c l h = by_item (item_of (map assumed_negation c) (nat_abs l)) refl h
  where
    by_item : (o : Option Item) → item_of (map assumed_negation c) (nat_abs l) ≡ o → value_in l o ≡ Some false → has_literal c l ≡ true
    by_item None is v = cc
    by_item (Some i) is v =
        let other : int_eq i.lit l ≡ false = cc in
        let there = some_there c l i is in
        subst (λ m. has_literal c m ≡ true)
        (neg-from_other i.lit l there.1 (λ same. both_ways (int_eq i.lit l) other (test_from_same i.lit l same))) there.0

-- ---- pairs

has_last : (c : List ℤ) (l m : ℤ) → has_literal (c ++ l ∷ []) m ≡ true → (has_literal c m ≡ true) ⊎ (m ≡ l)
has_last c l m h = elim (or_cases (has_literal c m) (int_eq m l || false) (sym (list_any-append (int_eq m) c (l ∷ [])) ∙ h)) [
  | inl before ↦ inl before
  | inr last ↦ elim (or_cases (int_eq m l) false last) [
    | inl same ↦ inr (int_eq-true m l same)
    | inr never ↦ absurd (both_ways false refl never)
  ]
]

pair_push : (c : List ℤ) (l : ℤ) → 0 < nat_abs l → has_pair c ≡ false → has_literal c (neg_ℤ l) ≡ false → has_pair (c ++ l ∷ []) ≡ false
pair_push c l named plain alone = false_from_ne_true (has_pair (c ++ l ∷ [])) (λ pair.
    (let some = some_of (λ m. has_literal (c ++ l ∷ []) (neg_ℤ m)) (c ++ l ∷ []) pair in
    elim (has_last c l some.literal some.there) [
      | inl here ↦ elim (has_last c l (neg_ℤ some.literal) some.passes) [
        | inl both ↦ both_ways (has_pair c) plain (any_of (λ m. has_literal c (neg_ℤ m)) c some.literal here both)
        | inr last ↦ both_ways (has_literal c (neg_ℤ l)) alone (subst (λ m. has_literal c m ≡ true) (sym (neg-neg some.literal) ∙ ap neg_ℤ last) here)
      ]
      | inr is ↦ elim (has_last c l (neg_ℤ some.literal) some.passes) [
        | inl before ↦ both_ways (has_literal c (neg_ℤ l)) alone (subst (λ m. has_literal c (neg_ℤ m) ≡ true) is before)
        | inr last ↦ neg-not_same l named (sym (ap neg_ℤ is) ∙ last)
      ]
    ]))

-- a literal among the first, whose negation is the next one
pub pair_found : (lits : List ℤ) (i : ℕ) → i < length lits → has_literal (take i lits) (neg_ℤ (get_or lits i (pos 0))) ≡ true → has_pair lits ≡ true
pair_found lits i inside h =
    any_of (λ m. has_literal lits (neg_ℤ m)) lits (get_or lits i (pos 0)) (at_place lits i inside) (in_front i lits (neg_ℤ (get_or lits i (pos 0))) h)
  where
    at_place : (c : List ℤ) (k : ℕ) → k < length c → has_literal c (get_or c k (pos 0)) ≡ true
    at_place [] k less = absurd (omega arith)
    at_place (m ∷ c) zero less = or_left (int_eq m m) (has_literal c m) (int_eq-same m)
    at_place (m ∷ c) (suc k) less = or_right (int_eq (get_or c k (pos 0)) m) (has_literal c (get_or c k (pos 0))) (at_place c k (omega arith))

    in_front : (k : ℕ) (c : List ℤ) (l : ℤ) → has_literal (take k c) l ≡ true → has_literal c l ≡ true
    in_front zero c l t = absurd (both_ways false refl t)
    in_front (suc k) [] l t = absurd (both_ways false refl t)
    in_front (suc k) (m ∷ c) l t = elim (or_cases (int_eq l m) (has_literal (take k c) l) t) [
      | inl here ↦ or_left (int_eq l m) (has_literal c l) here
      | inr later ↦ or_right (int_eq l m) (has_literal c l) (in_front k c l later)
    ]

pub no_pair_yet : (lits : List ℤ) (i : ℕ) → i < length lits → 0 < nat_abs (get_or lits i (pos 0)) → has_pair (take i lits) ≡ false → has_literal (take i lits) (neg_ℤ (get_or lits i (pos 0))) ≡ false → has_pair (take (i + 1) lits) ≡ false
no_pair_yet lits i inside named plain alone = ap has_pair (take_more lits i (pos 0) inside) ∙ pair_push (take i lits) (get_or lits i (pos 0)) named plain alone

-- a literal that stands in the front together with its negation would be a pair of it
pub not_negated : (c : List ℤ) (l : ℤ) → has_pair c ≡ false → has_literal c l ≡ true → has_literal c (neg_ℤ l) ≡ false
not_negated c l plain there = false_from_ne_true (has_literal c (neg_ℤ l)) (λ both. both_ways (has_pair c) plain (any_of (λ m. has_literal c (neg_ℤ m)) c l there both))

-- ---- the trail as a set

neg_swap : (l m : ℤ) → int_eq l (neg_ℤ m) ≡ int_eq (neg_ℤ l) m
neg_swap l m = elim (cases_Bool (int_eq (neg_ℤ l) m)) [
  | inl same ↦ test_from_same l (neg_ℤ m) (sym (neg-neg l) ∙ ap neg_ℤ (int_eq-true (neg_ℤ l) m same)) ∙ sym same
  | inr other ↦ false_from_ne_true (int_eq l (neg_ℤ m)) (λ same. both_ways (int_eq (neg_ℤ l) m) other (test_from_same (neg_ℤ l) m (ap neg_ℤ (int_eq-true l (neg_ℤ m) same) ∙ neg-neg m))) ∙ sym other
]

pub negations_there : (c : List ℤ) (l : ℤ) → has_literal (map neg_ℤ c) l ≡ has_literal c (neg_ℤ l)
negations_there [] l = refl
negations_there (m ∷ c) l = ap₂ (λ a b. a || b) (neg_swap l m) (negations_there c l)

pub negations_true : (c : List ℤ) (l : ℤ) → is_true (map assumed_negation c) l ≡ has_literal (map neg_ℤ c) l
negations_true [] l = refl
negations_true (m ∷ c) l = ap (λ b. int_eq l (neg_ℤ m) || b) (negations_true c l)

pub once_true : (c : List ℤ) (l : ℤ) → is_true (map assumed_negation (once c)) l ≡ has_literal (map neg_ℤ c) l
once_true c l = negations_true (once c) l ∙ negations_there (once c) l ∙ has_literal-once c (neg_ℤ l) ∙ sym (negations_there c l)

-- ---- what propagation from it comes to

module _ (n : ℕ) (clauses : List (List ℤ)) (c : List ℤ) (few : n < 2 ^ 31) (named : All (All (IsLiteralOf n)) clauses) (before : List Item) (is : before ≡ map assumed_negation (once c)) (after : List Item) (distinct : are_distinct after ≡ true) (steps : Propagates clauses before after) where
  literals : All (All IsLiteral) clauses
  literals = All-weaker (All (IsLiteralOf n)) (All IsLiteral)
      (λ d h. All-weaker (IsLiteralOf n) IsLiteral (λ l k. (k.0, (let low = k.1 in omega arith))) d h) clauses named

  start_true : (l : ℤ) → is_true before l ≡ has_literal (map neg_ℤ c) l
  start_true l = ap (λ its. is_true its l) is ∙ once_true c l

  derived : AreDerived clauses (map neg_ℤ c) after
  derived = propagation_derives clauses (map neg_ℤ c) before after literals distinct steps
      (λ l on s closed. closed.start l (sym (start_true l) ∙ on))

  pub conflict_refutes : (id : ℕ) → IsFalseOf clauses after id → Closes clauses (map neg_ℤ c)
  conflict_refutes id wrong = conflict_closes clauses (map neg_ℤ c) after id literals distinct wrong derived

  pub rest_refutes_not : AreAtRest clauses after → Closes clauses (map neg_ℤ c) → ⊥
  rest_refutes_not rest = rest_stays_open clauses (map neg_ℤ c) after rest
      (λ l there. ap (λ its. is_true its l) steps.grows ∙ list_any-append (λ i. int_eq l i.lit) before steps.added
      ∙ or_left (is_true before l) (is_true steps.added l) (start_true l ∙ there))

-- ---- a refuted clause follows

all_false : (t : ℕ → Bool) (c : List ℤ) → list_all (λ l. nat_lt 0 (nat_abs l)) c ≡ true → sat_clause t c ≡ false → holds t (map neg_ℤ c) ≡ true
all_false t [] named h = refl
all_false t (l ∷ c) named h =
    let (first, rest) = and_parts (nat_lt 0 (nat_abs l)) (list_all (λ m. nat_lt 0 (nat_abs m)) c) named in
    let (wrong, others) = or_parts (lit_true t l) (sat_clause t c) h in
    and_from (lit_true t (neg_ℤ l)) (holds t (map neg_ℤ c)) (lit_true-neg t l (ltb-true 0 (nat_abs l) first) ∙ not_from_false (lit_true t l) wrong) (all_false t c rest others)

all_met : (f clauses : List (List ℤ)) (t : ℕ → Bool) → All (Follows f) clauses → sat f t ≡ true → sat clauses t ≡ true
all_met f [] t follow model = refl
all_met f (c ∷ clauses) t follow model =
    and_from (sat_clause t c) (sat clauses t) (All-head (Follows f) c clauses follow t model) (all_met f clauses t (All-tail (Follows f) c clauses follow) model)

pub refuted_follows : (f clauses : List (List ℤ)) (c : List ℤ) → All (Follows f) clauses → list_all (λ l. nat_lt 0 (nat_abs l)) c ≡ true → IsRefuted clauses c → Follows f c
refuted_follows f clauses c follow named (inl pair) t model = pair_true f (λ v. true) t c named pair
refuted_follows f clauses c follow named (inr closes) t model =
    elim (cases_Bool (sat_clause t c)) [
      | inl met ↦ met
      | inr wrong ↦ absurd (closes_where_none_is_left clauses (map neg_ℤ c) closes t (all_met f clauses t follow model) (all_false t c named wrong))
    ]

-- ---- the search without a trail

pub ground_cleared : (old : Search) (propagator : PropagatorView) (trail : TrailView) → IsGround old → propagator.variables ≡ old.propagator.variables →
    propagator.known ≡ old.propagator.known → propagator.places ≡ old.propagator.places →
    IsSettled old.arena.clauses propagator trail → trail.items ≡ [] → trail.level ≡ 0 → trail.variables ≡ old.trail.variables →
    IsGround (record old { propagator = propagator; trail = trail })
ground_cleared old propagator trail h own known places settled items level variables =
    ground_with old h old.arena propagator trail old.order old.shrinker old.prefix old.base old.counts old.leaves old.found
    (record {
      base = h.based;
      formula = refl;
      named = h.named;
      follow = h.follow;
      known = known ∙ h.known;
      places = subst (λ k. length old.arena.clauses ≤ k) (sym places) h.places;
      settled = settled;
      reasoned = subst (AreReasoned old.arena.clauses) (sym items) tt;
      variables = variables;
      stands = record {
        small = (let same = variables ∙ h.trail in let few = h.small in omega arith);
        within = rw items refl;
        distinct = rw items refl;
        stands = rw items refl;
        current = rw (items, level) refl;
      };
      own = own;
    })
    refl refl h.shrinker h.prefix refl h.capped h.cubes

-- ---- the clause as it is kept

at_place : (c : List ℤ) (k : ℕ) (d : ℤ) → k < length c → has_literal c (get_or c k d) ≡ true
at_place [] k d less = absurd (omega arith)
at_place (m ∷ c) zero d less = or_left (int_eq m m) (has_literal c m) (int_eq-same m)
at_place (m ∷ c) (suc k) d less = or_right (int_eq (get_or c k d) m) (has_literal c (get_or c k d)) (at_place c k d (omega arith))

pub once_distinct : (c : List ℤ) → has_pair c ≡ false → HasDistinctVariables (once c)
once_distinct c plain i j d below inside same =
    let l = get_or (once c) i d in
    let m = get_or (once c) j d in
    let first : has_literal (once c) l ≡ true = at_place (once c) i d (omega arith) in
    let second : has_literal (once c) m ≡ true = at_place (once c) j d inside in
    let other : neg_ℤ l ≡ m = neg-from_other l m same (once-distinct c i j d below inside) in
    both_ways (has_pair (once c)) (once_keeps_pairs c ∙ plain)
    (any_of (λ x. has_literal (once c) (neg_ℤ x)) (once c) l first (subst (λ x. has_literal (once c) x ≡ true) (sym other) second))

pub once_named : (n : ℕ) (c : List ℤ) → All (IsLiteralOf n) c → All (IsLiteralOf n) (once c)
once_named n c named = λ k d inside. of_there c named (get_or (once c) k d) (sym (has_literal-once c (get_or (once c) k d)) ∙ at_place (once c) k d inside)
  where
    of_there : (e : List ℤ) → All (IsLiteralOf n) e → (l : ℤ) → has_literal e l ≡ true → IsLiteralOf n l
    of_there [] all l there = absurd (both_ways false refl there)
    of_there (m ∷ e) all l there = elim (or_cases (int_eq l m) (has_literal e l) there) [
      | inl here ↦ subst (IsLiteralOf n) (sym (int_eq-true l m here)) (All-head (IsLiteralOf n) m e all)
      | inr later ↦ of_there e (All-tail (IsLiteralOf n) m e all) l later
    ]

pub tests_named : (n : ℕ) (c : List ℤ) → All (IsLiteralOf n) c → list_all (λ l. nat_lt 0 (nat_abs l)) c ≡ true
tests_named n [] named = refl
tests_named n (l ∷ c) named =
    let here = All-head (IsLiteralOf n) l c named in
    and_from (nat_lt 0 (nat_abs l)) (list_all (λ m. nat_lt 0 (nat_abs m)) c) (lt-ltb 0 (nat_abs l) here.0) (tests_named n c (All-tail (IsLiteralOf n) l c named))

pub once_follows : (f : List (List ℤ)) (c : List ℤ) → Follows f c → Follows f (once c)
once_follows f c follows t model = once_true_too (once_keeps_truth (c ∷ []) t)
  where
    just : (b : Bool) → (b && true) ≡ b
    just true = refl
    just false = refl

    once_true_too : sat (map once (c ∷ [])) t ≡ sat (c ∷ []) t → sat_clause t (once c) ≡ true
    once_true_too same = sym (just (sat_clause t (once c))) ∙ same ∙ just (sat_clause t c) ∙ follows t model

-- ---- what an import comes to

module _ (old : Search) (ground : IsGround old) (c : List ℤ) (named : All (IsLiteralOf old.variables) c) where
  pub refuted_clause : IsRefuted old.arena.clauses c → Follows (search_formula old) c
  refuted_clause refuted = refuted_follows (search_formula old) old.arena.clauses c ground.follow (tests_named old.variables c named) refuted

  module _ (tried : Search) (rest : tried ≡ record old { propagator = tried.propagator; trail = tried.trail }) where
    same_arena : tried.arena ≡ old.arena
    same_arena = ap (λ (s : Search). s.arena) rest

    rest_with : tried ≡ record old { arena = tried.arena; propagator = tried.propagator; trail = tried.trail }
    rest_with = rest ∙ ap (λ a. record old { arena = a; propagator = tried.propagator; trail = tried.trail }) (sym same_arena)

    pub imports_pair : has_pair c ≡ true → Imports old tried c true
    imports_pair pair = record {
      tells = inl pair;
      follows = λ e. refuted_clause (inl pair);
      clauses = ap (λ (a : Clauses). a.clauses) same_arena ∙ rw pair refl;
      base = ap (λ (a : Clauses). a.base) same_arena;
      rest = rest_with;
    }

    module _ (plain : has_pair c ≡ false) (closes : Closes old.arena.clauses (map neg_ℤ c)) (lemma : List ℤ) (is : lemma ≡ once c) where
      pub lemma_named : All (IsLiteralOf tried.variables) lemma
      lemma_named = rw (is, rest) (once_named old.variables c named)

      pub lemma_distinct : HasDistinctVariables lemma
      lemma_distinct = rw is (once_distinct c plain)

      pub lemma_follows : Follows (search_formula tried) lemma
      lemma_follows = subst₂ (λ s x. Follows (search_formula s) x) (sym rest) (sym is) (once_follows (search_formula old) c (refuted_clause (inr closes)))

      pub imports_full : has_room tried.arena (length lemma) ≡ false → Imports old tried c true
      imports_full full = record {
        tells = inr closes;
        follows = λ e. refuted_clause (inr closes);
        clauses = ap (λ (a : Clauses). a.clauses) same_arena ∙ rw (plain, room) refl;
        base = ap (λ (a : Clauses). a.base) same_arena;
        rest = rest_with;
      }
        where
          room : has_room old.arena (length (once c)) ≡ false
          room = ap₂ (λ a x. has_room a (length x)) (sym same_arena) (sym is) ∙ full

      pub imports_kept : has_room tried.arena (length lemma) ≡ true → (new : Search) → new.arena.clauses ≡ tried.arena.clauses ++ lemma ∷ [] → new.arena.base ≡ tried.arena.base →
          new ≡ record tried { arena = new.arena; propagator = new.propagator; trail = new.trail } → Imports old new c true
      imports_kept free new more base more_rest = record {
        tells = inr closes;
        follows = λ e. refuted_clause (inr closes);
        clauses = more ∙ ap₂ (λ (a : Clauses) x. a.clauses ++ x ∷ []) same_arena is ∙ rw (plain, room) refl;
        base = base ∙ ap (λ (a : Clauses). a.base) same_arena;
        rest = more_rest ∙ ap (λ (s : Search). record s { arena = new.arena; propagator = new.propagator; trail = new.trail }) rest;
      }
        where
          room : has_room old.arena (length (once c)) ≡ true
          room = ap₂ (λ a x. has_room a (length x)) (sym same_arena) (sym is) ∙ free
