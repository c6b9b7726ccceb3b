use Rattle.std.proofs.Common.{◌≡◌, ◌<◌, ◌^◌, ◌+◌, ℕ, List, true, false, [], ◌∷◌, ◌++◌, ◌∙◌, ℤ, pos, neg_ℤ, nat_abs, get_or, take, length, map, Some, sym, ap, subst, arith, vec_capacity, Vec, Global, length-append}
use mir.Syntax.{w32}
use mir.Val.{to_z, of_z}
use Rattle.std.proofs.lemmas.Bool.{both_ways}
use Rattle.std.proofs.lemmas.Int.{to_z-of_z}
use Rattle.std.proofs.lemmas.List.{map-append}
use Rattle.sat_terms.specs.Cubes.{has_literal, has_pair}
use Rattle.chrono_trail.specs.declared.item.Kind.TheVariants.{Assumed}
use Rattle.chrono_trail.specs.Items.{item_of, value_in}
use Rattle.chrono_trail.specs.declared.item.Item.{Item}
use Rattle.chrono_trail.specs.Trails.{TrailView, IsTrail}
use Rattle.clause_arena.specs.Once.{once}
use Rattle.clause_arena.proofs.Literals.{has_literal-once, once_more_old, once_more_new}
use Rattle.live_engine.specs.Imports.{assumed_negation}
use Rattle.live_engine.proofs.Literals.{literal_fits, negated}
use Rattle.live_engine.proofs.Negated.{free_value, true_value, false_value, pair_found, no_pair_yet, not_negated}
use Rattle.live_engine.proofs.importing.assume_negations.Goals as goal
use Rattle.live_engine.proofs.importing.assume_negations.Goals.{in-Some-false, in-None}

pair_is : (c : goal.In-Some-true) → has_pair c.args.lits.now ≡ true
pair_is c =
    let lits = c.args.lits.now in
    let i : ℕ = c.loop-lit.lit-index in
    let x : ℤ = get_or lits i (pos 0) in
    let inv = c.loop-lit.invariant in
    let inside : i < length lits = c.loop-lit-test.true in
    let named = c.requires.named i (pos 0) inside in
    let low = named.1 in
    let few = c.requires.small in
    let small : nat_abs x < 2 ^ 31 = omega arith in
    let fit : to_z w32 (of_z w32 x) ≡ x = to_z-of_z w32 x (literal_fits x small) in
    let look : c.value.result ≡ value_in x (item_of (map assumed_negation (once (take i lits))) (nat_abs x)) =
    c.value.ensures ∙ ap (λ (z : ℤ). value_in z (item_of c.loop-lit.trail.items (nat_abs z))) fit
    ∙ ap (λ (its : List Item). value_in x (item_of its (nat_abs x))) inv.items in
    let there = true_value (once (take i lits)) x (sym look ∙ c.in-Some-true.is ∙ ap (λ b. Some b) c.in-Some-true.field-0-test) in
    pair_found lits i inside (sym (has_literal-once (take i lits) (neg_ℤ x)) ∙ there)

pub returns-in-Some-true-clause-pair : goal.returns-in-Some-true-clause-pair
returns-in-Some-true-clause-pair c = sym (pair_is c)

pub returns-in-Some-true-clause-lemma : goal.returns-in-Some-true-clause-lemma
returns-in-Some-true-clause-lemma c = λ plain. absurd (both_ways (has_pair c.args.lits.now) plain (pair_is c))

pub returns-in-Some-true-clause-items : goal.returns-in-Some-true-clause-items
returns-in-Some-true-clause-items c = λ plain. absurd (both_ways (has_pair c.args.lits.now) plain (pair_is c))

pub loop-lit-preserved : goal.loop-lit-preserved
loop-lit-preserved c =
    let lits = c.args.lits.now in
    let i : ℕ = c.loop-lit.lit-index in
    let x : ℤ = get_or lits i (pos 0) in
    let inv = c.loop-lit.invariant in
    let inside : i < length lits = c.loop-lit-test.true in
    let named = c.requires.named i (pos 0) inside in
    let low = named.1 in
    let few = c.requires.small in
    let small : nat_abs x < 2 ^ 31 = omega arith in
    let fit : to_z w32 (of_z w32 x) ≡ x = to_z-of_z w32 x (literal_fits x small) in
    let look : c.value.result ≡ value_in x (item_of (map assumed_negation (once (take i lits))) (nat_abs x)) =
    c.value.ensures ∙ ap (λ (z : ℤ). value_in z (item_of c.loop-lit.trail.items (nat_abs z))) fit
    ∙ ap (λ (its : List Item). value_in x (item_of its (nat_abs x))) inv.items in
    let count = inv.few in
    elim c.match-value.branch [
      | in-Some-false w ↦
          let there : has_literal (take i lits) x ≡ true = sym (has_literal-once (take i lits) x) ∙ false_value (once (take i lits)) x (sym look ∙ w.in-Some-false.is ∙ ap (λ b. Some b) w.in-Some-false.field-0-test) in
          let same : once (take (i + 1) lits) ≡ once (take i lits) = once_more_old lits i inside there in
          let long = ap (λ (v : Vec ℤ Global). length v.items) w.lemma-is in
          record {
            plain = no_pair_yet lits i inside named.0 inv.plain (not_negated (take i lits) x inv.plain there);
            lemma = ap (λ (v : Vec ℤ Global). v.items) w.lemma-is ∙ inv.lemma ∙ sym same;
            items = ap (λ (t : TrailView). t.items) w.trail-is ∙ inv.items ∙ ap (map assumed_negation) (sym same);
            room = ap vec_capacity w.lemma-is ∙ inv.room;
            few = omega arith;
            level = ap (λ (t : TrailView). t.level) w.trail-is ∙ inv.level;
            variables = ap (λ (t : TrailView). t.variables) w.trail-is ∙ inv.variables;
            seen = ap (λ (t : TrailView). t.seen) w.trail-is ∙ inv.seen;
            trail = subst (λ (t : TrailView). IsTrail t.variables t.items t.level) (sym w.trail-is) inv.trail;
          }
      | in-None w ↦
          let free = free_value (once (take i lits)) x (sym look ∙ w.in-None.is) in
          let absent : has_literal (take i lits) x ≡ false = sym (has_literal-once (take i lits) x) ∙ free.1 in
          let alone : has_literal (take i lits) (neg_ℤ x) ≡ false = sym (has_literal-once (take i lits) (neg_ℤ x)) ∙ free.2 in
          let more : once (take (i + 1) lits) ≡ once (take i lits) ++ x ∷ [] = once_more_new lits i inside absent in
          let grown = w.push_reserved.ensures.items ∙ ap (λ (z : ℤ). c.loop-lit.lemma.items ++ z ∷ []) fit in
          let long = ap (λ (v : Vec ℤ Global). length v.items) w.lemma-is ∙ ap length grown ∙ length-append c.loop-lit.lemma.items (x ∷ []) in
          record {
            plain = no_pair_yet lits i inside named.0 inv.plain alone;
            lemma = ap (λ (v : Vec ℤ Global). v.items) w.lemma-is ∙ grown ∙ ap (λ d. d ++ x ∷ []) inv.lemma ∙ sym more;
            items = ap (λ (t : TrailView). t.items) w.trail-is ∙ w.assign.ensures.items
                ∙ ap (λ (z : ℤ). c.loop-lit.trail.items ++ record { lit = z; level = 0; kind = Assumed } ∷ []) (negated x small)
                ∙ ap (λ (its : List Item). its ++ assumed_negation x ∷ []) inv.items
                ∙ sym (map-append assumed_negation (once (take i lits)) (x ∷ [])) ∙ ap (map assumed_negation) (sym more);
            room = ap vec_capacity w.lemma-is ∙ w.push_reserved.ensures.capacity ∙ inv.room;
            few = omega arith;
            level = ap (λ (t : TrailView). t.level) w.trail-is ∙ w.assign.ensures.level ∙ inv.level;
            variables = ap (λ (t : TrailView). t.variables) w.trail-is ∙ w.assign.ensures.variables ∙ inv.variables;
            seen = ap (λ (t : TrailView). t.seen) w.trail-is ∙ w.assign.ensures.seen ∙ inv.seen;
            trail = subst (λ (t : TrailView). IsTrail t.variables t.items t.level) (sym w.trail-is) w.assign.ensures.trail;
          }
    ]
