use Rattle.std.proofs.Common.{◌≡◌, ◌≤◌, ℕ, false, List, get_or, take, ℤ, pos, nat_abs, sym, subst, ◌∙◌, inl, inr, arith, rules}
use mir.Syntax.{w32}
use mir.Val.{SFits}
use Rattle.std.specs.List.{list_any}
use Rattle.sat_terms.proofs.Machine.{nat_abs-bits}
use Rattle.chrono_trail.specs.Trails.{TrailView}
use Rattle.propagation.specs.Walking.{IsUnseenFor, is_of_either}
use Rattle.propagation.proofs.Learning.{eased_unseen, unseen_from}
use Rattle.propagation.proofs.unseeing.unsee.Goals as goal

pub returns-then-asks-clause-unseen : goal.returns-then-asks-clause-unseen
returns-then-asks-clause-unseen c =
    let old : TrailView = c.args.trail.now in
    let lemma_ : List ℤ = c.args.lemma.now in
    let one : ℤ = get_or lemma_ 0 (pos 0) in
    let other : ℤ = get_or lemma_ 1 (pos 0) in
    let one_fits : SFits w32 one = search rules in
    let other_fits : SFits w32 other = search rules in
    let a : ℕ = c.unsigned_abs.result in
    let b : ℕ = c.unsigned_abs-then-asks.result in
    let is_a : nat_abs one ≡ a = sym (c.unsigned_abs.ensures.value ∙ nat_abs-bits one one_fits) in
    let is_b : nat_abs other ≡ b = sym (c.unsigned_abs-then-asks.ensures.value ∙ nat_abs-bits other other_fits) in
    let place : ℕ = c.before_either-place.result in
    let none : list_any (is_of_either a b) (take place old.items) ≡ false = subst (λ xs. list_any (is_of_either a b) (take place xs) ≡ false) c.items.ensures.items c.before_either-place.ensures.none in
    let fewer : c.min.result ≤ place = let least = c.min.ensures in omega arith in
    subst (λ t. IsUnseenFor t lemma_) (sym c.see-then-asks.ensures)
    (unseen_from (record old { seen = c.min.result }) lemma_ c.if-lemma-lt2.false
    (eased_unseen old place c.min.result a b one other (inl is_a) none fewer)
    (eased_unseen old place c.min.result a b other one (inr is_b) none fewer))
