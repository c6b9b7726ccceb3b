use Rattle.std.proofs.Common.{◌≡◌, ◌+◌, ◌≤◌, ℕ, ℤ, pos, neg_ℤ, ◌-ℤ◌, [], ◌∷◌, ◌++◌, Some, ap, subst, refl, ◌∙◌, arith}
use mir.Syntax.{w32}
use mir.Val.{to_z, of_z}
use Rattle.std.proofs.lemmas.Int.{ints}
use Rattle.chrono_trail.specs.declared.item.Kind.TheVariants.{Decided}
use Rattle.plain_search.specs.Walks.{IsNextVariable, HasReached}
use Rattle.plain_search.proofs.Moves.{decided_runs}
use Rattle.plain_search.proofs.search.Search.decide.Goals as goal

pub returns-in-Some : goal.returns-in-Some
returns-in-Some c =
    let s = c.args.subject.now in
    let old = c.args.self.now in
    let x : ℕ = c.in-Some.variable in
    let few = c.requires.subject.formula.variables in
    let low : x ≤ s.formula.variables = c.in-Some.ensures.next.1 in
    let lit : to_z w32 (of_z w32 (pos 0 -ℤ to_z w32 x)) ≡ neg_ℤ (pos x) = omega (arith, ints) in
    decided_runs s old
    (record { trail = c.decide.new.self; pairs = old.pairs; reached = c.lowest_free.new.reached; found = old.found }) x
    c.requires
    (subst (λ p. IsNextVariable old.trail.items s.formula.variables p (Some x)) c.as_slice-shown.ensures c.in-Some.ensures.next)
    (c.decide.ensures.items ∙ ap (λ (z : ℤ). old.trail.items ++ record { lit = z; level = old.trail.level + 1; kind = Decided } ∷ []) lit)
    c.decide.ensures.level c.decide.ensures.variables refl refl
    (subst (λ p. HasReached old.trail.items p c.lowest_free.new.reached) c.as_slice-shown.ensures c.in-Some.ensures.after)
