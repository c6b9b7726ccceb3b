use Rattle.std.proofs.Common.{◌≡◌, ◌+◌, ◌<◌, ◌∷◌, [], ◌++◌, set, ap, sym, subst, refl, ◌∙◌, arith, ℤ, nat_abs}
use mir.Syntax.{w32}
use mir.Val.{to_z, of_z}
use Rattle.std.proofs.lemmas.Int.{to_z-of_z}
use Rattle.chrono_trail.specs.declared.item.Kind.TheVariants.{Decided}
use Rattle.live_engine.proofs.Literals.{literal_fits}
use Rattle.chrono_trail.specs.Items.{item_of}
use Rattle.projected_decide.specs.Laws.{IsLowestFree}
use Rattle.live_engine.proofs.Moves.{next_free, next_full, decided_runs, level_bound, walked_searches}
use Rattle.live_engine.proofs.search.Search.decide.Goals as goal

free : (c : goal.After-decide-arg-1) → IsLowestFree c.args.self.now.variables c.args.self.now.shown.items c.args.self.now.trail.items c.in-Some.lit
free c = next_free c.args.self.now c.requires c.in-Some.lit (sym c.in-Some.ensures.next)

same : (c : goal.After-decide-arg-1) → to_z w32 (of_z w32 c.in-Some.lit) ≡ c.in-Some.lit
same c = to_z-of_z w32 c.in-Some.lit (literal_fits c.in-Some.lit (let low = (free c).named.1 in let few = c.requires.ground.small in (omega arith)))

pub decide-requires-clause-named : goal.decide-requires-clause-named
decide-requires-clause-named c = subst (λ (z : ℤ). 0 < nat_abs z) (sym (same c)) (free c).named.0

pub decide-requires-clause-within : goal.decide-requires-clause-within
decide-requires-clause-within c = let low = (free c).named.1 in let wide = c.requires.ground.trail in let bits = ap nat_abs (same c) in omega arith

pub decide-requires-clause-unassigned : goal.decide-requires-clause-unassigned
decide-requires-clause-unassigned c = ap (λ (z : ℤ). item_of c.args.self.now.trail.items (nat_abs z)) (same c) ∙ (free c).free

pub note-requires : goal.note-requires
note-requires c =
    let t = c.decide.new.self in
    let bound = level_bound t.variables t.items t.level c.decide.ensures.trail in
    let long = c.requires.ground.counted in
    let wide = c.requires.ground.trail in
    let same = c.decide.ensures.variables in
    let level = c.level.ensures.level in
    omega arith

pub returns-in-Some : goal.returns-in-Some
returns-in-Some c =
    let old = c.args.self.now in
    decided_runs old c.requires c.decide.new.self c.next.new.self c.note.new.counts c.in-Some.lit (sym c.in-Some.ensures.next) c.in-Some.ensures.order
    (c.decide.ensures.items ∙ ap (λ (z : ℤ). old.trail.items ++ record { lit = z; level = old.trail.level + 1; kind = Decided } ∷ []) (to_z-of_z w32 c.in-Some.lit (literal_fits c.in-Some.lit (let low = (next_free old c.requires c.in-Some.lit (sym c.in-Some.ensures.next)).named.1 in let few = c.requires.ground.small in (omega arith)))))
    c.decide.ensures.level c.decide.ensures.variables c.decide.ensures.seen c.decide.ensures.trail c.in-Some.ensures.passed
    (c.note.ensures ∙ ap (λ k. set old.counts.items k old.leaves) c.level.ensures.level)

pub returns-in-None : goal.returns-in-None
returns-in-None c = record {
  searching = walked_searches c.args.self.now c.next.new.self c.requires c.next.ensures.passed c.next.ensures.order;
  same = refl;
  full = next_full c.args.self.now c.requires (sym c.next.ensures.next ∙ c.in-None.is);
}
