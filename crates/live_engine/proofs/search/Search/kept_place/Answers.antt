use Rattle.std.proofs.Common.{◌+◌, pos, get_or, length, refl, sym, subst, arith}
use Rattle.chrono_trail.specs.declared.item.Kind.TheVariants.{Assumed}
use Rattle.chrono_trail.specs.declared.item.Item.{Item}
use Rattle.live_engine.specs.Gives.{IsKeptPlace}
use Rattle.live_engine.proofs.Handed.{based, level_small, kept_whole, kept_before}
use Rattle.live_engine.proofs.search.Search.kept_place.Goals as goal

pub overflow_add-self : goal.overflow_add-self
overflow_add-self c = let s = c.args.self.now in let low = based s c.requires in let high = level_small s c.requires in let small = c.requires.ground.small in omega arith

pub returns-then-level-self : goal.returns-then-level-self
returns-then-level-self c = let s = c.args.self.now in
    subst (λ xs. IsKeptPlace s (length xs)) (sym c.items.ensures.items)
    (kept_whole s c.requires (let level = c.level.ensures.level in let low = c.if-level-self.true in omega arith))

pub returns-else-level-self : goal.returns-else-level-self
returns-else-level-self c =
    let s = c.args.self.now in
    let none : Item = record { lit = pos 0; level = 0; kind = Assumed } in
    kept_before s c.requires (s.base + 2) c.decision.result none (get_or s.trail.items c.decision.result none) c.decision.ensures refl (omega arith)
