use Rattle.std.proofs.Common.{◌≡◌, ◌+◌, ◌-◌, ℕ, true, take, subst, arith}
use Rattle.std.specs.List.{list_all}
use Rattle.std.proofs.lemmas.Bool.{leb-true}
use Rattle.chrono_trail.specs.Items.{is_upto}
use Rattle.chrono_trail.proofs.Back.{all_low}
use Rattle.chrono_trail.proofs.Kept.{list_all_take}
use Rattle.implicant_shrink.proofs.Flips.{fewer}
use Rattle.implicant_shrink.proofs.levels.are_upto.Goals as goal

pub returns-then-level : goal.returns-then-level
returns-then-level c = λ high.
    let items = c.args.trail.now.items in
    let level : ℕ = c.args.level in
    let top : ℕ = c.level.result in
    let trail = c.level.ensures.trail in
    let same = c.level.ensures.level in
    let current = trail.current in
    let over = leb-true top level high in
    list_all_take (is_upto level) c.args.place items (all_low 0 level items trail.stands (omega arith))

pub returns-else-level : goal.returns-else-level
returns-else-level c = λ far.
    let items = c.args.trail.now.items in
    let level : ℕ = c.args.level in
    let place : ℕ = c.args.place in
    let next : ℕ = c.decision.result in
    let same : level + 1 - 1 ≡ level = omega arith in
    fewer (is_upto level) place next items (leb-true place next far)
    (subst (λ (k : ℕ). list_all (is_upto k) (take next items) ≡ true) same c.decision.ensures.low)
