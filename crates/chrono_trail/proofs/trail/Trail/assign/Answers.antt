use Rattle.std.proofs.Common.{◌≡◌, rules, refl, cond, ◌+◌, append-nil, ◌≤◌, ◌-◌, ◌++◌, ◌∷◌, [], ap, sym, subst, ◌∙◌, arith, length, set, Some, nat_abs, vec_capacity, true}
use mir.Syntax.{w32}
use mir.Val.{SFits}
use Rattle.std.proofs.lemmas.Int.{to_z-of_z}
use Rattle.std.proofs.lemmas.Bool.{le-leb}
use Rattle.chrono_trail.specs.declared.item.Item.{Item}
use Rattle.chrono_trail.specs.Items.{item_of, is_decision, may_stand, level_after, decisions_from}
use Rattle.chrono_trail.specs.Trails.{TrailView, IsKept}
use Rattle.chrono_trail.proofs.Room.{room_for}
use Rattle.chrono_trail.proofs.Tables.{kept_push}
use Rattle.chrono_trail.proofs.Decisions.{decisions-push}
use Rattle.chrono_trail.proofs.trail.Trail.assign.Goals as goal

pub put-requires-clause-room : goal.put-requires-clause-room
put-requires-clause-room c =
    let is = c.self.view_is in
    let n = length c.self.inside.given - 1 in
    let below : nat_abs c.args.lit ≤ n = subst (λ (v : TrailView). nat_abs c.args.lit ≤ v.variables) (sym is) c.requires.within in
    let free = ap (λ (v : TrailView). item_of v.items (nat_abs c.args.lit)) is ∙ c.requires.unassigned in
    let short = room_for n c.self.inside.items.items c.self.inside.level (nat_abs c.args.lit) c.self.invariant.trail c.requires.named below free in
    let room = c.self.invariant.room in
    omega arith

pub invariant_of-self : goal.invariant_of-self
invariant_of-self c =
    let is = c.self.view_is in
    let items = c.self.inside.items.items in
    let e : Item = record { lit = c.args.lit; level = c.args.level; kind = c.args.kind } in
    let low : c.args.level ≤ c.self.inside.level = subst (λ (v : TrailView). c.args.level ≤ v.level) (sym is) c.requires.below in
    let below = subst (λ (v : TrailView). nat_abs c.args.lit ≤ v.variables) (sym is) c.requires.within in
    let free = ap (λ (v : TrailView). item_of v.items (nat_abs c.args.lit)) is ∙ c.requires.unassigned in
    let stands : may_stand c.self.inside.level e ≡ true = rw c.requires.undecided (le-leb c.args.level c.self.inside.level low) in
    let after : level_after c.self.inside.level e ≡ c.self.inside.level = rw c.requires.undecided refl in
    let fits : SFits w32 c.args.lit = search rules in
    let none : cond (is_decision c.args.kind) ((0 + length items) ∷ []) [] ≡ [] = rw c.requires.undecided refl in
    let stack : c.self.inside.decided.items ≡ decisions_from 0 (items ++ e ∷ []) = c.self.invariant.stack ∙ sym (decisions-push 0 items e ∙ ap (λ xs. decisions_from 0 items ++ xs) none ∙ append-nil (decisions_from 0 items)) in
    rw (c.put.ensures.items, c.put.ensures.given, to_z-of_z w32 c.args.lit fits)
    (subst (λ k. IsKept (items ++ e ∷ []) (set c.self.inside.given (nat_abs c.args.lit) (Some e)) c.self.inside.decided.items c.self.inside.seen k (vec_capacity c.put.new.items) (vec_capacity c.self.inside.decided)) after
    (kept_push items c.self.inside.given c.self.inside.decided.items c.self.inside.decided.items c.self.inside.seen c.self.inside.level (vec_capacity c.self.inside.items) (vec_capacity c.self.inside.decided) (vec_capacity c.put.new.items) (vec_capacity c.self.inside.decided) e c.self.invariant c.requires.named below free stands stack c.put.ensures.capacity refl))

pub returns-clause-trail : goal.returns-clause-trail
returns-clause-trail c = (invariant_of-self c).trail
