use Rattle.std.proofs.Common.{◌≡◌, rules, [], ◌∷◌, ◌++◌, ◌≤◌, ◌-◌, ◌+◌, suc, ap, sym, subst, ◌∙◌, arith, length, nat_abs, vec_capacity, true}
use mir.Syntax.{w32}
use mir.Val.{SFits}
use Rattle.std.proofs.lemmas.Int.{to_z-of_z}
use Rattle.std.proofs.lemmas.Bool.{eq-eqb}
use Rattle.chrono_trail.specs.declared.item.Kind.TheVariants.{Decided}
use Rattle.chrono_trail.specs.declared.item.Item.{Item}
use Rattle.chrono_trail.specs.Items.{item_of, may_stand, decisions_from}
use Rattle.chrono_trail.specs.Trails.{TrailView}
use Rattle.chrono_trail.proofs.Room.{room_for, items_bound}
use Rattle.chrono_trail.proofs.Items.{depth_bound}
use Rattle.chrono_trail.proofs.Tables.{kept_push}
use Rattle.chrono_trail.proofs.Kept.{kept_count}
use Rattle.chrono_trail.proofs.Decisions.{decisions-push}
use Rattle.chrono_trail.proofs.trail.Trail.decide.Goals as goal

pub put-requires-clause-room : goal.put-requires-clause-room
put-requires-clause-room c =
    let is = c.self.view_is in
    let n = length c.self.inside.given - 1 in
    let below : nat_abs c.args.lit ≤ n = subst (λ (v : TrailView). nat_abs c.args.lit ≤ v.variables) (sym is) c.requires.within in
    let free = ap (λ (v : TrailView). item_of v.items (nat_abs c.args.lit)) is ∙ c.requires.unassigned in
    let short = room_for n c.self.inside.items.items c.self.inside.level (nat_abs c.args.lit) c.self.invariant.trail c.requires.named below free in
    let room = c.self.invariant.room in
    omega arith

pub overflow_add-level : goal.overflow_add-level
overflow_add-level c =
    let t = c.self.invariant.trail in
    let many = items_bound (length c.self.inside.given - 1) c.self.inside.items.items c.self.inside.level t in
    let deep = depth_bound 0 c.self.inside.items.items t.stands in
    let small = t.small in
    let current = t.current in
    omega arith

pub overflow_cast-place : goal.overflow_cast-place
overflow_cast-place c =
    let many = items_bound (length c.self.inside.given - 1) c.self.inside.items.items c.self.inside.level c.self.invariant.trail in
    let small = c.self.invariant.trail.small in
    let long = c.self.inside.items.ok.0 in
    let place = c.len-place.ensures in
    record { fits = omega arith }

pub push_reserved-requires : goal.push_reserved-requires
push_reserved-requires c =
    let is = c.self.view_is in
    let items = c.self.inside.items.items in
    let n = length c.self.inside.given - 1 in
    let below : nat_abs c.args.lit ≤ n = subst (λ (v : TrailView). nat_abs c.args.lit ≤ v.variables) (sym is) c.requires.within in
    let free = ap (λ (v : TrailView). item_of v.items (nat_abs c.args.lit)) is ∙ c.requires.unassigned in
    let short = room_for n items c.self.inside.level (nat_abs c.args.lit) c.self.invariant.trail c.requires.named below free in
    let count = kept_count c.self.invariant in
    let deep = depth_bound 0 items c.self.invariant.trail.stands in
    let current = c.self.invariant.trail.current in
    let room = c.self.invariant.depth_room in
    let long = c.self.inside.decided.ok.0 in
    omega arith

pub invariant_of-self : goal.invariant_of-self
invariant_of-self c =
    let is = c.self.view_is in
    let items = c.self.inside.items.items in
    let decided = c.self.inside.decided.items in
    let e : Item = record { lit = c.args.lit; level = c.self.inside.level + 1; kind = Decided } in
    let below = subst (λ (v : TrailView). nat_abs c.args.lit ≤ v.variables) (sym is) c.requires.within in
    let free = ap (λ (v : TrailView). item_of v.items (nat_abs c.args.lit)) is ∙ c.requires.unassigned in
    let stands : may_stand c.self.inside.level e ≡ true = eq-eqb (c.self.inside.level + 1) (suc c.self.inside.level) (omega arith) in
    let fits : SFits w32 c.args.lit = search rules in
    let place : c.len-place.result ≡ 0 + length items = (let long = c.self.inside.items.ok.0 in let told = c.len-place.ensures in omega arith) in
    let stack : c.push_reserved.new.self.items ≡ decisions_from 0 (items ++ e ∷ []) =
    c.push_reserved.ensures.items
    ∙ ap (λ n. decided ++ n ∷ []) place
    ∙ ap (λ xs. xs ++ (0 + length items) ∷ []) c.self.invariant.stack
    ∙ sym (decisions-push 0 items e) in
    rw (c.put.ensures.items, c.put.ensures.given, to_z-of_z w32 c.args.lit fits)
    (kept_push items c.self.inside.given decided c.push_reserved.new.self.items c.self.inside.seen c.self.inside.level (vec_capacity c.self.inside.items) (vec_capacity c.self.inside.decided) (vec_capacity c.put.new.items) (vec_capacity c.push_reserved.new.self) e c.self.invariant c.requires.named below free stands stack c.put.ensures.capacity c.push_reserved.ensures.capacity)

pub returns-clause-trail : goal.returns-clause-trail
returns-clause-trail c = (invariant_of-self c).trail
