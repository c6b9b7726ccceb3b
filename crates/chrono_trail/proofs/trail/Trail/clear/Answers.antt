use Rattle.std.proofs.Common.{◌≡◌, ℕ, cond, get_or, subst, vec_capacity, None}
use Rattle.chrono_trail.specs.Items.{goes}
use Rattle.chrono_trail.proofs.Kept.{kept_nothing}
use Rattle.chrono_trail.proofs.trail.Trail.clear.Goals as goal

pub invariant_of-self : goal.invariant_of-self
invariant_of-self c =
    let given = c.self.inside.given in
    let now = c.free.new.given in
    rw (c.clear.ensures.items, c.clear-2.ensures.items)
    (kept_nothing c.self.inside.items.items given now c.self.inside.decided.items c.self.inside.seen c.self.inside.level (vec_capacity c.self.inside.items) (vec_capacity c.self.inside.decided) (vec_capacity c.clear.new.self) (vec_capacity c.clear-2.new.self) c.self.invariant c.free.ensures.length c.clear.ensures.capacity c.clear-2.ensures.capacity
    (subst (λ xs. (v : ℕ) → get_or now v None ≡ cond (goes 0 xs v) None (get_or given v None)) c.as_slice.ensures.value c.free.ensures.places))
