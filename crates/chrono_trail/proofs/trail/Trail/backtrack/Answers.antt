use Rattle.std.proofs.Common.{◌≡◌, ℕ, ◌-◌, ◌+◌, ◌≤◌, List, Option, true, cond, nat_eq, length, length-take, get_or, filter, take, drop, vec_capacity, None, sym, subst, ◌∙◌, ap, arith}
use Rattle.std.specs.List.{list_all}
use Rattle.std.proofs.lemmas.List.{take_rest}
use Rattle.search_region.proofs.Back.{filter_all}
use Rattle.chrono_trail.specs.Items.{is_upto, goes, depth_from, IsDecisionAt}
use Rattle.chrono_trail.specs.declared.item.Item.{Item}
use Rattle.chrono_trail.specs.Trails.{TrailView, IsKept, seen_back}
use Rattle.chrono_trail.proofs.Back.{all_low, goes_after}
use Rattle.chrono_trail.proofs.Kept.{kept_back, kept_seen, seen_low, fewer_stay, list_all_take}
use Rattle.chrono_trail.proofs.trail.Trail.backtrack.Goals as goal

-- where no level goes, each item stays
all_stay : {items : List Item} {given : List (Option Item)} {decided : List ℕ} {seen level wide deep : ℕ} → IsKept items given decided seen level wide deep → (k : ℕ) → k ≡ level → list_all (is_upto k) items ≡ true
all_stay {items} kept k same = let current = kept.trail.current in all_low 0 k items kept.trail.stands (omega arith)

pub returns-then-level-self-clause-items : goal.returns-then-level-self-clause-items
returns-then-level-self-clause-items c =
    let items = c.self.inside.items.items in
    sym (ap (λ (v : TrailView). filter (is_upto c.args.level) v.items) (sym c.self.view_is)
    ∙ filter_all (is_upto c.args.level) items (all_stay c.self.invariant c.args.level c.if-level-self.true))

pub returns-then-level-self-clause-seen : goal.returns-then-level-self-clause-seen
returns-then-level-self-clause-seen c =
    let items = c.self.inside.items.items in
    let seen : ℕ = c.self.inside.seen in
    let low = list_all_take (is_upto c.args.level) seen items (all_stay c.self.invariant c.args.level c.if-level-self.true) in
    let stay : filter (is_upto c.args.level) (take seen items) ≡ take seen items = filter_all (is_upto c.args.level) (take seen items) low in
    let marked = c.self.invariant.marked in
    let long = length-take seen items in
    let count : seen ≡ length (filter (is_upto c.args.level) (take seen items)) = sym (ap length stay ∙ (omega arith)) in
    c.seen_at-self-inside.ensures
    ∙ ap (λ n. cond (nat_eq c.args.level 0) 0 n) count
    ∙ ap (λ (v : TrailView). seen_back c.args.level v) c.self.view_is

pub place_of-start-requires-clause-within : goal.place_of-start-requires-clause-within
place_of-start-requires-clause-within c =
    let below : c.args.level ≤ c.self.inside.level = subst (λ (v : TrailView). c.args.level ≤ v.level) (sym c.self.view_is) c.requires in
    let other = c.if-level-self.false in
    let current = c.self.invariant.trail.current in
    let same = ap (depth_from 0) c.as_slice.ensures.value in
    omega (arith, other)

pub invariant_of-self : goal.invariant_of-self
invariant_of-self c =
    let low = seen_low c.args.level c.self.inside.seen (length c.self.inside.items.items) c.self.invariant.marked in
    kept_seen c.self.invariant c.seen_at-self-inside.result (subst (λ n. n ≤ length c.self.inside.items.items) (sym c.seen_at-self-inside.ensures) low)

pub invariant_of-self-2 : goal.invariant_of-self-2
invariant_of-self-2 c =
    let items = c.self.inside.items.items in
    let given = c.self.inside.given in
    let seen : ℕ = c.self.inside.seen in
    let start : ℕ = c.place_of-start.result in
    let k : ℕ = c.args.level in
    let least : ℕ = k + 1 in
    let below : k ≤ c.self.inside.level = subst (λ (v : TrailView). k ≤ v.level) (sym c.self.view_is) c.requires in
    let decision : IsDecisionAt least items start = subst (λ xs. IsDecisionAt least xs start) c.as_slice.ensures.value c.place_of-start.ensures in
    let one : least - 1 ≡ k = omega arith in
    let low : list_all (is_upto k) (take start items) ≡ true = subst (λ n. list_all (is_upto n) (take start items) ≡ true) one decision.low in
    let same : take (length c.deref.result.now - start) (drop start c.deref.result.now) ≡ drop start items = take_rest c.deref.result.now start ∙ ap (drop start) c.deref.ensures.value in
    let marked : c.seen_at-self-inside-2.result ≤ length (filter (is_upto k) items) = subst (λ n. n ≤ length (filter (is_upto k) items)) (sym (c.seen_at-self-inside-2.ensures ∙ ap (λ n. cond (nat_eq k 0) 0 n) c.keep_upto-kept.ensures.seen)) (seen_low k (length (filter (is_upto k) (take seen items))) (length (filter (is_upto k) items)) (fewer_stay (is_upto k) seen items)) in
    rw (c.keep_upto-kept.ensures.items, c.truncate.ensures.items)
    (kept_back items given c.free.new.given c.self.inside.decided.items seen c.seen_at-self-inside-2.result c.self.inside.level (vec_capacity c.self.inside.items) (vec_capacity c.self.inside.decided) (vec_capacity c.keep_upto-kept.new.items) (vec_capacity c.truncate.new.self) k c.self.invariant below c.free.ensures.length c.keep_upto-kept.ensures.capacity c.truncate.ensures.capacity
    (λ v. c.free.ensures.places v ∙ ap (λ b. cond b None (get_or given v None)) (ap (λ xs. goes least xs v) same ∙ goes_after k start items v low))
    marked)

pub returns-clause-trail : goal.returns-clause-trail
returns-clause-trail c = (invariant_of-self-2 c).trail
