use Rattle.std.proofs.Common.{◌≡◌, ◌+◌, ◌*◌, ◌<◌, ◌≤◌, ℕ, ap, sym, subst, ◌∙◌, length, take, get_or, [], ◌∷◌, ◌++◌, arith}
use Rattle.std.specs.List.{All}
use Rattle.std.proofs.lemmas.List.{length-map, length-take}
use Rattle.std.proofs.lemmas.Grind.{take_at_read}
use Rattle.sat_terms.specs.CubeOrder.{key}
use Rattle.clause_arena.specs.Once.{HasEachOnce}
use Rattle.watch_lists.specs.declared.nodes.Node.{Node}
use Rattle.watch_lists.specs.Nodes.{lists_view}
use Rattle.watch_lists.specs.Views.{ListsView, IsFree, IsPlaced, watched, with_places}
use Rattle.watch_lists.specs.Watching.{IsWatching, attached}
use Rattle.watch_lists.proofs.AllLists.{count_is}
use Rattle.watch_lists.proofs.Seen.{Grows, grows_from, placed_is, watched_lits, watched_lists}
use Rattle.watch_lists.proofs.Watching.{attaching_keeps, wider_room}
use Rattle.watch_lists.proofs.watches.Watches.attach.Goals as goal

grows_it : (c : goal.After-lits) → Grows c.self.inside.nodes.items c.grow.new.nodes.items c.self.inside.heads.items (2 * c.args.id + 2)
grows_it c = grows_from c.self.inside.nodes.items c.grow.new.nodes.items c.self.inside.heads.items (2 * c.args.id + 2) c.self.invariant c.requires.few c.in_ok-grow.ensures.grown

-- the front of the clauses is as long as the id
front_long : (c : goal.After-lits) → length (take c.args.id c.args.arena.now.clauses) ≡ c.args.id
front_long c = let known = c.requires.known in let taken = length-take c.args.id c.args.arena.now.clauses in omega arith

wide_is : (c : goal.After-lits) → lists_view c.grow.new.nodes.items c.self.inside.heads.items ≡ with_places (2 * c.args.id + 2) c.args.self.now
wide_is c = (grows_it c).grown ∙ ap (with_places (2 * c.args.id + 2)) c.self.view_is

pub watch_first_two-requires-clause-linked : goal.watch_first_two-requires-clause-linked
watch_first_two-requires-clause-linked c = (grows_it c).linked

pub watch_first_two-requires-clause-inside : goal.watch_first_two-requires-clause-inside
watch_first_two-requires-clause-inside c =
    let long = length-map c.grow.new.nodes.items (λ (m : Node). m.lit) in
    let same = ap (λ (v : ListsView). length v.lits) (wide_is c) in
    let room = (wider_room c.args.self.now (2 * c.args.id + 2)).0 in
    omega arith

pub watch_first_two-requires-clause-listed : goal.watch_first_two-requires-clause-listed
watch_first_two-requires-clause-listed c =
    let count = sym (count_is c.self.inside.nodes.items c.self.inside.heads.items) ∙ ap (λ (v : ListsView). length v.lists) c.self.view_is in
    subst (λ n. All (λ l. key l < n) c.lits.result.now) (sym count)
    (subst (All (λ l. key l < length c.args.self.now.lists)) (sym c.lits.ensures.clause) c.requires.listed)

pub watch_first_two-requires-clause-first : goal.watch_first_two-requires-clause-first
watch_first_two-requires-clause-first c =
    let long = front_long c in
    subst (λ v. IsFree v (2 * c.args.id)) (sym (wide_is c)) (c.requires.watching.idle (2 * c.args.id) (omega arith))

pub watch_first_two-requires-clause-second : goal.watch_first_two-requires-clause-second
watch_first_two-requires-clause-second c =
    let long = front_long c in
    subst (λ v. IsFree v (2 * c.args.id + 1)) (sym (wide_is c)) (c.requires.watching.idle (2 * c.args.id + 1) (omega arith))

attached_it : (c : goal.After-watch_first_two) → lists_view c.watch_first_two.new.nodes.items c.watch_first_two.new.heads.items ≡ attached c.args.id (get_or c.args.arena.now.clauses c.args.id []) c.args.self.now
attached_it c =
    let g = grows_from c.self.inside.nodes.items c.grow.new.nodes.items c.self.inside.heads.items (2 * c.args.id + 2) c.self.invariant c.requires.few c.in_ok-grow.ensures.grown in
    c.watch_first_two.ensures.watched
    ∙ ap (λ v. watched v (2 * c.args.id) c.lits.result.now) (g.grown ∙ ap (with_places (2 * c.args.id + 2)) c.self.view_is)
    ∙ ap (λ xs. watched (with_places (2 * c.args.id + 2) c.args.self.now) (2 * c.args.id) xs) c.lits.ensures.clause

pub returns-clause-attached : goal.returns-clause-attached
returns-clause-attached c = attached_it c

pub returns-clause-watching : goal.returns-clause-watching
returns-clause-watching c =
    let clauses = c.args.arena.now.clauses in
    let id : ℕ = c.args.id in
    let clause = get_or clauses id [] in
    let new = lists_view c.watch_first_two.new.nodes.items c.watch_first_two.new.heads.items in
    let known = c.requires.known in
    let taken = length-take id clauses in
    let long : length (take id clauses) ≡ id = omega arith in
    let placed : IsPlaced new = placed_is c.watch_first_two.new.nodes.items c.watch_first_two.new.heads.items c.watch_first_two.ensures.linked in
    let before = attaching_keeps c.args.self.now (take id clauses) clause c.requires.watching (subst HasEachOnce c.lits.ensures.clause c.lits.ensures.once) c.requires.listed
    (subst (λ n. IsPlaced (attached n clause c.args.self.now)) (sym long) (subst IsPlaced (attached_it c) placed)) in
    let now : IsWatching (attached id clause c.args.self.now) (take id clauses ++ clause ∷ []) = subst (λ n. IsWatching (attached n clause c.args.self.now) (take id clauses ++ clause ∷ [])) long before in
    subst (λ v. IsWatching v (take (id + 1) clauses)) (sym (attached_it c))
    (subst (IsWatching (attached id clause c.args.self.now)) (sym ((take_at_read clauses id [] known).1)) now)

pub returns-clause-places : goal.returns-clause-places
returns-clause-places c =
    let room = (wider_room c.args.self.now (2 * c.args.id + 2)).1 in
    subst (λ (v : ListsView). length c.args.self.now.lits ≤ length v.lits) (sym (attached_it c))
    (subst (λ n. length c.args.self.now.lits ≤ n) (sym (watched_lits (with_places (2 * c.args.id + 2) c.args.self.now) (2 * c.args.id) (get_or c.args.arena.now.clauses c.args.id []))) room)

pub returns-clause-lists : goal.returns-clause-lists
returns-clause-lists c =
    ap (λ (v : ListsView). length v.lists) (attached_it c)
    ∙ watched_lists (with_places (2 * c.args.id + 2) c.args.self.now) (2 * c.args.id) (get_or c.args.arena.now.clauses c.args.id [])
