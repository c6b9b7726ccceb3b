use Rattle.std.proofs.Common.{◌≡◌, sym, subst, ◌∙◌}
use Rattle.sat_terms.specs.CubeOrder.{key}
use Rattle.watch_lists.specs.Views.{list_of, lit_of, follower, Stands, IsPlaced}
use Rattle.watch_lists.proofs.Seen.{after_is, after_stands, placed_is}
use Rattle.watch_lists.proofs.watches.Watches.after.Goals as goal

after_it : (c : goal.After-watch_at) → c.watch_at.result ≡ follower (list_of c.args.self.now (key (lit_of c.args.self.now c.args.watch.place))) c.args.watch.place
after_it c =
    let stands = subst (λ v. Stands v c.args.watch.place) (sym c.self.view_is) c.requires.stands in
    subst (λ v. c.watch_at.result ≡ follower (list_of v (key (lit_of v c.args.watch.place))) c.args.watch.place) c.self.view_is
    (c.watch_at.ensures
    ∙ after_is c.self.inside.nodes.items c.self.inside.heads.items c.args.watch.place c.index.result.now c.self.invariant stands c.index.ensures)

pub returns-clause-after : goal.returns-clause-after
returns-clause-after c = after_it c

pub returns-clause-stands : goal.returns-clause-stands
returns-clause-stands c =
    let placed : IsPlaced c.args.self.now = subst IsPlaced c.self.view_is (placed_is c.self.inside.nodes.items c.self.inside.heads.items c.self.invariant) in
    after_stands c.args.self.now (key (lit_of c.args.self.now c.args.watch.place)) c.args.watch.place c.watch_at.result placed (after_it c)
