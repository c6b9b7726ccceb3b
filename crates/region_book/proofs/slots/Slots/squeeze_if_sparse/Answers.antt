use Rattle.std.proofs.Common.{◌≤◌, filter, length, sym, ap, subst, ◌∙◌}
use Rattle.std.specs.List.{All}
use Rattle.region_book.specs.Slots.{is_live}
use Rattle.region_book.proofs.Rising.{All-filter, filter_again, filter_fewer}
use Rattle.region_book.proofs.slots.Slots.squeeze_if_sparse.Goals as goal

pub returns-then-self-len-clause-live : goal.returns-then-self-len-clause-live
returns-then-self-len-clause-live c = ap (filter is_live) c.squeeze.ensures.live ∙ filter_again c.args.self.now.slots.items

pub returns-then-self-len-clause-placed : goal.returns-then-self-len-clause-placed
returns-then-self-len-clause-placed c m placed =
    subst (All (λ s. s.number.place ≤ m)) (sym c.squeeze.ensures.live) (All-filter (λ s. s.number.place ≤ m) c.args.self.now.slots.items placed)

pub returns-then-self-len-clause-fewer : goal.returns-then-self-len-clause-fewer
returns-then-self-len-clause-fewer c = subst (λ xs. length xs ≤ length c.args.self.now.slots.items) (sym c.squeeze.ensures.live) (filter_fewer c.args.self.now.slots.items)
