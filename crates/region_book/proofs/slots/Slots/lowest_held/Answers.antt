use Rattle.std.proofs.Common.{is_some, sym, ap, subst, ◌∙◌}
use Rattle.std.specs.List.{position}
use Rattle.region_book.specs.Lowest.{IsLowestOf, IsLowest}
use Rattle.region_book.specs.Slots.{stands_held, live_of}
use Rattle.region_book.proofs.Live.{mirrors_any_held, none_passes}
use Rattle.region_book.proofs.Rising.{stands_position, none_position, lowest_live}
use Rattle.region_book.proofs.slots.Slots.lowest_held.Goals as goal

pub returns-in_err-at : goal.returns-in_err-at
returns-in_err-at c prefixes =
    let slots = c.args.self.now.slots.items in
    subst (IsLowest (λ q. is_some q.holder) (live_of prefixes slots)) (sym c.from_residual.ensures)
    (none_passes prefixes stands_held (λ q. is_some q.holder) (mirrors_any_held prefixes) slots
    (none_position stands_held slots (ap (position stands_held) (sym c.deref.ensures.value) ∙ sym c.first_held.ensures ∙ c.in_err-at.was)))

pub returns : goal.returns
returns c prefixes =
    let slots = c.args.self.now.slots.items in
    let at = c.in_ok-at.at in
    subst (λ s. IsLowestOf (λ q. is_some q.holder) (live_of prefixes slots) s.number) (sym c.index.ensures)
    (lowest_live prefixes stands_held (λ q. is_some q.holder) (mirrors_any_held prefixes) slots at c.index.result.now c.requires.rise
    (stands_position stands_held slots at (ap (position stands_held) (sym c.deref.ensures.value) ∙ sym c.first_held.ensures ∙ c.in_ok-at.was)))
