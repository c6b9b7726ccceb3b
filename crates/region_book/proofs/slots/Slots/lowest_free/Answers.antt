use Rattle.std.proofs.Common.{is_none, sym, subst, arith}
use Rattle.region_book.specs.Lowest.{IsLowestOf}
use Rattle.region_book.specs.Slots.{stands_free, live_of}
use Rattle.region_book.proofs.Live.{mirrors_any_free, none_passes}
use Rattle.region_book.proofs.Rising.{first_stands, none_free, lowest_live}
use Rattle.region_book.proofs.slots.Slots.lowest_free.Goals as goal

pub returns-then-self-len : goal.returns-then-self-len
returns-then-self-len c prefixes =
    let slots = c.args.self.now.slots.items in
    let first = c.args.self.now.first_free in
    let inside = c.if-self-len.true in
    let len = c.len.ensures in
    let long = c.args.self.now.slots.ok.0 in
    subst (λ s. IsLowestOf (λ q. is_none q.holder) (live_of prefixes slots) s.number) (sym c.index.ensures)
    (lowest_live prefixes stands_free (λ q. is_none q.holder) (mirrors_any_free prefixes) slots first c.index.result.now c.requires.rise (first_stands slots first c.requires.first (omega arith)))

pub returns-else-self-len : goal.returns-else-self-len
returns-else-self-len c prefixes =
    let slots = c.args.self.now.slots.items in
    let over = c.if-self-len.false in
    let len = c.len.ensures in
    let long = c.args.self.now.slots.ok.0 in
    none_passes prefixes stands_free (λ q. is_none q.holder) (mirrors_any_free prefixes) slots (none_free slots c.args.self.now.first_free c.requires.first (omega arith))
