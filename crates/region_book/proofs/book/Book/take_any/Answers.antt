use Rattle.std.proofs.Common.{subst}
use Rattle.region_book.specs.Machine.{is_free}
use Rattle.region_book.specs.Pages.{TakesPrefix, state_of_pages}
use Rattle.region_book.specs.Prefixes.{prefix_at}
use Rattle.region_book.proofs.Booked.{taken_book, some_found}
use Rattle.region_book.proofs.book.Book.take_any.Goals as goal

pub unreachable-requires : goal.unreachable-requires
unreachable-requires c =
    let b = c.self.inside in
    let n = c.in-Some.number in
    let gone = subst (TakesPrefix b.subject b.saved b.pages c.take.new.self c.args.pass n) c.in-Gone.is c.in_ok-taken.ensures.takes in
    let low = c.in-Some.ensures (prefix_at b.subject b.saved b.pages.journal.items) in
    some_found (is_free n) (state_of_pages b.subject b.saved b.pages).pending low.some gone.1

pub invariant_of-self-2 : goal.invariant_of-self-2
invariant_of-self-2 c = let b = c.self.inside in
    taken_book b.subject b.saved b.passes b.pages c.take.new.self c.self.invariant c.args.pass c.in-Some.number c.take.result c.take.ensures.takes c.take.ensures.unchanged
