use Rattle.region_book.proofs.Booked.{taken_book}
use Rattle.region_book.proofs.book.Book.take.Goals as goal

pub invariant_of-self : goal.invariant_of-self
invariant_of-self c = let b = c.self.inside in
    taken_book b.subject b.saved b.passes b.pages c.take.new.self c.self.invariant c.args.pass c.args.number c.take.result c.take.ensures.takes c.take.ensures.unchanged
