use Rattle.region_book.proofs.Booked.{few_start, new_book}
use Rattle.region_book.proofs.book.Book.make.Goals as goal

pub start-requires : goal.start-requires
start-requires c = few_start c.args.subject c.args.saved c.args.passes c.requires

pub invariant_of-result : goal.invariant_of-result
invariant_of-result c = new_book c.args.subject c.args.saved c.args.passes c.in_ok-pages.pages c.requires c.in_ok-pages.ensures.journal c.in_ok-pages.ensures.parts c.in_ok-pages.ensures.state c.in_ok-pages.ensures.pages
