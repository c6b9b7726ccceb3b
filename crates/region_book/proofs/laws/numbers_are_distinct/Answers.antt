use Rattle.region_book.proofs.Numbers.{numbers_are_distinct}
use Rattle.region_book.proofs.laws.numbers_are_distinct.Goals as goal

pub returns : goal.returns
returns c = numbers_are_distinct
