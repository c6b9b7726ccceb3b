use Rattle.region_book.proofs.Ascending.{numbers_rise}
use Rattle.region_book.proofs.laws.numbers_rise.Goals as goal

pub returns : goal.returns
returns c = numbers_rise
