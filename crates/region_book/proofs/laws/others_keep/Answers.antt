use Rattle.region_book.proofs.Others.{others_keep}
use Rattle.region_book.proofs.laws.others_keep.Goals as goal

pub returns : goal.returns
returns c = others_keep
