use Rattle.region_book.proofs.Arranging.{arranged_is_whole}
use Rattle.region_book.proofs.laws.arranged_is_whole.Goals as goal

pub returns : goal.returns
returns c = arranged_is_whole
