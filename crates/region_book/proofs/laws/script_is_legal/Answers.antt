use Rattle.region_book.proofs.Script.{script_is_legal}
use Rattle.region_book.proofs.laws.script_is_legal.Goals as goal

pub returns : goal.returns
returns c = script_is_legal
