use Rattle.std.proofs.lemmas.Result.{IfOk-weaker}
use Rattle.region_book.specs.Books.{TakesLowest}
use Rattle.worker_loop.specs.Jobs.{TakesOne}
use Rattle.worker_loop.proofs.Steps.{taken_one}
use Rattle.worker_loop.proofs.sweeping.take_lowest.Goals as goal

pub returns-clause-takes : goal.returns-clause-takes
returns-clause-takes c =
    let old = c.args.book.now in
    let new = c.take_any.new.self in
    IfOk-weaker c.take_any.result (TakesLowest old new 0) (TakesOne old new)
    (taken_one old new c.requires c.has_cubes.ensures.cubes c.has_cubes.ensures.pass) c.take_any.ensures.takes
