use Rattle.std.proofs.Common.{ap}
use Rattle.live_engine.specs.Engines.{EngineView}
use Rattle.region_book.specs.Books.{BookView}
use Rattle.allsat_run.proofs.Searches.{begins_between, new_is_allowed, searches_of}
use Rattle.allsat_run.proofs.search.search_alone.Goals as goal

pub sweep_rest-requires : goal.sweep_rest-requires
sweep_rest-requires c =
    begins_between c.args.input.subject c.args.input.saved c.in_ok-book.book c.in_ok-engine.engine c.in_ok-book.ensures
    (ap (λ (e : EngineView). e.job) c.in_ok-engine.ensures) (ap (λ (e : EngineView). e.subject) c.in_ok-engine.ensures)

pub returns-clause-searches : goal.returns-clause-searches
returns-clause-searches c =
    let new = c.in_ok-book.ensures in
    searches_of c.args.input c.in_ok-book.book c.args.budget c.sweep_rest.result.status c.sweep_rest.result.book c.requires.limits c.sweep_rest.ensures
    (ap (λ (b : BookView). b.subject) new) (ap (λ (b : BookView). b.saved) new)

pub returns-clause-within : goal.returns-clause-within
returns-clause-within c = λ one.
    c.sweep_rest.ensures.allowed (new_is_allowed c.args.budget c.args.input.subject c.args.input.saved c.in_ok-book.book c.in_ok-book.ensures)
