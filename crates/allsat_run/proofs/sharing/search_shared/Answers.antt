use Rattle.std.proofs.Common.{◌≡◌, [], ap, ◌∙◌}
use Rattle.region_book.specs.Books.{BookView}
use Rattle.region_book.specs.Journalled.{basis_of}
use Rattle.allsat_run.proofs.Searches.{searches_of, shared_searches, new_is_unheld}
use Rattle.allsat_run.proofs.sharing.search_shared.Goals as goal

pub returns-in-Ok : goal.returns-in-Ok
returns-in-Ok g c =
    shared_searches c.args.input c.in-Ok.ledger c.in_ok-book.book c.args.workers c.args.budget c.share.result.status c.share.result.book c.requires.limits c.share.ensures
    c.in-Ok.ensures.basis (ap basis_of c.in_ok-book.ensures)

pub end_refused-requires-clause-unheld : goal.end_refused-requires-clause-unheld
end_refused-requires-clause-unheld g c =
    new_is_unheld c.args.input.subject c.args.input.saved c.args.workers c.in-Err.book (c.in-Err.ensures.back ∙ c.in_ok-book.ensures)

pub returns : goal.returns
returns g c =
    let new : c.in-Err.book ≡ record { subject = c.args.input.subject; saved = c.args.input.saved; passes = c.args.workers; journal = [] } = c.in-Err.ensures.back ∙ c.in_ok-book.ensures in
    searches_of c.args.input c.in-Err.book c.args.budget c.end_refused.result.status c.end_refused.result.book c.requires.limits c.end_refused.ensures
    (ap (λ (b : BookView). b.subject) new) (ap (λ (b : BookView). b.saved) new)
