use Rattle.std.proofs.Common.{◌<◌, get_or, ap, sym, ◌∙◌, arith}
use Rattle.region_book.specs.Journalled.{BookBasis}
use Rattle.std.proofs.lemmas.Option.{get_or_from_slice_get}
use Rattle.region_ledger.proofs.Closing.{new_is_free}
use Rattle.region_ledger.proofs.ledger.Turned+Book.make.Goals as goal

pub returns-clause-free : goal.returns-clause-free
returns-clause-free c k d inside =
    let made = c.in_ok-cell.ensures in
    let l = c.in_ok-cell.cell in
    let below : k < c.args.passes = omega arith in
    new_is_free l k (get_or c.in_ok-cell.passes.items k d) (get_or_from_slice_get c.in_ok-cell.passes.items k _ d (made.passes k below)) (omega arith) (ap (λ (basis : BookBasis). basis.2) made.fixed ∙ c.requires.passes ∙ sym made.size)
