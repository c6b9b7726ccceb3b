use Rattle.std.proofs.Common.{[], subst, ◌∙◌, ◌≡◌}
use Rattle.region_book.specs.Books.{BookView, state_of}
use Rattle.region_book.specs.Pages.{state_of_pages}
use Rattle.region_book.specs.Prefixes.{prefix_at}
use Rattle.region_book.proofs.Booked.{none_pending}
use Rattle.region_book.proofs.book.Book.state.Goals as goal

pub returns-in-None : goal.returns-in-None
returns-in-None c =
    let b = c.self.inside in
    let prefixes = prefix_at b.subject b.saved b.pages.journal.items in
    subst (λ (v : BookView). (state_of v).pending ≡ []) c.self.view_is
    (c.self.invariant.state.pending
    ∙ none_pending (state_of_pages b.subject b.saved b.pages).pending (c.in_default.ensures prefixes) (c.in-None.ensures prefixes))
