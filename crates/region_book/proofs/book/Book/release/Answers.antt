use Rattle.std.proofs.Common.{◌≢◌, None, sym, subst}
use Rattle.std.specs.List.{find}
use Rattle.region_book.specs.declared.event.Event.TheVariants.{Release}
use Rattle.region_book.specs.Machine.{is_held_by}
use Rattle.region_book.specs.Books.{BookView, state_of}
use Rattle.region_book.proofs.Booked.{entered_book, held_in}
use Rattle.region_book.proofs.book.Book.release.Goals as goal

pub release-requires-clause-held : goal.release-requires-clause-held
release-requires-clause-held c =
    let b = c.self.inside in
    held_in c.args.pass c.args.number b.subject b.saved b.passes b.pages c.args.self.now c.self.view_is c.self.invariant c.requires.held

pub invariant_of-self : goal.invariant_of-self
invariant_of-self c =
    let b = c.self.inside in
    let n = c.args.number in
    entered_book b.subject b.saved b.passes b.pages c.release.new.self c.self.invariant (Release c.args.pass n) c.release.ensures
    (subst (λ (v : BookView). find (is_held_by c.args.pass n) (state_of v).pending ≢ None) (sym c.self.view_is) c.requires.held)
