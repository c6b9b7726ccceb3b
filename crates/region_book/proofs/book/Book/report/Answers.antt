use Rattle.std.proofs.Common.{◌≡◌, false, List, length, IfOk, sym, ap, subst, ◌∙◌, arith}
use Rattle.std.specs.List.{All, find}
use Rattle.std.proofs.lemmas.Result.{IfOk-weaker}
use Rattle.region_book.specs.declared.event.Event.{Event}
use Rattle.region_book.specs.Slots.{is_held_slot}
use Rattle.region_book.specs.Machine.{is_held_by, FitsFound}
use Rattle.region_book.specs.Pages.{Reports}
use Rattle.region_book.specs.Books.{BookView, IsBook, MakesReport, book_view, replay, state_of}
use Rattle.region_book.proofs.Booked.{same_book, reported_book, makes_report, same_view, held_in, fits_some}
use Rattle.region_book.proofs.book.Book.report.Goals.{After-prepare}
use Rattle.region_book.proofs.book.Book.report.Goals as goal

-- the book with room
roomy : (c : After-prepare) → IsBook c.self.inside.subject c.self.inside.saved c.self.inside.passes c.prepare.new.self
roomy c = let b = c.self.inside in
    same_book b.subject b.saved b.passes b.pages c.prepare.new.self c.self.invariant c.prepare.ensures.same

fits : (c : After-prepare) → FitsFound c.self.inside.subject.formula.clauses c.self.inside.subject.shown (find (is_held_by c.args.pass c.args.number) (replay c.self.inside.subject c.self.inside.saved c.prepare.new.self.journal.items).pending) c.args.outcome
fits c =
    let b = c.self.inside in
    subst (λ (events : List Event). FitsFound b.subject.formula.clauses b.subject.shown (find (is_held_by c.args.pass c.args.number) (replay b.subject b.saved events).pending) c.args.outcome) (sym c.prepare.ensures.same.journal)
    (subst (λ (v : BookView). FitsFound v.subject.formula.clauses v.subject.shown (find (is_held_by c.args.pass c.args.number) (state_of v).pending) c.args.outcome) (sym c.self.view_is) c.requires.fits)

pub report-requires-clause-part : goal.report-requires-clause-part
report-requires-clause-part c =
    let parts = c.self.invariant.parts in
    let same = ap length c.prepare.ensures.same.published in
    let passes = ap (λ (v : BookView). v.passes) c.self.view_is in
    let low = c.requires.pass in
    omega arith

pub report-requires-clause-held : goal.report-requires-clause-held
report-requires-clause-held c =
    let b = c.self.inside in
    subst (λ xs. All (λ s. is_held_slot c.args.pass c.args.number s ≡ false) xs → ⊥) (sym c.prepare.ensures.same.slots)
    (held_in c.args.pass c.args.number b.subject b.saved b.passes b.pages c.args.self.now c.self.view_is c.self.invariant
    (fits_some c.args.self.now.subject.formula.clauses c.args.self.now.subject.shown (find (is_held_by c.args.pass c.args.number) (state_of c.args.self.now).pending) c.args.outcome c.requires.fits))

pub invariant_of-self : goal.invariant_of-self
invariant_of-self c = roomy (goal.at.invariant_of-self c).After-prepare

pub invariant_of-self-2 : goal.invariant_of-self-2
invariant_of-self-2 c =
    let b = c.self.inside in
    let before = (goal.at.invariant_of-self-2 c).After-prepare in
    reported_book b.subject b.saved b.passes c.prepare.new.self c.report.new.self (roomy before) c.args.pass c.args.number c.args.outcome (fits before) c.report.result c.report.ensures.reports c.report.ensures.unchanged

pub returns-clause-reports : goal.returns-clause-reports
returns-clause-reports c =
    let b = c.self.inside in
    let kept = c.prepare.new.self in
    let new = c.report.new.self in
    let before = (goal.at.returns-clause-reports c).After-prepare in
    let view = book_view b.subject b.saved b.passes in
    subst (λ (v : BookView). IfOk c.report.result (λ answer. MakesReport v (view new) c.args.pass c.args.number c.args.outcome answer)) (same_view b.subject b.saved b.passes b.pages kept c.self.invariant c.prepare.ensures.same ∙ c.self.view_is)
    (IfOk-weaker c.report.result (λ answer. Reports kept new c.args.pass c.args.number c.args.outcome answer) (λ answer. MakesReport (view kept) (view new) c.args.pass c.args.number c.args.outcome answer)
    (makes_report b.subject b.saved b.passes kept new (roomy before) c.args.pass c.args.number c.args.outcome (fits before)) c.report.ensures.reports)
