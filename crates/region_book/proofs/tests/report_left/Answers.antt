use Rattle.std.proofs.Common.{sym, subst₂}
use Rattle.std.specs.List.{find}
use Rattle.prefix_jobs.specs.declared.outcome.Outcome.{Outcome}
use Rattle.region_book.specs.Machine.{is_held_by, FitsFound}
use Rattle.region_book.specs.Books.{BookView, state_of}
use Rattle.region_book.specs.Examples.{script_number}
use Rattle.region_book.proofs.Script.{second_fits}
use Rattle.region_book.proofs.tests.report_left.Goals as goal

pub report-requires-clause-fits : goal.report-requires-clause-fits
report-requires-clause-fits c =
    subst₂ (λ (v : BookView) (o : Outcome). FitsFound v.subject.formula.clauses v.subject.shown (find (is_held_by 1 (script_number 2 0)) (state_of v).pending) o)
    (sym c.requires.book) (sym c.requires.outcome) second_fits
