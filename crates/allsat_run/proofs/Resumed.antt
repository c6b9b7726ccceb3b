-- The text of a stopped run is read back as its book.
use Rattle.std.proofs.Common.{◌≡◌, ◌≢◌, ◌≤◌, ◌^◌, List, [], ◌∷◌, length, refl, ap, subst, ◌∙◌}
use Rattle.sat_terms.specs.declared.subject.Subject.{Subject}
use Rattle.checkpoint.specs.SavedText.{saved_text}
use Rattle.dimacs_front.specs.declared.input.Input.{Input}
use Rattle.dimacs_front.specs.Answers.{AreInside}
use Rattle.dimacs_front.specs.Whole.{reads}
use Rattle.dimacs_front.proofs.SavedBack.{reads_back}
use Rattle.region_book.specs.Machine.{Pending}
use Rattle.region_book.specs.Machine.{prefixes_of}
use Rattle.region_book.specs.Arranged.{ArrangedView}
use Rattle.region_book.specs.Laws.{BeginsWhole}
use Rattle.region_book.proofs.Arranging.{published_over, pending_over, published_inside}
use Rattle.allsat_run.specs.Run.{IsBookOf, book_text, text_with}
use Rattle.allsat_run.specs.Laws.{SaysAgain}

some_text : (a : ArrangedView) (ps : List Pending) → ps ≢ [] → text_with ps a ≡ saved_text a.book.subject a.published (prefixes_of a.pending)
some_text a [] some = absurd (some refl)
some_text a (q ∷ qs) some = refl

pub a_stopped_run_goes_on : (input : Input) (a : ArrangedView) → IsBookOf input a → BeginsWhole input.subject input.saved → a.pending ≢ [] → length (book_text a) ≤ 2 ^ 30 → SaysAgain input a
a_stopped_run_goes_on input a of begins some short =
    let s = input.subject in
    let whole = of.whole begins in
    let part = whole.partition in
    let found : AreInside s.shown s.under a.published = record {
      over = published_over s.formula.clauses s.shown s.under a.published (prefixes_of a.pending) part;
      inside = published_inside s.formula.clauses s.shown s.under a.published (prefixes_of a.pending) of.limits.subject.under part;
    } in
    let left : AreInside s.shown s.under (prefixes_of a.pending) = record {
      over = pending_over s.formula.clauses s.shown s.under a.published (prefixes_of a.pending) part;
      inside = part.inside;
    } in
    let text : book_text a ≡ saved_text s a.published (prefixes_of a.pending) =
    some_text a a.pending some ∙ ap (λ (x : Subject). saved_text x a.published (prefixes_of a.pending)) of.subject in
    record {
      again = ap reads text ∙ reads_back s a.published (prefixes_of a.pending)
          (record { subject = of.limits.subject; shown = of.limits.shown; clauses = of.limits.clauses; literals = of.limits.literals }) found left (subst (λ x. length x ≤ 2 ^ 30) text short);
      whole = part;
    }
