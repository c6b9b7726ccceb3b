use Rattle.region_book.proofs.Prefixes.{book_over}
use Rattle.worker_loop.proofs.sweeping.has_cubes.Goals as goal

pub returns-clause-cubes : goal.returns-clause-cubes
returns-clause-cubes c =
    let b = c.args.book.now in
    book_over b.subject b.saved b.passes b.journal c.subject-subject.ensures.begins c.journal-journal.ensures.legal
