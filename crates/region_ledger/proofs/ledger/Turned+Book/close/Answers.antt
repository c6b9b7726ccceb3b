use Rattle.std.proofs.Common.{rules}
use Rattle.region_ledger.proofs.Closing.{closed_free}
use Rattle.region_ledger.proofs.ledger.Turned+Book.close.Goals as goal

pub returns-clause-unheld : goal.returns-clause-unheld
returns-clause-unheld c =
    let closed = c.close-book.ensures in
    closed_free c.args.self c.args.passes.items c.close-book.result (search rules) c.requires.free closed.seen closed.own closed.entries
