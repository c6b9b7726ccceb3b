use Rattle.std.proofs.Common.{[], length, get_or, ap, ◌∙◌, arith}
use Rattle.std.proofs.lemmas.List.{length-map}
use Rattle.region_book.specs.Machine.{prefixes_of}
use Rattle.region_book.specs.Prefixes.{prefix_at}
use Rattle.region_book.specs.Slots.{pending_of}
use Rattle.region_book.specs.Arranged.{ArrangedView}
use Rattle.region_book.proofs.Booked.{prefix_read}
use Rattle.region_book.proofs.arranged.ArrangedBook.prefix.Goals as goal

pub returns : goal.returns
returns c =
    let a = c.self.inside in
    let i = c.args.i in
    c.prefix_at.ensures.same
    ∙ ap (λ x. prefix_at a.subject a.saved x c.index.result.now.number) c.deref.ensures.value
    ∙ prefix_read (prefix_at a.subject a.saved a.journal.items) a.pending.items i c.index.result.now c.index.ensures
    (let long = ap (λ (v : ArrangedView). length v.pending) c.self.view_is in
    let all = length-map a.pending.items (pending_of (prefix_at a.subject a.saved a.journal.items)) in
    let inside = c.requires in
    omega arith)
    ∙ ap (λ (v : ArrangedView). get_or (prefixes_of v.pending) i []) c.self.view_is
