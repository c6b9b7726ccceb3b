use Rattle.std.proofs.Common.{◌<◌, ◌^◌, length, None, Some, IfOk, sym, ap, subst, subst₂, arith}
use Rattle.std.proofs.lemmas.Result.{IfOk-weaker}
use Rattle.region_book.specs.Pages.{IsSameState, state_of_pages, BeginsWith}
use Rattle.region_book.specs.Starts.{start_of}
use Rattle.region_book.proofs.Booked.{begun_state, length-numbered}
use Rattle.region_book.proofs.pages.Pages.start.Goals as goal

pub with-requires-in-Some : goal.with-requires-in-Some
with-requires-in-Some c =
    let few = subst (λ o. length (start_of c.args.subject.now o).pending < 2 ^ 32) c.in-Some.is c.requires in
    let long = length-numbered 0 0 c.in-Some.saved.pending in
    let same = ap length c.as_slice-prefixes.ensures in
    omega arith

pub returns-in-None-clause-state : goal.returns-in-None-clause-state
returns-in-None-clause-state c =
    let subject = c.args.subject.now in
    subst (λ o. IfOk c.with.result (λ pages. IsSameState (start_of subject o) (state_of_pages subject o pages))) (sym c.in-None.is)
    (IfOk-weaker c.with.result (BeginsWith c.args.passes 0 1) (λ pages. IsSameState (start_of subject None) (state_of_pages subject None pages))
    (λ pages begins. begun_state subject None c.args.passes pages begins)
    c.with.ensures)

pub returns-in-Some-clause-state : goal.returns-in-Some-clause-state
returns-in-Some-clause-state c =
    let subject = c.args.subject.now in
    let lines = c.in-Some.saved in
    subst (λ o. IfOk c.with-in-Some.result (λ pages. IsSameState (start_of subject o) (state_of_pages subject o pages))) (sym c.in-Some.is)
    (IfOk-weaker c.with-in-Some.result (BeginsWith c.args.passes (length c.as_slice-cubes.result.now) (length c.as_slice-prefixes.result.now)) (λ pages. IsSameState (start_of subject (Some lines)) (state_of_pages subject (Some lines) pages))
    (λ pages begins. begun_state subject (Some lines) c.args.passes pages (subst₂ (λ m n. BeginsWith c.args.passes m n pages) (ap length c.as_slice-cubes.ensures) (ap length c.as_slice-prefixes.ensures) begins))
    c.with-in-Some.ensures)
