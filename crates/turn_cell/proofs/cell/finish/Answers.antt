use Rattle.std.proofs.Common.{◌≡◌, ◌<◌, refl, sym, subst, ◌∙◌, Some}
use Rattle.std.specs.Prelude.{IsSome}
use mathlib.Core.Option.{some-injective}
use Rattle.std.specs.Prelude.{All}
use Rattle.turn_cell.specs.Rule.{IsTrueOf, claim_count}
use Rattle.turn_cell.proofs.Moves.{closing_known}
use Rattle.turn_cell.proofs.Views.{Some_injective}
use Rattle.turn_cell.proofs.cell.finish.Goals as goal

pub unwrap-requires : goal.unwrap-requires
unwrap-requires g c = let j = g.T.Journalled in
    let done = closing_known j.journal j.pass_of j.fixed _ _ _ _ _ _ c.requires.all c.requires.no_turn c.close_with-closed.ensures.values.2 in
    let slot : c.take-slot.result ≡ Some done.0 = some-injective _ _ (sym c.take-slot.ensures.value ∙ done.1.there) in subst (λ o. IsSome o) (sym slot) refl

pub returns-clause-known : goal.returns-clause-known
returns-clause-known g c d has = let j = g.T.Journalled in
    let done = closing_known j.journal j.pass_of j.fixed _ _ _ _ _ _ c.requires.all c.requires.no_turn c.close_with-closed.ensures.values.2 in
    let slot : c.take-slot.result ≡ Some done.0 = some-injective _ _ (sym c.take-slot.ensures.value ∙ done.1.there) in
    subst (λ x. IsTrueOf j.pass_of (j.journal x) d) (Some_injective _ _ (sym slot ∙ c.unwrap.ensures)) (done.1.known d has)

pub returns-clause-entries : goal.returns-clause-entries
returns-clause-entries g c = let j = g.T.Journalled in
    let done = closing_known j.journal j.pass_of j.fixed _ _ _ _ _ _ c.requires.all c.requires.no_turn c.close_with-closed.ensures.values.2 in
    let slot : c.take-slot.result ≡ Some done.0 = some-injective _ _ (sym c.take-slot.ensures.value ∙ done.1.there) in
    subst (λ x. All (λ e. 0 < claim_count (j.pass_of e) c.args.seat.me.0.claims) (j.journal x)) (Some_injective _ _ (sym slot ∙ c.unwrap.ensures)) done.1.entries

pub returns-clause-fixed : goal.returns-clause-fixed
returns-clause-fixed g c = let j = g.T.Journalled in
    let done = closing_known j.journal j.pass_of j.fixed _ _ _ _ _ _ c.requires.all c.requires.no_turn c.close_with-closed.ensures.values.2 in
    let slot : c.take-slot.result ≡ Some done.0 = some-injective _ _ (sym c.take-slot.ensures.value ∙ done.1.there) in
    subst (λ x. j.fixed x ≡ j.fixed c.args.table.shared.key.value.value) (Some_injective _ _ (sym slot ∙ c.unwrap.ensures)) done.1.same
