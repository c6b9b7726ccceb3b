use Rattle.std.proofs.Common.{◌≡◌, ◌+◌, ◌-◌, ◌∷◌, [], ◌++◌, take, length, Some, ap, sym, subst, subst₂, ◌∙◌, arith}
use Rattle.std.specs.Option.{option_copied}
use Rattle.std.specs.List.{slice_get}
use Rattle.std.proofs.lemmas.List.{length-map, length-take-le, take_all, take_more}
use Rattle.cube_merge.specs.Parts.{part_lists, greater_of}
use Rattle.cube_merge.proofs.Checked.{ends_with_last, has_no_last}
use Rattle.cube_merge.proofs.Gathered.{list_at}
use Rattle.cube_merge.proofs.Merged.{IsLeading, skips, leads_more}
use Rattle.cube_merge.proofs.merging.greatest_last.Goals as goal
use Rattle.cube_merge.proofs.merging.greatest_last.Goals.{in-Some, in_default}

pub loop-at-preserved : goal.loop-at-preserved
loop-at-preserved g c =
    let cube_of = g.S.Shelf.cube_of c.args.shelf.now in
    let parts = part_lists c.args.parts.now in
    let at = c.loop-at.at in
    let part = c.index-parts-at.result.items in
    let inside = c.loop-at-test.true in
    let long = length-map c.args.parts.now (λ x. x.items) in
    let here = length-take-le at parts (omega arith) in
    let more : take (at + 1) parts ≡ take at parts ++ part ∷ [] =
    take_more parts at [] (omega arith) ∙ ap (λ x. take at parts ++ x ∷ []) (list_at c.args.parts.now at c.index-parts-at.result inside ∙ ap (λ x. x.items) (sym c.index-parts-at.is)) in
    let last : option_copied c.last.result ≡ slice_get part (length part - 1) =
    c.last.ensures.value ∙ ap (λ x. slice_get x (length x - 1)) c.deref.ensures.value in
    subst (λ xs. IsLeading cube_of xs c.match-last.greatest) (sym more)
    (elim c.match-last.branch [
      | in-Some w ↦
          subst (IsLeading cube_of (take at parts ++ part ∷ [])) (sym w.greatest-is)
          (subst (λ x. IsLeading cube_of (take at parts ++ part ∷ []) (Some x)) (ap (λ n. greater_of cube_of c.loop-at.greatest (n, w.in-Some.last.now)) here ∙ sym w.greater.ensures)
          (leads_more cube_of (take at parts) part (take (length part - 1) part) w.in-Some.last.now c.loop-at.greatest
          (ends_with_last part w.in-Some.last.now (sym last ∙ ap option_copied w.in-Some.is)) c.loop-at.invariant))
      | in_default w ↦
          subst (IsLeading cube_of (take at parts ++ part ∷ [])) (sym w.greatest-is)
          (skips cube_of (take at parts) part c.loop-at.greatest (has_no_last part (sym last ∙ ap option_copied w.in_default.is)) c.loop-at.invariant)
    ])

pub returns : goal.returns
returns g c =
    let cube_of = g.S.Shelf.cube_of c.args.shelf.now in
    let parts = part_lists c.args.parts.now in
    let over = c.loop-at-test.false in
    let long = length-map c.args.parts.now (λ x. x.items) in (
      c.in_ok-at.field-0-1,
      subst₂ (IsLeading cube_of) (take_all c.loop-at.at parts (omega arith)) c.in_ok-at.was c.loop-at.invariant,
    )
