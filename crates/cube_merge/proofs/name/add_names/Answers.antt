use Rattle.std.proofs.Common.{◌++◌, ◌∷◌, [], length, sym, ap, ◌∙◌, add-one, arith}
use Rattle.std.proofs.lemmas.List.{append_assoc, length-append}
use Rattle.cube_merge.specs.declared.name.CubeName.{CubeName}
use Rattle.cube_merge.specs.Names.{names_from}
use Rattle.cube_merge.proofs.Named.{names_more, length-names}
use Rattle.cube_merge.proofs.name.add_names.Goals as goal

pub push_reserved-requires : goal.push_reserved-requires
push_reserved-requires c =
    let same = ap length c.loop-index.invariant.same ∙ length-append c.args.names.now.items (names_from c.args.place 0 c.loop-index.index) in
    let long = length-names c.args.place 0 c.loop-index.index in
    let here = c.loop-index.names.ok.0 in
    let room = c.loop-index.invariant.room in
    let inside = c.loop-index-test.true in
    omega arith

pub loop-index-preserved : goal.loop-index-preserved
loop-index-preserved c =
    let old = c.args.names.now.items in
    let j = c.args.place in
    let i = c.loop-index.index in
    let one : CubeName = record { place = j; index = i } in
    record {
      same = c.push_reserved.ensures.items
          ∙ ap (λ x. x ++ one ∷ []) c.loop-index.invariant.same
          ∙ append_assoc old (names_from j 0 i) (one ∷ [])
          ∙ ap (λ x. old ++ x) (sym (names_more j 0 i i (omega arith)) ∙ ap (names_from j 0) (sym (add-one i)));
      room = (let room = c.loop-index.invariant.room in let same = c.push_reserved.ensures.capacity in omega arith);
    }
