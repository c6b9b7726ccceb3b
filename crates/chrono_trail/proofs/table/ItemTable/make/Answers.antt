use Rattle.std.proofs.Common.{rules, ◌≡◌, replicate, pos}
use Rattle.chrono_trail.proofs.Tabled.{no_item, table_none}
use Rattle.chrono_trail.proofs.table.ItemTable.make.Goals as goal

pub invariant_of-result : goal.invariant_of-result
invariant_of-result c =
    let items : c.in_ok-vec.field-0.items ≡ replicate c.args.places no_item = search rules in
    let lits : c.in_ok-vec-2.field-0.items ≡ replicate c.args.places (pos 0) = search rules in
    (table_none c.args.places c.requires c.in_ok-vec.field-0.items c.in_ok-vec-2.field-0.items items lits).1

pub returns : goal.returns
returns c =
    let items : c.in_ok-vec.field-0.items ≡ replicate c.args.places no_item = search rules in
    let lits : c.in_ok-vec-2.field-0.items ≡ replicate c.args.places (pos 0) = search rules in
    (table_none c.args.places c.requires c.in_ok-vec.field-0.items c.in_ok-vec-2.field-0.items items lits).0
