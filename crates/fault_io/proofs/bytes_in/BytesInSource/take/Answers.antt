use Rattle.std.proofs.Common.{sym, ap, arith}
use Rattle.fault_io.proofs.Moves.{moved, none_moved}
use Rattle.fault_io.proofs.bytes_in.BytesInSource.take.Goals as goal

pub returns-clause-gives : goal.returns-clause-gives
returns-clause-gives c =
    let count = c.min-count.ensures in
    let seen = c.deref-2.ensures.value in (
      record {
        consumed = moved _ _ _ _ _ _ _ (sym (ap (λ v. v.left) c.self.view_is)) seen c.copy_from_slice.ensures.after (omega arith);
        stands = ap (λ v. v.faults) c.self.view_is;
      },
      λ none. none_moved _ _ _ _ _ _ _ seen count c.min.ensures c.self.invariant.1 c.requires none,
    )
