use Rattle.std.proofs.Common.{◌≡◌, ◌≤◌, ◌++◌, take}
use Rattle.std.specs.List.{All}
use Rattle.clause_arena.specs.Once.{once}
use Rattle.clause_arena.proofs.Marks.{Tells}
use Rattle.clause_arena.proofs.appending.append_once.Given as goal

-- the stamp tells the literals so far, each of which was appended once
abbrev pub invariant-loop-lit : goal.invariant-loop-lit
invariant-loop-lit l = record {
  kept : l.lits.items ≡ l.initial.lits.items ++ once (take l.lit-index l.clause);
  tells : Tells l.stamps l.stamp l.clause l.lit-index;
  stamped : All (λ s. s ≤ l.stamp) l.stamps;
}
