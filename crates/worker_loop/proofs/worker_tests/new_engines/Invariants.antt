use Rattle.std.proofs.Common.{◌≡◌, None}
use Rattle.std.specs.List.{All}
use Rattle.worker_loop.proofs.worker_tests.new_engines.Given as goal

abbrev pub invariant-loop : goal.invariant-loop
invariant-loop l = All (λ e. (e.subject ≡ l.subject) × (e.job ≡ None)) l.all.items
