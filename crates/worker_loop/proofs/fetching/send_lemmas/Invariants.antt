use Rattle.std.proofs.Common.{◌≡◌, length}
use Rattle.worker_loop.proofs.fetching.send_lemmas.Given as goal

abbrev pub invariant-loop-lemma : goal.invariant-loop-lemma
invariant-loop-lemma l = l.engine ≡ record l.initial.engine { unsent = l.engine.unsent }

abbrev pub decreases-loop-lemma : goal.decreases-loop-lemma
decreases-loop-lemma l = length l.engine.unsent
