use Rattle.std.proofs.Common.{sym, ap, ◌∙◌, arith}
use Rattle.std.proofs.lemmas.Grind.{common_steps}
use Rattle.dimacs_tokens.specs.Seen.{more_seen}
use Rattle.dimacs_tokens.proofs.SeenSteps.{seen_push}
use Rattle.dimacs_tokens.proofs.tokens.Seen.push.Goals as goal

pub returns-clause-step : goal.returns-clause-step
unfolding more_seen
returns-clause-step c = grind (arith, common_steps)

-- the step, at what is seen of t
pub returns-clause-meaning : goal.returns-clause-meaning
returns-clause-meaning c = λ t e.
    returns-clause-step c ∙ ap (λ s. more_seen s c.args.byte) e ∙ sym (seen_push t c.args.byte)
