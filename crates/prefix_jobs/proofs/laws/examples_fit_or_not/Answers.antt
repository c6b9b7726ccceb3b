use Rattle.prefix_jobs.proofs.Examples.{examples}
use Rattle.prefix_jobs.proofs.laws.examples_fit_or_not.Goals as goal

pub returns : goal.returns
returns c = examples
