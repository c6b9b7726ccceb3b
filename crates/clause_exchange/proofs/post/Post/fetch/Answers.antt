use Rattle.clause_exchange.proofs.Mailed.{fetches}
use Rattle.clause_exchange.proofs.post.Post.fetch.Goals as goal

pub fetch_oldest-requires-clause-pops : goal.fetch_oldest-requires-clause-pops
fetch_oldest-requires-clause-pops g c = fetches
