use Rattle.std.proofs.Common.{subst}
use Rattle.std.specs.List.{All}
use Rattle.turn_cell.proofs.Closing.{all_last, all_front}
use Rattle.region_ledger.specs.Hands.{IsFreeHand}
use Rattle.region_ledger.proofs.tests.last_of.Goals as goal

pub returns-clause-last : goal.returns-clause-last
returns-clause-last c = all_last (IsFreeHand c.args.ledger.now) _ _ (subst (All (IsFreeHand c.args.ledger.now)) c.in-Some.ensures.items c.requires.free)

pub returns-clause-rest : goal.returns-clause-rest
returns-clause-rest c = all_front (IsFreeHand c.args.ledger.now) _ _ (subst (All (IsFreeHand c.args.ledger.now)) c.in-Some.ensures.items c.requires.free)
