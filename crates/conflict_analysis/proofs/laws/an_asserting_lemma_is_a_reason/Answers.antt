use Rattle.conflict_analysis.proofs.Reasons.{asserting_is_reason, asserting_is_pictured}
use Rattle.conflict_analysis.proofs.laws.an_asserting_lemma_is_a_reason.Goals as goal

pub returns-clause-items : goal.returns-clause-items
returns-clause-items _ = asserting_is_reason

pub returns-clause-picture : goal.returns-clause-picture
returns-clause-picture _ = asserting_is_pictured
