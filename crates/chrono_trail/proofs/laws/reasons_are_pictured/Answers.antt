use Rattle.chrono_trail.proofs.Reasoned.{reasons_are_inside, reasons_are_pictured}
use Rattle.chrono_trail.proofs.laws.reasons_are_pictured.Goals as goal

pub returns-clause-inside : goal.returns-clause-inside
returns-clause-inside _ = reasons_are_inside

pub returns-clause-pictured : goal.returns-clause-pictured
returns-clause-pictured _ = reasons_are_pictured
