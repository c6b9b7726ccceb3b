use Rattle.drill.proofs.Subjects.{drills_are_subjects}
use Rattle.drill.proofs.laws.drills_are_subjects.Goals as goal

pub returns : goal.returns
returns c = drills_are_subjects
