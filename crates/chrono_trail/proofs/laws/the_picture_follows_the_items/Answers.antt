use Rattle.std.proofs.Common.{sym}
use Rattle.chrono_trail.proofs.Pictures.{picture-append, back-picture, picture-grown}
use Rattle.chrono_trail.proofs.laws.the_picture_follows_the_items.Goals as goal

pub returns-clause-appended : goal.returns-clause-appended
returns-clause-appended _ = picture-append

pub returns-clause-back : goal.returns-clause-back
returns-clause-back _ clauses k items = sym (back-picture clauses k items)

pub returns-clause-grown : goal.returns-clause-grown
returns-clause-grown _ = picture-grown
