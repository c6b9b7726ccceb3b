use Rattle.std.proofs.Common.{◌≡◌, [], take, List, ℤ}
use Rattle.search_job.specs.Reasons.{assume_all}
use Rattle.chrono_trail.specs.Trails.{IsTrail}
use Rattle.chrono_trail.specs.Reasons.{AreReasoned}
use Rattle.chrono_trail.specs.Pictures.{picture_of}
use Rattle.live_engine.proofs.starting.assume.Given as goal

abbrev pub invariant-loop-lit : goal.invariant-loop-lit
invariant-loop-lit l = record {
  items : (f : List (List ℤ)) → picture_of f l.trail.items ≡ assume_all (take l.lit-index l.prefix) [];
  reasoned : (f : List (List ℤ)) → AreReasoned f l.trail.items;
  level : l.trail.level ≡ 0;
  variables : l.trail.variables ≡ l.initial.trail.variables;
  seen : l.trail.seen ≡ l.initial.trail.seen;
  trail : IsTrail l.trail.variables l.trail.items l.trail.level;
}
