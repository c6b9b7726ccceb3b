use Rattle.std.proofs.Common.{◌≡◌, ◌≤◌, false, length, map, take, vec_capacity}
use Rattle.sat_terms.specs.Cubes.{has_pair}
use Rattle.clause_arena.specs.Once.{once}
use Rattle.chrono_trail.specs.Trails.{IsTrail}
use Rattle.live_engine.specs.Imports.{assumed_negation}
use Rattle.live_engine.proofs.importing.assume_negations.Given as goal

abbrev pub invariant-loop-lit : goal.invariant-loop-lit
invariant-loop-lit l = record {
  plain : has_pair (take l.lit-index l.lits) ≡ false;
  lemma : l.lemma.items ≡ once (take l.lit-index l.lits);
  items : l.trail.items ≡ map assumed_negation (once (take l.lit-index l.lits));
  room : vec_capacity l.lemma ≡ vec_capacity l.initial.lemma;
  few : length l.lemma.items ≤ l.lit-index;
  level : l.trail.level ≡ 0;
  variables : l.trail.variables ≡ l.initial.trail.variables;
  seen : l.trail.seen ≡ l.initial.trail.seen;
  trail : IsTrail l.trail.variables l.trail.items l.trail.level;
}
