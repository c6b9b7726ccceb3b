use Rattle.std.proofs.Common.{◌≡◌, ℕ, ◌≤◌, true, take}
use Rattle.std.specs.Prelude.{IfSome}
use Rattle.sat_terms.specs.Cubes.{has_literal}
use Rattle.implicant_shrink.specs.Levels.{marked, is_at_most, is_met_at, met_level}
use Rattle.implicant_shrink.proofs.levels.least.Given as goal

abbrev pub invariant-loop-lit : goal.invariant-loop-lit
invariant-loop-lit l = record {
  level : (b : ℕ) → l.level ≤ b →
      is_met_at (marked l.shown) b l.trail.items (take l.lit-index l.clause) ≡ is_at_most b (met_level l.best);
  among : IfSome l.best (λ met. has_literal l.clause met.lit ≡ true);
}
