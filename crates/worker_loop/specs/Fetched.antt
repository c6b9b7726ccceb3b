-- Which lemmas of others are looked at.
use Rattle.std.specs.Prelude.{ℕ, ◌≤◌}
use Rattle.std.specs.List.{All}
use Rattle.sat_terms.specs.Literals.{IsLiteralOf}
use Rattle.prefix_jobs.specs.declared.lemma.Lemma.{Lemma}
use Rattle.prefix_jobs.specs.Lemmas.{lemma_lits}

-- It has at most 8 literals, and they are of these variables.
pub record MayBeImported (variables : ℕ) (l : Lemma) : Type 0 where
  pub short : l.len ≤ 8
  pub literals : All (IsLiteralOf variables) (lemma_lits l)
