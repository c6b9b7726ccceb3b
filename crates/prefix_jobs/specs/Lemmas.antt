-- The literals of a lemma.
use Rattle.std.specs.Prelude.{List, take, ℤ}
use Rattle.prefix_jobs.specs.declared.lemma.Lemma.{Lemma}

-- What its first `len` places hold.
abbrev pub lemma_lits : Lemma → List ℤ
lemma_lits l = take l.len l.lits
