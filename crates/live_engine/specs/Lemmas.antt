-- Lemmas from others, and lemmas for others.
use Rattle.std.specs.Prelude.{◌≡◌, ◌≤◌, Bool, true, List, [], ◌∷◌, length, ℤ, Option, Some, None, MatchBool}
use Rattle.search_region.specs.Steady.{Follows}
use Rattle.prefix_jobs.specs.declared.lemma.Lemma.{Lemma}
use Rattle.prefix_jobs.specs.Lemmas.{lemma_lits}
use Rattle.live_engine.specs.Engines.{EngineView}
use Rattle.live_engine.specs.Imports.{IsRefuted, clauses_with}

-- The clause was answered with whether its negations are refuted; then it follows from the formula,
-- and it is kept where it can be. Nothing else has changed, and no lemma is unsent.
pub record HasImported (old new : EngineView) (c : List ℤ) (refuted : Bool) : Type 0 where
  pub tells : MatchBool refuted (IsRefuted old.clauses c) (IsRefuted old.clauses c → ⊥)
  pub follows : refuted ≡ true → Follows old.subject.formula.clauses c
  pub keeps : new ≡ record old {
    clauses = clauses_with
        (record { clauses = old.clauses; base = length old.subject.formula.clauses }) c refuted;
    unsent = [];
  }

-- The first of the unsent lemmas is taken off, and was it.
pub record HasTaken (old new : EngineView) (lemma : Lemma) : Type 0 where
  pub short : lemma.len ≤ 8
  pub first : old.unsent ≡ lemma_lits lemma ∷ new.unsent
  pub rest : new ≡ record old { unsent = new.unsent }

-- None is where there is none.
abbrev pub TakesFresh : EngineView → EngineView → Option Lemma → Type 0
TakesFresh old new None = (old.unsent ≡ []) × (new ≡ old)
TakesFresh old new (Some lemma) = HasTaken old new lemma
