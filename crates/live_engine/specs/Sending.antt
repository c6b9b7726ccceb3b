-- Which of a search's lemmas are still to be sent.
use Rattle.std.specs.Prelude.{◌≡◌, ℕ, suc, ◌+◌, ◌<◌, ◌≤◌, List, [], ◌∷◌, length, filter, drop, slice_index_or, ℤ, Option, Some, None}
use Rattle.prefix_jobs.specs.declared.lemma.Lemma.{Lemma}
use Rattle.prefix_jobs.specs.Lemmas.{lemma_lits}
use Rattle.live_engine.specs.declared.search.Search.{Search}
use Rattle.live_engine.specs.Engines.{may_be_sent, unsent_of}

-- The first clause that may be sent, from the place `from` on, stands at the place `id`.
pub record IsFirstShort (clauses : List (List ℤ)) (from id : ℕ) : Type 0 where
  pub behind : from ≤ id
  pub inside : id < length clauses
  pub short : length (slice_index_or clauses id []) ≤ 8
  pub first : filter may_be_sent (drop from clauses)
      ≡ slice_index_or clauses id [] ∷ filter may_be_sent (drop (suc id) clauses)

abbrev pub FindsShort : List (List ℤ) → ℕ → Option ℕ → Type 0
FindsShort clauses from None = filter may_be_sent (drop from clauses) ≡ []
FindsShort clauses from (Some id) = IsFirstShort clauses from id

-- None is, from now on.
pub record Skips (old new : Search) : Type 0 where
  pub all : new.arena.base + new.sent ≡ length new.arena.clauses
  pub rest : new ≡ record old { sent = new.sent }

-- The first of them is sent.
pub record Sends (old new : Search) (lemma : Lemma) : Type 0 where
  pub short : lemma.len ≤ 8
  pub first : unsent_of old ≡ lemma_lits lemma ∷ unsent_of new
  pub within : new.arena.base + new.sent ≤ length new.arena.clauses
  pub rest : new ≡ record old { sent = new.sent }

abbrev pub SendsNext : Search → Search → Option Lemma → Type 0
SendsNext old new None = (unsent_of old ≡ []) × (new ≡ old)
SendsNext old new (Some lemma) = Sends old new lemma
