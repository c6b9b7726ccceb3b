-- What the engine's callers see of imports and of lemmas that are sent.
use Rattle.std.proofs.Common.{◌≡◌, ◌+◌, ◌≤◌, Bool, not, ◌&&◌, List, [], ◌∷◌, ◌++◌, length, take, ℤ, Option, Some, None, refl, sym, ap, ap₂, subst, ◌∙◌, arith}
use Rattle.std.proofs.lemmas.Bool.{cond_both}
use Rattle.std.proofs.lemmas.List.{length-take-le, length-map, take-append-le}
use Rattle.sat_terms.specs.Cubes.{has_pair}
use Rattle.sat_terms.specs.declared.subject.Subject.{Subject}
use Rattle.search_region.specs.Steady.{Follows}
use Rattle.prefix_jobs.specs.declared.lemma.Lemma.{Lemma}
use Rattle.clause_arena.specs.Clauses.{Clauses, has_room}
use Rattle.clause_arena.specs.Once.{once}
use Rattle.live_engine.specs.declared.search.Search.{Search}
use Rattle.live_engine.specs.declared.search.Phase.{Phase}
use Rattle.live_engine.specs.declared.search.Phase.TheVariants.{Idle, Running, Over}
use Rattle.live_engine.specs.Searching.{search_formula, IsGround}
use Rattle.live_engine.specs.Starts.{IsOf}
use Rattle.live_engine.specs.Imports.{Imports, clauses_with}
use Rattle.live_engine.specs.Sending.{Skips, SendsNext}
use Rattle.live_engine.specs.Engines.{IsEngine, IsIdle, IsInPhase, engine_view, unsent_of}
use Rattle.live_engine.specs.Lemmas.{HasImported, TakesFresh}
use Rattle.live_engine.proofs.Sent.{follows_once, skipped, phase_sent}

-- the clauses below the lemmas are as many as those of the formula
pub formula_count : (subject : Subject) (s : Search) → IsOf subject s → s.arena.base ≤ length s.arena.clauses → s.arena.base ≡ length subject.formula.clauses
formula_count subject s of based = sym (length-take-le s.arena.base s.arena.clauses based) ∙ ap length of.formula ∙ length-map subject.formula.clauses once

-- ---- an import

module _ (subject : Subject) (s : Search) (of : IsOf subject s) (idle : IsIdle s) (c : List ℤ) (refuted : Bool) (new : Search) (imports : Imports s new c refuted) (after : Search) (skips : Skips new after) where
  is_after : after ≡ record s { arena = new.arena; propagator = new.propagator; trail = new.trail; sent = after.sent }
  is_after = skips.rest ∙ ap (λ (n : Search). record n { sent = after.sent }) imports.rest

  is_base : s.arena.base ≡ length subject.formula.clauses
  is_base = formula_count subject s of idle.ground.based

  same_arena : after.arena ≡ new.arena
  same_arena = ap (λ (n : Search). n.arena) is_after

  all_skipped : new.arena.base + after.sent ≡ length new.arena.clauses
  all_skipped = ap (λ (a : Clauses). a.base + after.sent) (sym same_arena) ∙ skips.all ∙ ap (λ (a : Clauses). length a.clauses) same_arena

  pub has_imported : HasImported (engine_view subject s Idle) (engine_view subject after Idle) c refuted
  has_imported = record {
    tells = imports.tells;
    follows = λ told. follows_once subject.formula.clauses c (subst (λ f. Follows f c) of.formula (imports.follows told));
    keeps = subst (λ (x : Search). engine_view subject x Idle ≡ record (engine_view subject s Idle) {
      clauses = clauses_with (record { clauses = s.arena.clauses; base = length subject.formula.clauses }) c refuted;
      unsent = [];
    }) (sym is_after)
        (ap₂ (λ cs us. record (engine_view subject s Idle) { clauses = cs; unsent = us })
        (imports.clauses ∙ ap (λ b. clauses_with (record { clauses = s.arena.clauses; base = b }) c refuted) is_base)
        (skipped (record s { arena = new.arena; propagator = new.propagator; trail = new.trail; sent = after.sent }) all_skipped));
  }

  formula_kept : search_formula new ≡ search_formula s
  formula_kept = ap₂ take imports.base imports.clauses
      ∙ cond_both (refuted && (not (has_pair c) && has_room s.arena (length (once c)))) (s.arena.clauses ++ once c ∷ []) s.arena.clauses
      (λ xs. take s.arena.base xs ≡ take s.arena.base s.arena.clauses)
      (λ more. take-append-le s.arena.base s.arena.clauses (once c ∷ []) idle.ground.based) (λ none. refl)

  pub imported_engine : IsGround new → IsEngine subject after Idle
  imported_engine ground = subst (λ (x : Search). IsEngine subject x Idle) (sym skips.rest) (record {
    of = record {
      variables = ap (λ (n : Search). n.variables) imports.rest ∙ of.variables;
      formula = formula_kept ∙ of.formula;
      shown = ap (λ (n : Search). n.shown.items) imports.rest ∙ of.shown;
    };
    state = phase_sent new after.sent Idle (record {
      ground = ground;
      found = ap (λ (n : Search). n.found.items) imports.rest ∙ idle.found;
      leaves = ap (λ (n : Search). n.leaves) imports.rest ∙ idle.leaves;
    });
    sent = (let all = all_skipped in omega arith);
  })

-- a call without memory leaves what callers see
module _ (subject : Subject) (s : Search) (of : IsOf subject s) (idle : IsIdle s) (new : Search) (rest : new ≡ record s { propagator = new.propagator; trail = new.trail }) where
  pub same_view : engine_view subject new Idle ≡ engine_view subject s Idle
  same_view = ap (λ (x : Search). engine_view subject x Idle) rest

  pub same_engine : s.arena.base + s.sent ≤ length s.arena.clauses → IsGround new → IsEngine subject new Idle
  same_engine within ground = record {
    of = subst (IsOf subject) (sym rest) (record { variables = of.variables; formula = of.formula; shown = of.shown });
    state = record {
      ground = ground;
      found = ap (λ (n : Search). n.found.items) rest ∙ idle.found;
      leaves = ap (λ (n : Search). n.leaves) rest ∙ idle.leaves;
    };
    sent = subst (λ (n : Search). n.arena.base + n.sent ≤ length n.arena.clauses) (sym rest) within;
  }

-- ---- a job begins

pub started_engine : (subject : Subject) (begun new : Search) (phase : Phase) → IsOf subject begun → IsInPhase begun phase → Skips begun new → IsEngine subject new phase
started_engine subject begun new phase of state skips = subst (λ (x : Search). IsEngine subject x phase) (sym skips.rest) (record {
  of = record { variables = of.variables; formula = of.formula; shown = of.shown };
  state = phase_sent begun new.sent phase state;
  sent = (let all = subst (λ (n : Search). n.arena.base + new.sent ≡ length n.arena.clauses) skips.rest skips.all in omega arith);
})

-- ---- a lemma is sent

module _ (subject : Subject) (s new : Search) (phase : Phase) where
  pub takes_fresh : (o : Option Lemma) → SendsNext s new o → TakesFresh (engine_view subject s phase) (engine_view subject new phase) o
  takes_fresh None h = (h.0, ap (λ (x : Search). engine_view subject x phase) h.1)
  takes_fresh (Some lemma) h = record {
    short = h.short;
    first = h.first;
    rest = subst (λ (x : Search). engine_view subject x phase ≡ record (engine_view subject s phase) { unsent = unsent_of x }) (sym h.rest) (by_phase phase);
  }
    where
      by_phase : (p : Phase) → engine_view subject (record s { sent = new.sent }) p ≡ record (engine_view subject s p) { unsent = unsent_of (record s { sent = new.sent }) }
      by_phase Idle = refl
      by_phase Running = refl
      by_phase Over = refl

  pub fresh_engine : IsEngine subject s phase → (o : Option Lemma) → SendsNext s new o → IsEngine subject new phase
  fresh_engine h None sends = subst (λ (x : Search). IsEngine subject x phase) (sym sends.1) h
  fresh_engine h (Some lemma) sends = subst (λ (x : Search). IsEngine subject x phase) (sym sends.rest) (record {
    of = record { variables = h.of.variables; formula = h.of.formula; shown = h.of.shown };
    state = phase_sent s new.sent phase h.state;
    sent = subst (λ (n : Search). n.arena.base + new.sent ≤ length n.arena.clauses) sends.rest sends.within;
  })
