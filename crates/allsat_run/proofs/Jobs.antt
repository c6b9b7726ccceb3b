-- A job goes on, and stays one of its subject, where it comes to a leaf or gives a branch away; and
-- the shown variables of a subject are variables.
use Rattle.std.proofs.Common.{◌≡◌, ◌≢◌, ℕ, ◌<◌, ◌≤◌, List, ℤ, Option, Some, None, sym, ap, ◌∙◌, arith}
use Rattle.std.proofs.lemmas.List.Elements.{All-weaker}
use Rattle.sat_terms.specs.Subjects.{IsSubject, IsVariableList}
use Rattle.prefix_jobs.specs.declared.outcome.Outcome.{Outcome}
use Rattle.live_engine.specs.declared.search.Leaf.{Leaf}
use Rattle.live_engine.specs.declared.search.Leaf.TheVariants.{Found, Dead, Ended}
use Rattle.live_engine.specs.Engines.{EngineView, HasStarted, Leafs}
use Rattle.live_engine.specs.Gives.{GivesOrNot}

pub start_runs : (old new : EngineView) (q : List ℤ) → HasStarted old new q → new.job ≢ None
start_runs old new q h = λ e. let clash : Some q ≡ None = sym h.job ∙ e in cc

pub leaf_runs : (old new : EngineView) (leaf : Leaf) → Leafs old new leaf → old.job ≢ None → new.job ≢ None
leaf_runs old new Found h some = λ e. some (sym h.job ∙ e)
leaf_runs old new Dead h some = λ e. some (sym h.job ∙ e)
leaf_runs old new Ended h some = λ e. some (sym (ap (λ (v : EngineView). v.job) h.same) ∙ e)

pub leaf_subject : (old new : EngineView) (leaf : Leaf) → Leafs old new leaf → new.subject ≡ old.subject
leaf_subject old new Found h = h.subject
leaf_subject old new Dead h = h.subject
leaf_subject old new Ended h = ap (λ (v : EngineView). v.subject) h.same

pub give_runs : (old new : EngineView) (given : Option Outcome) → GivesOrNot old new given → old.job ≢ None → new.job ≢ None
give_runs old new None (untried, same) some = λ e. some (sym (ap (λ (v : EngineView). v.job) same) ∙ e)
give_runs old new (Some o) (given, kept, h) some = λ e. let clash : Some kept ≡ None = sym (ap (λ (v : EngineView). v.job) h.goes_on) ∙ e in cc

pub give_subject : (old new : EngineView) (given : Option Outcome) → GivesOrNot old new given → new.subject ≡ old.subject
give_subject old new None (untried, same) = ap (λ (v : EngineView). v.subject) same
give_subject old new (Some o) (given, kept, h) = ap (λ (v : EngineView). v.subject) h.goes_on

pub shown_variables : (n : ℕ) (f : List (List ℤ)) (p : List ℕ) (u : List ℤ) → IsSubject n f p u → IsVariableList p
shown_variables n f p u s =
    let few : n ≤ 1000000 = s.formula.variables in
    record {
      rising = s.shown.rising;
      named = All-weaker (λ v. (0 < v) × (v ≤ n)) (λ v. (0 < v) × (v < 2147483648)) (λ v h. let low : v ≤ n = h.1 in (h.0, omega arith)) p s.shown.named;
    }
