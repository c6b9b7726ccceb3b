-- A book after one event more of the pass 0.
use Rattle.std.proofs.Common.{◌≡◌, ℕ, suc, ◌+◌, ◌<◌, ◌≤◌, ◌^◌, min, List, [], ◌∷◌, ◌++◌, length, ℤ, Option, Some, None, refl, sym, ap, subst, subst₂, ◌∙◌, append-nil, append_assoc}
use Rattle.std.specs.List.{All, find}
use Rattle.sat_terms.specs.Cubes.{IsCube}
use Rattle.sat_terms.specs.declared.subject.Subject.{Subject}
use Rattle.search_job.specs.Weights.{weight, weights}
use Rattle.prefix_jobs.specs.declared.number.Number.{Number}
use Rattle.prefix_jobs.specs.declared.outcome.Outcome.{Outcome}
use Rattle.prefix_jobs.specs.Outcomes.{open_parts}
use Rattle.region_book.specs.declared.event.Event.{Event}
use Rattle.region_book.specs.declared.event.Event.TheVariants.{Take, Report, Release}
use Rattle.region_book.specs.Machine.{BookState, Pending, is_free, is_held_by, edit_first, taken_out, parts_of, prefixes_of, reported}
use Rattle.region_book.specs.Pages.{prefix_of}
use Rattle.region_book.specs.Books.{BookView, state_of, with_event, TakesLowest}
use Rattle.live_engine.specs.Engines.{EngineView, open_cubes, outcome_of, FitsJob}
use Rattle.worker_loop.specs.Sweeps.{AreUnheld, GrowsFrom}
use Rattle.worker_loop.specs.Jobs.{spent_with, pending_weight, HoldsOnly, IsInJob, TakesOne, HasCome, HandsOver}
use Rattle.worker_loop.proofs.Held.{take_holds, release_unheld, report_unheld, none_pending}
use Rattle.worker_loop.proofs.Weighed.{weight_taken, less_reported, less_open}
use Rattle.region_book.proofs.Owned.{after_event}
use Rattle.region_book.proofs.Prefixes.{found_over}

grows_by : (b : BookView) (e : Event) → GrowsFrom b (with_event e b)
grows_by b e = record { subject = refl; saved = refl; passes = refl; more = e ∷ []; journal = refl }

pub grows_event : (b new : BookView) (e : Event) → new ≡ with_event e b → GrowsFrom b new
grows_event b new e is = subst (GrowsFrom b) (sym is) (grows_by b e)

pub grows_none : (b : BookView) → GrowsFrom b b
grows_none b = record { subject = refl; saved = refl; passes = refl; more = []; journal = sym (append-nil b.journal) }

pub grows_on : (a b c : BookView) → GrowsFrom a b → GrowsFrom b c → GrowsFrom a c
grows_on a b c one two = record {
  subject = two.subject ∙ one.subject;
  saved = two.saved ∙ one.saved;
  passes = two.passes ∙ one.passes;
  more = one.more ++ two.more;
  journal = two.journal ∙ ap (λ x. x ++ two.more) one.journal ∙ append_assoc a.journal one.more two.more;
}

-- ---- a prefix is taken

pub taken_one : (old new : BookView) → AreUnheld (state_of old).pending → All (λ q. IsCube old.subject.shown q.prefix) (state_of old).pending → 1 ≤ old.passes →
    (taken : Option (Number × List ℤ)) → TakesLowest old new 0 taken → TakesOne old new taken
taken_one old new free over some None takes = (takes.0, none_pending (state_of old).pending takes.1 free)
taken_one old new free over some (Some (n, c)) takes =
    let is : new ≡ with_event (Take 0 n) old = takes.1.0 in
    let found : prefix_of (find (is_free n) (state_of old).pending) ≡ Some c = takes.1.1 in
    let now = after_event old new (Take 0 n) is in
    record {
      holds = subst (λ (s : BookState). HoldsOnly 0 n c s.pending) (sym now) (take_holds 0 n c (state_of old).pending free found);
      cube = subst (λ (b : BookView). IsCube b.subject.shown c) (sym is) (found_over old.subject.formula.clauses old.subject.shown (is_free n) c (state_of old).pending over found);
      pass = subst (λ (b : BookView). 1 ≤ b.passes) (sym is) some;
      weight =
          subst (λ (b : BookView). weights (length b.subject.shown) (prefixes_of (state_of new).pending) ≡ pending_weight old) (sym is)
          (ap (λ (s : BookState). weights (length old.subject.shown) (prefixes_of s.pending)) now ∙ weight_taken (length old.subject.shown) (is_free n) 0 (state_of old).pending);
      spent = ap (λ (s : BookState). s.spent) now;
      grows = grows_event old new (Take 0 n) is;
    }

-- ---- it is given back

module _ (old new : BookView) (n : Number) (is : new ≡ with_event (Release 0 n) old) where
  pub release_spent : (state_of new).spent ≡ (state_of old).spent
  release_spent = ap (λ (s : BookState). s.spent) (after_event old new (Release 0 n) is)

  pub release_frees : (c : List ℤ) → HoldsOnly 0 n c (state_of old).pending → AreUnheld (state_of new).pending
  release_frees c holds =
      subst (λ (s : BookState). AreUnheld s.pending) (sym (after_event old new (Release 0 n) is))
      (release_unheld 0 n c (state_of old).pending holds)

-- ---- what came of it is reported

abbrev state_reported : ℕ → ℕ → Number → Outcome → BookState → BookState
state_reported j k n o s = record {
  published = s.published ++ o.cubes;
  pending = edit_first (is_held_by k n) taken_out s.pending ++ parts_of j k o;
  spent = min (s.spent + o.leaves) (2 ^ 62);
}

reported_found : (j k : ℕ) (n : Number) (o : Outcome) (s : BookState) (c : List ℤ) (found : Option Pending) → prefix_of found ≡ Some c → reported j k n o found s ≡ state_reported j k n o s
reported_found j k n o s c None e = absurd (let bad : None ≡ Some c = e in cc)
reported_found j k n o s c (Some q) e = refl

module _ (old new : BookView) (n : Number) (o : Outcome) (e : EngineView) (job : IsInJob old e n) (told : o ≡ outcome_of e) (is : new ≡ with_event (Report 0 n o) old) where
  now_reported : state_of new ≡ state_reported (suc (length old.journal)) 0 n o (state_of old)
  now_reported = after_event old new (Report 0 n o) is ∙ reported_found (suc (length old.journal)) 0 n o (state_of old) job.prefix (find (is_held_by 0 n) (state_of old).pending) job.holds.held

  pub report_frees : AreUnheld (state_of new).pending
  report_frees =
      subst (λ (s : BookState). AreUnheld s.pending) (sym now_reported)
      (report_unheld 0 (suc (length old.journal)) n job.prefix (state_of old).pending o job.holds (ap (λ (x : Outcome). x.kept) told))

  module _ (fits : FitsJob e) where
    less_open_now : HasCome e → weights (length old.subject.shown) (open_parts o) < weight (length old.subject.shown) job.prefix
    less_open_now come =
        let weighs = (fits job.prefix job.job).weighs in
        let left : open_parts o ≡ open_cubes e = ap open_parts told ∙ append-nil (open_cubes e) in
        let same : length e.subject.shown ≡ length old.subject.shown = ap (λ (s : Subject). length s.shown) job.same in
        subst₂ (λ m cs. weights m cs < weight m job.prefix) same (sym left)
        (less_open (length e.subject.shown) job.prefix (open_cubes e) e.leaves
        (subst (λ cs. weights (length e.subject.shown) cs + e.leaves ≤ weight (length e.subject.shown) job.prefix) (append-nil (open_cubes e)) weighs) come)

    less_pending : HasCome e → pending_weight new < pending_weight old
    less_pending come =
        subst₂ (λ (b : BookView) (s : BookState). weights (length b.subject.shown) (prefixes_of s.pending) < pending_weight old) (sym is) (sym now_reported)
        (less_reported (length old.subject.shown) (is_held_by 0 n) job.prefix (state_of old).pending (suc (length old.journal)) 0 o job.holds.held (less_open_now come))

    pub report_hands : HandsOver old new e
    report_hands = record {
      spent = ap (λ (s : BookState). s.spent) now_reported ∙ ap (λ (x : Outcome). spent_with (state_of old).spent x.leaves) told;
      less = less_pending;
    }
