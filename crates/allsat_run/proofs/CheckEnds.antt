-- What is read of a source and the check of it are what a run of the check promises.
use Rattle.std.proofs.Common.{◌≡◌, ◌≢◌, List, Option, Some, None, Ok, refl, sym, subst, inl, inr}
use Rattle.fault_io.specs.Sources.{SourceView}
use Rattle.fault_io.specs.Sinks.{SinkView}
use Rattle.cube_check.specs.declared.met.Met.{Met}
use Rattle.cube_check.specs.declared.verdict.Verdict.{Verdict}
use Rattle.cube_check.specs.declared.verdict.Verdict.TheVariants.{Right, NotMet, Overlap}
use Rattle.dimacs_front.specs.declared.input.Input.{Input}
use Rattle.dimacs_front.specs.Answers.{ReadsText, IsWithinLimits, IsMetOf}
use Rattle.region_book.specs.Arranged.{ArrangedView}
use Rattle.cube_check.specs.Verdicts.{IsVerdict}
use Rattle.allsat_run.specs.declared.status.Status.{Status}
use Rattle.allsat_run.specs.Run.{CountsReadFault}
use Rattle.allsat_run.specs.Checking.{WritesVerdict, ChecksLines, ChecksInput, Judges, SaysCheck, AnswersCheck}

module _ {S K : Type 0} (source : S → SourceView) (sink : K → SinkView) (input input' : S) where
  -- a text that says an input
  module _ (out out' : K) (said : Input) (reads : ReadsText (source input) (source input') (Ok said)) (limits : IsWithinLimits said)
      (of : IsMetOf said.subject.formula.variables said.subject.shown said.subject.under said.met) where
    abbrev Says : Status → Type 0
    Says status =
        CountsReadFault (source input).faults (source input').faults status
        × SaysCheck source sink input input' reads.bytes out out' status

    judged : (met : List Met) (v : Verdict) → said.met ≡ Some met → IsVerdict said.subject.formula.clauses met v →
        Judges (source input').left reads.bytes v
    judged met v named verdict = record { input = said; text = reads.says; limits = limits; of = of; met = met; named = named; verdict = verdict }

    written : (met : List Met) (v : Verdict) (status : Status) → said.met ≡ Some met → IsVerdict said.subject.formula.clauses met v →
        WritesVerdict (sink out) (sink out') v status → Says status
    written met v status named is (inl (fault, front)) =
        subst Says (sym fault) (reads.counted, (v, judged met v named is, front))
    written met Right status named is (inr (right, whole)) =
        subst Says (sym right) (reads.counted, (judged met Right named is, whole))
    written met (NotMet i j) status named is (inr (wrong, whole)) =
        let other : NotMet i j ≢ Right = λ e. cc in
        subst Says (sym wrong) (reads.counted, (other, judged met (NotMet i j) named is, whole))
    written met (Overlap i j) status named is (inr (wrong, whole)) =
        let other : Overlap i j ≢ Right = λ e. cc in
        subst Says (sym wrong) (reads.counted, (other, judged met (Overlap i j) named is, whole))

    says : (m : Option (List Met)) (status : Status) → said.met ≡ m →
        ChecksLines sink said.subject.formula.clauses m out out' status → Says status
    says None status named (refused, same) =
        subst Says (sym refused) (reads.counted, (inr (record { input = said; text = reads.says; plain = named; named = refl }), same))
    says (Some met) status named (inl checks) = written met checks.verdict status named checks.is checks.written
    says (Some met) status named (inr (memory, same)) = subst Says (sym memory) (reads.counted, (tt, same))

    pub check_read : (status : Status) (book : Option ArrangedView) → ChecksInput sink said out out' status → book ≡ None →
        AnswersCheck source sink input input' out out' status book
    check_read status book checks alone =
        let all : Says status = says said.met status refl checks in
        record {
          taken = reads.bytes;
          consumed = reads.consumed;
          asked = reads.asked;
          counted = all.0;
          says = all.1;
          alone = alone;
        }
