use Rattle.std.proofs.Common.{◌≡◌, true, [], get_or, ap, ◌∙◌, inl, inr}
use Rattle.std.specs.List.{list_all, list_any}
use Rattle.std.proofs.lemmas.Bool.{both_ways, cases_Bool}
use Rattle.std.proofs.lemmas.List.Folds.{list_all_at}
use Rattle.chrono_trail.specs.Clauses.{is_true}
use Rattle.plain_search.proofs.Looks.{clause_at}
use Rattle.plain_search.proofs.Looks.{clause_level_there}
use Rattle.plain_search.proofs.search.Search.least_level.Goals as goal

pub unwrap-requires : goal.unwrap-requires
unwrap-requires c =
    let f = c.args.subject.now.formula.clauses in
    let holds = list_any (is_true c.args.self.now.trail.items) in
    let at = clause_at f c.as_slice-clause-items.result.now c.loop-place.place c.clause-item.result c.lits.result.now
    c.as_slice-clause-items.ensures c.loop-place-test.true c.clause-item.is c.lits.ensures.same in
    let on : list_any (is_true c.args.self.now.trail.items) (get_or f c.loop-place.place []) ≡ true = elim (cases_Bool (holds (get_or f c.loop-place.place []))) [
      | inl on ↦ on
      | inr off ↦ absurd (both_ways (list_all holds f) (list_all_at holds f c.loop-place.place [] at.0 off) c.requires.model)
    ] in
    clause_level_there c.args.subject.now c.args.self.now c.requires.searching c.lits.result.now c.clause_level.result
    (ap holds at.1 ∙ on) c.clause_level.ensures
