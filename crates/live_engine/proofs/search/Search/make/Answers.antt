use Rattle.std.proofs.Common.{◌≡◌, ◌+◌, ◌≤◌, ℕ, false, get_or, [], length, rules}
use Rattle.sat_terms.specs.Cubes.{is_among}
use Rattle.live_engine.proofs.Started.{made_ground, made_of, ArePartsOf}
use Rattle.live_engine.proofs.search.Search.make.Goals as goal

parts : (c : goal.After-new-2) → ArePartsOf c.args.subject.now c.in_ok-machines.machines c.in_ok-to_vec.field-0 c.in_ok-marks_of.field-0 c.from_vec.result c.in_ok-vec.field-0 c.in_ok-vec-2.field-0 c.new-2.result
parts c =
    let s = c.args.subject.now in
    let shown : c.in_ok-to_vec.field-0.items ≡ s.shown = search rules in
    let tells : (v : ℕ) → v ≤ s.formula.variables → get_or c.in_ok-marks_of.field-0.items v false ≡ is_among s.shown v = search rules in
    let empty : c.from_vec.result ≡ [] = search rules in
    let counted : length c.in_ok-vec.field-0.items ≡ s.formula.variables + 1 = search rules in
    let valued : length c.in_ok-vec-2.field-0.items ≡ s.formula.variables + 1 = search rules in
    let none : c.new-2.result.items ≡ [] = search rules in
    record {
      machines = c.in_ok-machines.ensures;
      shows = shown;
      table = record { places = c.in_ok-marks_of.ensures.length; tells = tells };
      is_prefix = empty;
      counted = counted;
      valued = valued;
      is_found = none;
    }

pub returns-clause-ground : goal.returns-clause-ground
returns-clause-ground c =
    made_ground c.args.subject.now c.in_ok-machines.machines c.args.most_lemmas c.in_ok-to_vec.field-0 c.in_ok-marks_of.field-0 c.from_vec.result c.in_ok-vec.field-0 c.in_ok-vec-2.field-0 c.new-2.result c.requires (parts c)

pub returns-clause-subject : goal.returns-clause-subject
returns-clause-subject c =
    made_of c.args.subject.now c.in_ok-machines.machines c.args.most_lemmas c.in_ok-to_vec.field-0 c.in_ok-marks_of.field-0 c.from_vec.result c.in_ok-vec.field-0 c.in_ok-vec-2.field-0 c.new-2.result (parts c)
