use Rattle.std.proofs.Common.{◌≡◌, None, filter_map, get_or, sym, ap, subst, ◌∙◌, IfOk}
use Rattle.live_engine.specs.Gives.{pictured_before}
use Rattle.live_engine.specs.Marks.{AreMarkedBy}
use Rattle.live_engine.proofs.Marking.{marks_cube}
use Rattle.live_engine.proofs.search.Search.prefix_before.Goals as goal

pub marked_cube-requires-clause-marks : goal.marked_cube-requires-clause-marks
marked_cube-requires-clause-marks c = record {
  trail = pictured_before c.args.self.now c.args.place;
  told = subst (λ m. AreMarkedBy c.args.self.now.variables m (pictured_before c.args.self.now c.args.place)) (sym c.deref.ensures.value) c.in_ok-marks.ensures.marks;
}

pub returns : goal.returns
returns c =
    let s = c.args.self.now in
    subst (λ x. IfOk c.marked_cube.result (λ cube. cube ≡ x))
    (ap (λ m. filter_map (λ v. get_or m v None) s.shown.items) c.deref.ensures.value
    ∙ marks_cube s.variables c.in_ok-marks.marks.items (pictured_before s c.args.place) s.shown.items c.requires.ground.shown.named c.in_ok-marks.ensures.marks)
    c.marked_cube.ensures
