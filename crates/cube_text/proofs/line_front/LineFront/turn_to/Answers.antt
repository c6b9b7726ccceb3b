use Rattle.std.proofs.Common.{length, ap, arith}
use Rattle.cube_text.proofs.Fronts.{front_cut}
use Rattle.cube_text.proofs.line_front.LineFront.turn_to.Goals as goal

pub extend-requires : goal.extend-requires
extend-requires c =
    let shared = c.shared_front.result in
    let k = c.min-shared.result in
    let least = c.min-shared.ensures in
    let count = c.len.ensures.value in
    let long = ap (λ v. length v.ends) c.self.view_is in
    let within = c.shared_front.ensures.within_other in
    front_cut c.args.last.now c.args.cube.now c.args.self.now c.cut.new.self k shared c.requires (omega arith) (omega arith) within
    c.shared_front.ensures.same c.cut.ensures.text c.cut.ensures.ends
