use Rattle.std.proofs.Common.{◌≡◌, ◌≤◌, ◌<◌, ◌+◌, ◌-◌, length, get_or, sym, ap, ◌∙◌, subst, List, [], ℕ, ℤ, arith}
use Rattle.fault_io.specs.Sinks.{TakesFront}
use Rattle.fault_io.proofs.Taking.{front_longer}
use Rattle.cube_text.specs.Fronts.{IsFrontOf}
use Rattle.cube_text.proofs.Handing.{Wrote-nil, Wrote-along, Wrote-front}
use Rattle.cube_text.proofs.Texts.{cubes_more, listing_ends, listing_front}
use Rattle.cube_text.proofs.listing.write_listing.Goals as goal

pub loop-i-init : goal.loop-i-init
loop-i-init g c = record { wrote = rw c.make-buffer.ensures (Wrote-nil (g.K.Sink.shows c.args.out.now)); front = c.make-line.ensures _ }

pub returns-then-failed : goal.returns-then-failed
returns-then-failed g c =
    let cubes = g.L.CubeList.cubes c.args.cubes.now in
    let inside : c.loop-i.i < length cubes = omega arith in
    let more = cubes_more cubes c.loop-i.i _ inside c.at-cube.ensures in
    let wrote = Wrote-along _ _ _ _ _ more (c.put_cube.ensures.hands _ _ c.loop-i.invariant.wrote) in
    let front = Wrote-front _ _ _ _ (sym c.if-failed.ensures) wrote in
    subst (λ (l : List ℕ). TakesFront (g.K.Sink.shows c.args.out.now) (g.K.Sink.shows c.put_cube.new.out) l)
    (listing_front cubes _) (front_longer _ _ _ _ front)

pub loop-i-preserved : goal.loop-i-preserved
loop-i-preserved g c =
    let cubes = g.L.CubeList.cubes c.args.cubes.now in
    let inside : c.loop-i.i < length cubes = omega arith in
    let more = cubes_more cubes c.loop-i.i _ inside c.at-cube.ensures in
    let one : c.loop-i.i + 1 - 1 ≡ c.loop-i.i = omega arith in
    record {
      wrote = Wrote-along _ _ _ _ _ more (c.put_cube.ensures.hands _ _ c.loop-i.invariant.wrote);
      front = subst (λ (cube : List ℤ). IsFrontOf cube c.put_cube.new.front) (c.at-cube.ensures ∙ ap (λ n. get_or cubes n []) (sym one)) c.put_cube.ensures.front;
    }

pub returns : goal.returns
returns g c =
    let cubes = g.L.CubeList.cubes c.args.cubes.now in
    let past : length cubes ≤ c.loop-i.i = omega arith in
    c.close.ensures _ _ (Wrote-along _ _ _ _ _ (listing_ends cubes c.loop-i.i past) (c.put.ensures _ _ c.loop-i.invariant.wrote))
