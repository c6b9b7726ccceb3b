use Rattle.std.proofs.Common.{ap, arith}
use Rattle.std.proofs.lemmas.List.{length-take}
use Rattle.dimacs_front.proofs.Taking.{text_begun, text_more, text_fault, text_end, text_refused}
use Rattle.dimacs_front.proofs.read.read_pieces.Goals as goal

pub loop-reader-init : goal.loop-reader-init
loop-reader-init g c = record {
  took = text_begun _ _ c.make-reader.ensures;
  within = omega arith;
  lines = omega (arith, ap (λ r. r.state.lines) c.make-reader.ensures);
}

pub returns-in-Err : goal.returns-in-Err
returns-in-Err g c =
    let loop = c.loop-reader.invariant in
    text_fault _ _ _ _ _ _ loop.took loop.within c.in-Err.ensures.gives c.lines.ensures

pub returns-in-Ok-eq0 : goal.returns-in-Ok-eq0
returns-in-Ok-eq0 g c =
    let loop = c.loop-reader.invariant in
    text_end _ _ _ _ _ _ _ _ loop.took loop.within c.in-Ok-eq0.field-0-test c.in-Ok-eq0.ensures.gives c.finish.ensures

pub loop-reader-preserved : goal.loop-reader-preserved
loop-reader-preserved g c =
    let fed = c.in-Ok-feed_next.ensures in
    record {
      took = text_more _ _ _ _ _ _ _ _ c.loop-reader.invariant.took c.in-Ok.ensures.gives.0 fed.steps fed.counted fed.going;
      within = fed.within;
      lines = fed.lines;
    }

pub returns-in-Err-feed_next : goal.returns-in-Err-feed_next
returns-in-Err-feed_next g c =
    let loop = c.loop-reader.invariant in
    text_refused _ _ _ _ c.feed_next.new.reader _ _ _ loop.took loop.within
    (omega (arith, length-take c.in-Ok.taken c.take.new.buf, c.take.auto.buf, c.loop-reader.auto.buffer))
    c.in-Ok.ensures.gives.0 c.in-Err-feed_next.ensures
