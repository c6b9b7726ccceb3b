use Rattle.std.proofs.Common.{rules, ◌≡◌, sym, get_or, pos, of_z, to_z, w32}
use Rattle.std.proofs.lemmas.List.{append-nil}
use Rattle.cube_text.proofs.Handing.{Hands-more, Hands-along}
use Rattle.cube_text.proofs.Texts.{numbers_more, numbers_end}
use Rattle.cube_text.proofs.lines.put_line.Goals as goal

pub loop-number-init : goal.loop-number-init
loop-number-init g c = Hands-along _ _ _ _ _ _ (sym (append-nil c.args.front.now)) c.put.ensures

pub loop-number-preserved : goal.loop-number-preserved
loop-number-preserved g c =
    let same : to_z w32 (of_z w32 (get_or c.args.numbers.now c.loop-number.number-index (pos 0))) ≡ get_or c.args.numbers.now c.loop-number.number-index (pos 0) = search rules in
    Hands-along _ _ _ _ _ _ (numbers_more c.args.front.now c.args.numbers.now c.loop-number.number-index _ c.loop-number-test.true same)
    (Hands-more _ _ _ _ _ _ _ _ c.loop-number.invariant c.put_number.ensures)

pub returns : goal.returns
returns g c =
    Hands-along _ _ _ _ _ _ (numbers_end c.args.front.now c.args.numbers.now c.loop-number.number-index c.loop-number-test.false)
    (Hands-more _ _ _ _ _ _ _ _ c.loop-number.invariant c.put-2.ensures)
