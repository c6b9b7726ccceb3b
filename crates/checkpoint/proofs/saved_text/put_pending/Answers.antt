use Rattle.std.proofs.Common.{[], ◌≡◌, ◌≤◌, ◌<◌, length, get_or, refl, ap, ◌∙◌, arith, rules}
use Rattle.cube_text.proofs.Handing.{Hands-more, Hands-along}
use Rattle.checkpoint.specs.SavedText.{open_line}
use Rattle.checkpoint.proofs.SavedLines.{Hands-nil, lines_more, lines_all}
use Rattle.checkpoint.proofs.saved_text.put_pending.Goals as goal

pub loop-i-init : goal.loop-i-init
loop-i-init g c = record { lines = Hands-nil _ _; same = refl }

pub loop-i-preserved : goal.loop-i-preserved
loop-i-preserved g c =
    let prefixes = g.V.SavedView.pending c.args.view.now in
    let inside : c.loop-i.i < length prefixes = omega arith in
    let same : c.pending_at.result.now ≡ get_or prefixes c.loop-i.i [] =
    c.pending_at.ensures.prefix ∙ ap (λ v. get_or (g.V.SavedView.pending v) c.loop-i.i []) c.loop-i.invariant.same in
    record {
      lines = Hands-along _ _ _ _ _ _ (lines_more open_line prefixes c.loop-i.i [] _ inside same)
          (Hands-more _ _ _ _ _ _ _ _ c.loop-i.invariant.lines c.put_line.ensures);
      same = search rules;
    }

pub returns-clause-lines : goal.returns-clause-lines
returns-clause-lines g c =
    let prefixes = g.V.SavedView.pending c.args.view.now in
    let past : length prefixes ≤ c.loop-i.i = omega arith in
    Hands-along _ _ _ _ _ _ (lines_all open_line prefixes c.loop-i.i past) c.loop-i.invariant.lines
