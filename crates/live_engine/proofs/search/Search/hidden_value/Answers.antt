use Rattle.std.proofs.Common.{◌∙◌, not, ◌&&◌, cond, Some, None, get_or, false, ap, arith}
use Rattle.std.proofs.lemmas.List.{get_or_read}
use Rattle.live_engine.proofs.Told.{hidden_told}
use Rattle.live_engine.proofs.search.Search.hidden_value.Goals as goal

pub returns : goal.returns
returns c =
    let s = c.args.self.now in
    let low = c.requires.within in
    let long = c.requires.ground.table.places in
    let wide = c.requires.ground.valued in
    let shows = get_or_read s.is_shown.items c.args.variable c.index-shows.result.now (omega arith) c.index-shows.ensures false in
    let value = get_or_read s.values.items c.args.variable c.index.result.now (omega arith) c.index.ensures false in
    c.value_if.ensures
    ∙ ap (λ b. cond (s.has_model && not b) (Some c.index.result.now) None) shows
    ∙ ap (λ v. cond (s.has_model && not (get_or s.is_shown.items c.args.variable false)) (Some v) None) value
    ∙ hidden_told s c.requires.ground c.args.variable c.requires.some low
