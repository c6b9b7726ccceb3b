use Rattle.std.proofs.Common.{◌∙◌}
use Rattle.std.proofs.lemmas.List.Sorted.{searched}
use Rattle.sat_terms.proofs.Variables.{increasing-not_falling, is_among-searched}
use Rattle.sat_terms.proofs.cube.is_shown.Goals as goal

pub returns : goal.returns
returns c =
    let answer = searched c.args.shown.now c.args.variable c.binary_search.result c.binary_search.ensures.position (increasing-not_falling c.args.shown.now c.requires) in
    c.is_ok.ensures.value ∙ is_among-searched c.args.shown.now c.args.variable c.binary_search.result answer
