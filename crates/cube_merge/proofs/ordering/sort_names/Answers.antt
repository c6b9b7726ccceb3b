use Rattle.std.proofs.Common.{rules}
use Rattle.std.proofs.lemmas.Fn.{always_returns_same}
use Rattle.cube_merge.proofs.Ranks.{names_rank}
use Rattle.cube_merge.proofs.ordering.sort_names.Goals as goal

pub returns-clause-sorted : goal.returns-clause-sorted
returns-clause-sorted g c = c.sort_unstable_by.ensures.sorted _ (names_rank (g.S.Shelf.cube_of c.args.shelf.now))
    (always_returns_same _ _ _ (λ a r f h. (search rules, search rules)))
