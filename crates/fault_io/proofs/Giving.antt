-- Several calls of a source in a row.
use Rattle.std.proofs.Common.{List, ℕ, [], ◌++◌, refl, ◌∙◌}
use Rattle.fault_io.specs.Sources.{SourceView, GivesBytes}
use Rattle.fault_io.proofs.Consumes.{Consumes-nil, Consumes-more}

-- no call at all
pub gives_nothing : (a : SourceView) → GivesBytes a a []
gives_nothing a = record { consumed = Consumes-nil a.left; stands = refl }

-- some bytes, and then more
pub gives_more : (a b c : SourceView) (xs ys : List ℕ) → GivesBytes a b xs → GivesBytes b c ys →
    GivesBytes a c (xs ++ ys)
gives_more a b c xs ys first second = record {
  consumed = Consumes-more a.left b.left c.left xs ys first.consumed second.consumed;
  stands = second.stands ∙ first.stands;
}
