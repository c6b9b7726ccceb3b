use Rattle.std.proofs.Common.{rules, sym, ◌∙◌, refl, subst}
use Rattle.checkpoint.specs.CubeLines.{AreCubeLine}
use Rattle.checkpoint.proofs.CubeLineParts.{gives_cube, gives_none}
use Rattle.checkpoint.proofs.cube_line.read_cube_line.Goals.{then-not-rise-via-then-not-rise, then-not-rise-via-else-not-rise+then-not-are_sized}
use Rattle.checkpoint.proofs.cube_line.read_cube_line.Goals as goal

pub returns-then-not-rise-clause-refused : goal.returns-then-not-rise-clause-refused
returns-then-not-rise-clause-refused c = elim c.then-not-rise.branch [
  | then-not-rise-via-then-not-rise w ↦ λ cube. gives_none c.args.numbers.now cube _ _ c.rise.ensures refl (λ a b. let no = w.if-not-rise.true in absurd (cc))
  | then-not-rise-via-else-not-rise+then-not-are_sized w ↦ λ cube. gives_none c.args.numbers.now cube _ _ c.rise.ensures w.are_sized.ensures (λ a b. let no = w.if-not-are_sized.true in absurd (cc))
]

pub returns-clause-literals : goal.returns-clause-literals
returns-clause-literals c =
    let numbers = c.args.numbers.now in
    subst (λ v. AreCubeLine numbers v) (sym (search rules))
    (gives_cube numbers c.if-end-eq0.false (search rules) (sym c.rise.ensures ∙ c.if-not-rise.false) (sym c.are_sized.ensures ∙ c.if-not-are_sized.false))
