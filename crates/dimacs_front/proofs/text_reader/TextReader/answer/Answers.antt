use Rattle.std.proofs.Common.{◌≡◌, ℕ, zero, suc, max, refl, sym, subst, ◌∙◌, arith}
use Rattle.std.proofs.lemmas.Bool.Decides.{nat_tests}
use Rattle.dimacs_front.specs.Whole.{last_line}
use Rattle.dimacs_front.specs.MachineEnd.{end_of}
use Rattle.dimacs_front.specs.MachineText.{answer, answer_by}
use Rattle.dimacs_front.specs.Pieces.{Answered}
use Rattle.dimacs_front.proofs.text_reader.TextReader.answer.Goals as goal

last_is : (n : ℕ) → max n 1 ≡ last_line n
last_is zero = refl
last_is (suc n) = grind (arith, nat_tests)

pub returns : goal.returns
returns c =
    let inside = c.self.inside in
    let ended : Answered (end_of (last_line inside.lines) inside.state) c.finish.result =
    subst (λ n. Answered (end_of n inside.state) c.finish.result) (c.max.ensures ∙ last_is inside.lines) c.finish.ensures in
    subst (λ t. Answered (answer t.state) c.finish.result) c.self.view_is
    (subst (λ o. Answered (answer_by o inside.lines inside.state) c.finish.result) (sym c.in_default.is) ended)
