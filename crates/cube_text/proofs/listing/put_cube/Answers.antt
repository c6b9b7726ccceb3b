use Rattle.std.proofs.Common.{◌≡◌, ◌-◌, ◌++◌, ℕ, ℤ, List, length, take, drop, ap, ◌∙◌}
use Rattle.std.proofs.lemmas.List.{take_rest}
use Rattle.dimacs_tokens.specs.Texts.{ended}
use Rattle.cube_text.specs.Lines.{zero_ended}
use Rattle.cube_text.specs.Fronts.{front_text}
use Rattle.cube_text.proofs.Fronts.{line_is}
use Rattle.cube_text.proofs.Handing.{Hands-along}
use Rattle.cube_text.proofs.listing.put_cube.Goals as goal

pub returns-clause-hands : goal.returns-clause-hands
returns-clause-hands g c =
    let cube = c.args.cube.now in
    let k = length c.turn_to.new.self.ends in
    let at = c.count.result in
    let rest : take (length cube - at) (drop at cube) ≡ drop k cube = take_rest cube at ∙ ap (λ i. drop i cube) c.count.ensures in
    let line = ap (λ (t : List ℕ). ended (t ++ zero_ended (take (length cube - at) (drop at cube)))) (c.text.ensures ∙ c.turn_to.ensures.text)
    ∙ ap (λ (l : List ℤ). ended (front_text cube k ++ zero_ended l)) rest
    ∙ line_is cube k in
    Hands-along _ _ _ _ _ _ line c.put_line.ensures
