-- Lines of which nothing more is read: behind a refused token, and where the formula is over.
use Rattle.std.proofs.Common.{◌≡◌, ℕ, List, [], ◌∷◌, refl, ap, ◌∙◌}
use Rattle.dimacs_tokens.specs.Seen.{seen_token}
use Rattle.dimacs_front.specs.declared.refused.TextRefused.{TextRefused}
use Rattle.dimacs_front.specs.declared.line_place.LinePlace.TheVariants.{Over, Refused}
use Rattle.dimacs_front.specs.Machine.{StateView, at_place, eaten, closed}
use Rattle.dimacs_front.proofs.MachineLines.{tokens_said, line_said}

refused_token : (n : ℕ) (s : StateView) (r : TextRefused) (t : List ℕ) →
    eaten n (at_place s (Refused r)) (seen_token t) ≡ at_place s (Refused r)
unfolding eaten
refused_token n s r t = refl

pub refused_tokens : (n : ℕ) (s : StateView) (r : TextRefused) (us : List (List ℕ)) →
    tokens_said n (at_place s (Refused r)) us ≡ at_place s (Refused r)
refused_tokens n s r [] = refl
refused_tokens n s r (u ∷ us) =
    ap (λ x. tokens_said n x us) (refused_token n s r u) ∙ refused_tokens n s r us

pub refused_end : (n : ℕ) (s : StateView) (r : TextRefused) →
    closed n (at_place s (Refused r)) ≡ at_place s (Refused r)
unfolding closed
refused_end n s r = refl

over_token : (n : ℕ) (s : StateView) (t : List ℕ) →
    eaten n (at_place s Over) (seen_token t) ≡ at_place s Over
unfolding eaten
over_token n s t = refl

over_tokens : (n : ℕ) (s : StateView) (ts : List (List ℕ)) →
    tokens_said n (at_place s Over) ts ≡ at_place s Over
over_tokens n s [] = refl
over_tokens n s (t ∷ ts) = ap (λ x. tokens_said n x ts) (over_token n s t) ∙ over_tokens n s ts

pub over_line : (n : ℕ) (s : StateView) (ts : List (List ℕ)) →
    line_said n (at_place s Over) ts ≡ at_place s Over
unfolding closed
over_line n s ts = ap (closed n) (over_tokens n s ts)
