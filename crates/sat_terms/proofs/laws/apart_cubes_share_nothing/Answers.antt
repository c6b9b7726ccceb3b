use Rattle.std.proofs.Common.{◌∙◌, map}
use Rattle.std.proofs.lemmas.List.{length-map}
use Rattle.sat_terms.specs.Assignments.{assignment_of}
use Rattle.sat_terms.proofs.Disjoint.{apart-disjoint, apart-from_disjoint, lies_in-map}
use Rattle.sat_terms.proofs.laws.apart_cubes_share_nothing.Goals as goal

pub returns : goal.returns
returns _ p c d is_c is_d = (
  (λ h a _ in_c in_d. apart-disjoint (assignment_of p a) 0 c d is_c.rising h in_c in_d),
  (λ none. apart-from_disjoint c d is_c.rising is_d.rising (λ t in_c in_d.
      none (map t p) (length-map p t) (lies_in-map t p c is_c.over ∙ in_c) (lies_in-map t p d is_d.over ∙ in_d))),
)
