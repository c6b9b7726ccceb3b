use Rattle.std.proofs.Common.{◌≡◌, refl, rules}
use Rattle.std.specs.Ordering.{nat_cmp}
use Rattle.std.proofs.lemmas.Iterator.{YieldsList-from_slice, YieldsList-from_map}
use Rattle.std.proofs.lemmas.Iterator.Consumers.{YieldsList-at}
use Rattle.std.proofs.lemmas.Iterator.Search.{cmp_from_yields_List}
use Rattle.sat_terms.specs.CubeOrder.{key}
use Rattle.sat_terms.proofs.relations.compare.Goals as goal

pub returns : goal.returns
returns c =
    cmp_from_yields_List (λ x y. y ≡ x) _ nat_cmp _ c.cmp.ensures.ran
    (YieldsList-from_map _ key (YieldsList-from_slice c.args.c.now cc) c.map.ensures.closure (λ x r q k. search rules))
    (λ it e. YieldsList-at e (YieldsList-from_map _ key (YieldsList-from_slice c.args.d.now cc) c.map-2.ensures.closure (λ x r q k. search rules)))
    (λ x y. refl)
