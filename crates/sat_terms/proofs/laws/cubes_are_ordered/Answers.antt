use Rattle.std.proofs.Common.{map}
use Rattle.std.specs.Cmp.Lexicographic.{on_texts}
use Rattle.std.proofs.lemmas.Map.Lookups.{exact_bytes}
use Rattle.sat_terms.specs.CubeOrder.{key}
use Rattle.sat_terms.proofs.Keys.{same_from_keys}
use Rattle.sat_terms.proofs.laws.cubes_are_ordered.Goals as goal

pub returns : goal.returns
returns _ = record {
  total = on_texts (map key);
  exact = λ c d h. same_from_keys c d (exact_bytes (map key c) (map key d) h);
}
