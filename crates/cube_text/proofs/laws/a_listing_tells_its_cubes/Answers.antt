use Rattle.cube_text.proofs.Telling.{listing_tells}
use Rattle.cube_text.proofs.laws.a_listing_tells_its_cubes.Goals as goal

pub returns : goal.returns
returns c = listing_tells
