-- What a verdict tells.
use Rattle.std.specs.Prelude.{◌≡◌, ℕ, ◌<◌, Bool, true, List, length, ℤ}
use Rattle.std.specs.List.{All}
use Rattle.sat_terms.specs.Assignments.{IsGood, lies_in}
use Rattle.sat_terms.specs.Subjects.{IsFormula, IsShown}
use Rattle.cube_check.specs.declared.met.Met.{Met}
use Rattle.cube_check.specs.declared.verdict.Verdict.{Verdict}
use Rattle.cube_check.specs.declared.verdict.Verdict.TheVariants.{Right}
use Rattle.cube_check.specs.Verdicts.{IsMet, IsVerdict, met_at, AnyTwoAreApart}

-- Any two cubes are apart, and each projected assignment that lies in one of them is good.
pub record AreSound (f : List (List ℤ)) (p : List ℕ) (met : List Met) : Type 0 where
  pub disjoint : AnyTwoAreApart met
  pub good : (k : ℕ) → k < length met → (a : List Bool) → length a ≡ length p →
      lies_in p a (met_at met k).cube ≡ true → IsGood f p a

-- Where the verdict is right, so are the cubes.
abbrev pub RightIsSound : ℕ → List (List ℤ) → List ℕ → List Met → Type 0
RightIsSound n f p met = IsFormula n f → IsShown n p → All (IsMet n p) met →
    IsVerdict f met Right → AreSound f p met

-- A listing has one verdict.
abbrev pub HasOneVerdict : List (List ℤ) → List Met → Verdict → Verdict → Type 0
HasOneVerdict f met v w = IsVerdict f met v → IsVerdict f met w → v ≡ w
