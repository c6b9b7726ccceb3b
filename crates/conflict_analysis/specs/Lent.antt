-- What an analyser ends as, once what it lent is given back.
use Rattle.std.specs.Prelude.{◌≡◌, ℕ, ⊤}
use Rattle.std.specs.Borrow.{Fml, MutBor, follows_so}
use mathlib.Core.Option.{none}
use Rattle.conflict_analysis.specs.contracts.analyser.Analyser.{the_row}

-- It ends as it was.
abbrev pub EndsSame : MutBor ℕ → Fml
EndsSame s = follows_so the_row the_row s.ghost_name none (λ _ _. ⊤) (λ v. v ≡ s.now)
