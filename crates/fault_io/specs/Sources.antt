-- What a source shows, and what its calls do to that.
use Rattle.std.specs.Prelude.{◌≡◌, ℕ, Option, List, take, Result, MatchResult}
use Rattle.fault_io.specs.Bytes.{Consumes, IsAtEnd, Keeps}
use Rattle.fault_io.specs.Faults.{Rose}

-- the bytes that are left, where the source tells them, and how often a call failed
pub record SourceView : Type 0 where
  pub left : Option (List ℕ)
  pub faults : ℕ

-- it gave these bytes, and did not fail
pub record GivesBytes (old new : SourceView) (bytes : List ℕ) : Type 0 where
  pub consumed : Consumes old.left new.left bytes
  pub stands : new.faults ≡ old.faults

-- it gave no byte, and failed
pub record SourceFails (old new : SourceView) : Type 0 where
  pub kept : Keeps old.left new.left
  pub rose : Rose old.faults new.faults

-- it gave n bytes into the buffer, none only where none is left; or it failed
abbrev pub GivesInto : {E : Type 0} → SourceView → SourceView → List ℕ → Result ℕ E → Type 0
GivesInto old new buf result = MatchResult result
    (λ n. GivesBytes old new (take n buf) × (n ≡ 0 → IsAtEnd new.left))
    (λ _. SourceFails old new)
