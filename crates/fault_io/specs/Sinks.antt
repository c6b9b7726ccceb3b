-- What a sink shows, and what its calls do to that.
use Rattle.std.specs.Prelude.{◌≡◌, ℕ, Bool, true, Option, List, ◌++◌, length, take, Result, MatchResult}
use Rattle.fault_io.specs.Bytes.{Appends, Keeps, IsShareOf}
use Rattle.fault_io.specs.Faults.{Rose}
use Rattle.fault_io.specs.Finish.{FinishedAfter}

-- the bytes that it holds, where it tells them; how often a call failed; and whether it is
-- finished: its bytes were handed on, and none came since
pub record SinkView : Type 0 where
  pub held : Option (List ℕ)
  pub faults : ℕ
  pub finished : Bool

-- it took these bytes behind those that it holds, and did not fail
pub record TakesBytes (old new : SinkView) (bytes : List ℕ) : Type 0 where
  pub appended : Appends old.held new.held bytes
  pub stands : new.faults ≡ old.faults
  pub finished : FinishedAfter (length bytes) old.finished new.finished

-- it took no byte, and failed
pub record SinkFails (old new : SinkView) : Type 0 where
  pub kept : Keeps old.held new.held
  pub rose : Rose old.faults new.faults
  pub finished : new.finished ≡ old.finished

-- it took the first n bytes of the piece, or failed
abbrev pub TakesSome : {E : Type 0} → SinkView → SinkView → List ℕ → Result ℕ E → Type 0
TakesSome old new piece result = MatchResult result
    (λ n. IsShareOf n piece × TakesBytes old new (take n piece))
    (λ _. SinkFails old new)

-- it handed its bytes on, and did not fail
pub record HandsOn (old new : SinkView) : Type 0 where
  pub kept : Keeps old.held new.held
  pub stands : new.faults ≡ old.faults
  pub finished : new.finished ≡ true

-- it handed its bytes on, or failed
abbrev pub Finishes : {T E : Type 0} → SinkView → SinkView → Result T E → Type 0
Finishes old new result = MatchResult result (λ _. HandsOn old new) (λ _. SinkFails old new)

-- it took a front of the text and no other byte, and it failed
pub record TakesFront (old new : SinkView) (text : List ℕ) : Type 0 where
  pub gone : List ℕ
  pub rest : List ℕ
  pub is_front : gone ++ rest ≡ text
  pub appended : Appends old.held new.held gone
  pub rose : Rose old.faults new.faults
  pub finished : FinishedAfter (length gone) old.finished new.finished

-- it took the whole text, or a front of it and failed
abbrev pub TakesWhole : {T E : Type 0} → SinkView → SinkView → List ℕ → Result T E → Type 0
TakesWhole old new text result = MatchResult result
    (λ _. TakesBytes old new text)
    (λ _. TakesFront old new text)
