-- What a buffered writer was handed since a start, which is what the sink showed then, and what of
-- it went out.
use Rattle.std.specs.Prelude.{◌≡◌, ℕ, Bool, true, false, List, ◌++◌, Result}
use Rattle.fault_io.specs.Sinks.{SinkView, TakesBytes, TakesFront, TakesWhole}

-- the bytes that are kept back, and whether the sink failed
pub record BufferedView : Type 0 where
  pub kept : List ℕ
  pub failed : Bool

-- all of the text went out, but for what is kept back at its end
pub record WentOut (start now : SinkView) (text kept : List ℕ) : Type 0 where
  pub gone : List ℕ
  pub all : gone ++ kept ≡ text
  pub taken : TakesBytes start now gone

-- so it did; or a front of the text went out, and then the sink failed
abbrev pub IsWrittenOut : SinkView → SinkView → List ℕ → List ℕ → Bool → Type 0
IsWrittenOut start now text kept false = WentOut start now text kept
IsWrittenOut start now text kept true = TakesFront start now text

-- the writer was handed the text since the start
abbrev pub Wrote : SinkView → SinkView → List ℕ → BufferedView → Type 0
Wrote start now text b = IsWrittenOut start now text b.kept b.failed

module _ {K : Type 0} (shows : K → SinkView) where
  -- whatever the writer was handed since any start, it was handed the piece behind that
  abbrev pub HandsIn : K → BufferedView → K → BufferedView → List ℕ → Type 0
  HandsIn old b new c piece = (start : SinkView) (text : List ℕ) →
      Wrote start (shows old) text b → Wrote start (shows new) (text ++ piece) c

  -- whatever it was handed since any start is out: whole, or where the sink failed a front of it
  abbrev pub PutsOut : {T E : Type 0} → K → BufferedView → K → Result T E → Type 0
  PutsOut old b new result = (start : SinkView) (text : List ℕ) →
      Wrote start (shows old) text b → TakesWhole start (shows new) text result
