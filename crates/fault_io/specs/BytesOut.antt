-- A sink in memory.
use Rattle.std.specs.Prelude.{◌≡◌, ℕ, ◌-◌, ◌<◌, Bool, true, false, Some, List, length, take, ◌++◌, min, Contains, ◌==◌, if◌then◌else◌}
use Rattle.fault_io.specs.Faults.{one_more}
use Rattle.fault_io.specs.Sinks.{SinkView}

-- the bytes that it holds, how many it can hold, the most that one call takes, the numbers of the
-- calls that fail, how many calls and faults there were, and whether it is finished
pub record BytesOutView : Type 0 where
  pub bytes : List ℕ
  pub room : ℕ
  pub step : ℕ
  pub fails : List ℕ
  pub calls : ℕ
  pub faults : ℕ
  pub finished : Bool

-- it tells its bytes
abbrev pub sink_of : BytesOutView → SinkView
sink_of v = record { held = Some v.bytes; faults = v.faults; finished = v.finished }

-- the next call is one of those that fail
abbrev pub FailsNext : BytesOutView → Type 0
FailsNext v = Contains v.fails (one_more v.calls)

-- no byte of the piece has room, and it has some
abbrev pub IsFullFor : BytesOutView → List ℕ → Type 0
IsFullFor v piece = (length v.bytes ≡ v.room) × (0 < length piece)

-- how many bytes a call takes of a piece of this length
abbrev pub put_count : BytesOutView → ℕ → ℕ
put_count v size = min (min v.step size) (v.room - length v.bytes)

-- after a call that took the first n bytes of the piece
abbrev pub after_put : BytesOutView → List ℕ → ℕ → BytesOutView
after_put v piece n = record v {
  bytes = v.bytes ++ take n piece;
  calls = one_more v.calls;
  finished = if n == 0 then v.finished else false;
}

-- after a call of `finish` that did not fail
abbrev pub after_finish : BytesOutView → BytesOutView
after_finish v = record v { calls = one_more v.calls; finished = true }

-- after a call that failed
abbrev pub after_fault : BytesOutView → BytesOutView
after_fault v = record v { calls = one_more v.calls; faults = one_more v.faults }
