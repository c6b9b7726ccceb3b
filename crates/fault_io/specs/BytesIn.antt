-- A source in memory.
use Rattle.std.specs.Prelude.{ℕ, Some, List, length, drop, min, Contains}
use Rattle.fault_io.specs.Faults.{one_more}
use Rattle.fault_io.specs.Sources.{SourceView}

-- the bytes that are left, the most that one call gives, the numbers of the calls that fail,
-- and how many calls and faults there were
pub record BytesInView : Type 0 where
  pub left : List ℕ
  pub step : ℕ
  pub fails : List ℕ
  pub calls : ℕ
  pub faults : ℕ

-- it tells its bytes
abbrev pub source_of : BytesInView → SourceView
source_of v = record { left = Some v.left; faults = v.faults }

-- the next call is one of those that fail
abbrev pub FailsNext : BytesInView → Type 0
FailsNext v = Contains v.fails (one_more v.calls)

-- how many bytes a call gives into a buffer of this length
abbrev pub taken_count : BytesInView → ℕ → ℕ
taken_count v room = min (min v.step room) (length v.left)

-- after a call that gave n bytes
abbrev pub after_take : BytesInView → ℕ → BytesInView
after_take v n = record v { left = drop n v.left; calls = one_more v.calls }

-- after a call that failed
abbrev pub after_fault : BytesInView → BytesInView
after_fault v = record v { calls = one_more v.calls; faults = one_more v.faults }
