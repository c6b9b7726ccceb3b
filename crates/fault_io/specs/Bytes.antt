-- What a reader took from a source and a writer put into a sink, where these tell their bytes.
-- `Consumes old new bytes`: the bytes were taken from the front. `Appends old new bytes`: they were
-- added at the end. `Keeps old new`: none moved. `IsAtEnd left`: none is left.
use Rattle.std.specs.Prelude.{ℕ, ◌<◌, ◌≤◌, List, length}
pub use Rattle.std.specs.Io.KnownBytes.{Consumes, IsAtEnd, Appends, Keeps}

-- n bytes are some of the piece: none only where it has none
pub record IsShareOf (n : ℕ) (piece : List ℕ) : Type 0 where
  pub no_more : n ≤ length piece
  pub some : 0 < length piece → 0 < n
