use Rattle.std.proofs.Common.{◌≡◌, ◌+◌, ◌≤◌, take, fold}
use Rattle.dimacs_tokens.specs.Reading.{read_byte}
use Rattle.dimacs_front.specs.MachineText.{eat_token, close_line}
use Rattle.dimacs_front.proofs.text_reader.TextReader.feed.Given as goal

abbrev pub invariant-loop-byte : goal.invariant-loop-byte
invariant-loop-byte l = record {
  steps : l.self ≡ fold (read_byte eat_token close_line) l.initial.self (take l.byte-index l.piece);
  lines : l.self.state.lines ≤ l.initial.self.state.lines + l.byte-index;
}
