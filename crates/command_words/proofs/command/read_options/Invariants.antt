use Rattle.std.proofs.Common.{◌≡◌, drop, map}
use Rattle.std.specs.Prelude.{string_bytes}
use Rattle.command_words.specs.Commands.{with_words, options_of, HasRanges}
use Rattle.command_words.proofs.command.read_options.Given as goal

abbrev pub invariant-loop-word : goal.invariant-loop-word
invariant-loop-word l = record {
  options : with_words (map string_bytes (drop l.word-index l.words)) l.reading ≡ options_of (map string_bytes l.words);
  ranges : HasRanges l.reading;
}
