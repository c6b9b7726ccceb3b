use Rattle.std.proofs.Common.{ap₂, ◌∙◌, ap, map}
use Rattle.std.specs.Prelude.{string_bytes}
use Rattle.clap.specs.Words.{takes}
use Rattle.command_words.proofs.Takings.{check_takes}
use Rattle.command_words.proofs.parsing.parse_check.Goals as goal

pub parse-requires : goal.parse-requires
parse-requires c = ap₂ takes c.check_options.ensures (ap (map string_bytes) c.requires) ∙ check_takes
