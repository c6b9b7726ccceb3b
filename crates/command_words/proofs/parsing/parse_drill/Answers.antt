use Rattle.std.proofs.Common.{◌≡◌, ℕ, Some, map, sym, subst, ap, ap₂, ◌∙◌}
use Rattle.std.specs.Prelude.{string_bytes, unwrap_or}
use Rattle.std.specs.Str.Parse.{ParsesUnsigned, ExplainsUnsignedError, HasUnsignedDigitsIfOk}
use Rattle.clap.specs.Words.{App, HasMatchesOf, takes}
use Rattle.command_words.specs.declared.command.Command.{Command}
use Rattle.command_words.specs.declared.command.Command.TheVariants.{Drill}
use Rattle.command_words.specs.Commands.{IsInRange}
use Rattle.command_words.specs.Options.{drill_of}
use Rattle.command_words.proofs.Uses.{some_same}
use Rattle.command_words.proofs.Takings.{drill_says, drill_takes, some_of}
use Rattle.command_words.proofs.parsing.parse_drill.Goals as goal

pub parse-requires : goal.parse-requires
parse-requires c =
    let words = map string_bytes c.args.words.now in
    let made = some_of (drill_of words) c.requires in
    ap (λ (a : App). takes a words) c.in_ok-command.ensures ∙ drill_takes words made.0 made.1

pub unreachable-requires : goal.unreachable-requires
unreachable-requires c =
    let words = map string_bytes c.args.words.now in
    let made = some_of (drill_of words) c.requires in
    let matches = subst (λ (a : App). HasMatchesOf a words c.in_ok-matches.matches) c.in_ok-command.ensures c.in_ok-matches.ensures.matches in
    let workers = c.get_one-workers in
    let size = c.get_one in
    let said = drill_says
    (λ bs r. ParsesUnsigned 32 10 bs r × ExplainsUnsignedError 10 bs r × HasUnsignedDigitsIfOk bs r)
    (λ u x g. g.0) words made.0 made.1 c.in_ok-matches.matches matches
    size.result workers.result (size.ensures.none, size.ensures.value) (workers.ensures.none, workers.ensures.value) in
    c.in_default.not-Some said.0 said.1

pub returns : goal.returns
returns c =
    let words = map string_bytes c.args.words.now in
    let made = some_of (drill_of words) c.requires in
    let matches = subst (λ (a : App). HasMatchesOf a words c.in_ok-matches.matches) c.in_ok-command.ensures c.in_ok-matches.ensures.matches in
    let workers = c.get_one-workers in
    let size = c.get_one in
    let said = drill_says
    (λ bs r. ParsesUnsigned 32 10 bs r × ExplainsUnsignedError 10 bs r × HasUnsignedDigitsIfOk bs r)
    (λ u x g. g.0) words made.0 made.1 c.in_ok-matches.matches matches
    size.result workers.result (size.ensures.none, size.ensures.value) (workers.ensures.none, workers.ensures.value) in
    let same : said.0 ≡ c.in-Some.size = some_same (sym said.1 ∙ c.in-Some.is) in
    let drilled : ℕ → ℕ → Command = λ z n. Drill z n in
    let both : drilled said.0 (unwrap_or workers.result 1) ≡ drilled c.in-Some.size c.unwrap_or.result = ap₂ drilled same (sym c.unwrap_or.ensures) in
    record {
      command = said.2 ∙ ap (λ x. Some x) both;
      ranges = subst IsInRange both said.3;
      fault = tt;
    }
