use Rattle.std.proofs.Common.{ℕ, Some, map, sym, subst, ap, ◌∙◌}
use Rattle.std.specs.Prelude.{string_bytes}
use Rattle.std.specs.Str.Parse.{ParsesUnsigned, ExplainsUnsignedError, HasUnsignedDigitsIfOk}
use Rattle.clap.specs.Words.{App, HasMatchesOf, takes}
use Rattle.command_words.specs.declared.command.Command.{Command}
use Rattle.command_words.specs.declared.command.Command.TheVariants.{Enumerate}
use Rattle.command_words.specs.Commands.{IsInRange}
use Rattle.command_words.specs.Options.{enumerate_of}
use Rattle.command_words.proofs.Takings.{enumerate_says, enumerate_takes, some_of}
use Rattle.command_words.proofs.parsing.parse_enumerate.Goals as goal

pub parse-requires : goal.parse-requires
parse-requires c =
    let words = map string_bytes c.args.words.now in
    let made = some_of (enumerate_of words) c.requires in
    ap (λ (a : App). takes a words) c.in_ok-command.ensures ∙ enumerate_takes words made.0 made.1

pub returns : goal.returns
returns c =
    let words = map string_bytes c.args.words.now in
    let made = some_of (enumerate_of words) c.requires in
    let matches = subst (λ (a : App). HasMatchesOf a words c.in_ok-matches.matches) c.in_ok-command.ensures c.in_ok-matches.ensures.matches in
    let workers = c.get_one-workers in
    let budget = c.get_one-budget in
    let said = enumerate_says
    (λ bs r. ParsesUnsigned 32 10 bs r × ExplainsUnsignedError 10 bs r × HasUnsignedDigitsIfOk bs r)
    (λ bs r. ParsesUnsigned 64 10 bs r × ExplainsUnsignedError 10 bs r × HasUnsignedDigitsIfOk bs r)
    (λ u x g. g.0) (λ u x g. g.0) words made.0 made.1 c.in_ok-matches.matches matches
    workers.result budget.result (workers.ensures.none, workers.ensures.value) (budget.ensures.none, budget.ensures.value) in
    let number : ℕ → Command = λ n. Enumerate n budget.result in
    record {
      command = said.0 ∙ ap (λ n. Some (number n)) (sym c.unwrap_or.ensures);
      ranges = subst (λ n. IsInRange (number n)) (sym c.unwrap_or.ensures) said.1;
      fault = tt;
    }
