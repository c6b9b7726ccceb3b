-- The options of each command, as `clap` reads them.
use Rattle.std.specs.Prelude.{pos, true, List, Option, Some, codes}
use Rattle.std.specs.Option.{option_and_then}
use Rattle.clap.specs.Walk.{Rule, Text}
use Rattle.clap.specs.Simple.{App, new_app, new_rule, on_top, with_rule}
use Rattle.clap.specs.declared.builder.action.ArgAction.TheVariants.{Set}
use Rattle.clap.specs.declared.builder.value_parser.ValueParser.TheVariants.{Signed, Unsigned}
use Rattle.command_words.specs.declared.command.Command.{Command}
use Rattle.command_words.specs.Commands.{drill_by, enumerate_by, options_of}

-- How many workers there are.
abbrev pub workers_rule : Rule
workers_rule = record (new_rule (codes "workers")) {
  long = Some (codes "workers");
  action = Some Set;
  parser = Some (Signed (pos 1) (pos 16));
}

-- After how many leaves the run stops.
abbrev pub budget_rule : Rule
budget_rule = record (new_rule (codes "budget")) {
  long = Some (codes "budget");
  action = Some Set;
  parser = Some (Unsigned 1 4611686018427387904);
}

-- The size of a drill, which has to be given.
abbrev pub size_rule : Rule
size_rule = record (new_rule (codes "size")) {
  long = Some (codes "size");
  action = Some Set;
  parser = Some (Signed (pos 1) (pos 48));
  required = true;
}

-- A command with no options, not even for help, where each word is one of its own.
abbrev pub bare_app : Text → App
bare_app name = on_top (λ s. record s {
  no_binary_name = true;
  disable_help_flag = true;
  disable_version_flag = true;
}) (new_app name)

-- The options behind `enumerate`.
abbrev pub enumerate_app : App
enumerate_app = with_rule (with_rule (bare_app (codes "enumerate")) workers_rule) budget_rule

-- Behind `check` there are none.
abbrev pub check_app : App
check_app = bare_app (codes "check")

-- The options behind `drill`.
abbrev pub drill_app : App
drill_app = with_rule (with_rule (bare_app (codes "drill")) size_rule) workers_rule

-- The command to enumerate that these words behind its name make.
abbrev pub enumerate_of : List Text → Option Command
enumerate_of words = option_and_then enumerate_by (options_of words)

-- The command to drill.
abbrev pub drill_of : List Text → Option Command
drill_of words = option_and_then drill_by (options_of words)
