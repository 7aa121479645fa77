use Rattle.std.proofs.Common.{◌∙◌, ap, true}
use Rattle.clap.specs.Simple.{App, app_of_fields}
use Rattle.clap.specs.declared.builder.command.Command.{Command}
use Rattle.clap.specs.declared.builder.command.Command.TheOpen.{Command-F}
use Rattle.command_words.proofs.command_line.bare_command.Goals as goal

abbrev settings : App → App
settings a = record a { top = record a.top { no_binary_name = true; disable_help_flag = true; disable_version_flag = true } }

pub returns-clause-app : goal.returns-clause-app
returns-clause-app c =
    ap app_of_fields (c.disable_version_flag.ensures
    ∙ ap (λ (f : Command-F Command). record f { disable_version_flag = true }) (c.disable_help_flag.ensures
    ∙ ap (λ (f : Command-F Command). record f { disable_help_flag = true }) c.no_binary_name.ensures))
    ∙ ap settings c.new.ensures.app
