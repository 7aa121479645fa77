-- The command line as one simple command of clap: a positional that must stand and four options with a value each, no
-- flags for help and version.
use Rattle.std.specs.Prelude.{ℕ, List, Some, true, codes}
use Rattle.clap.specs.Words.{App, Rule, new_app, new_rule, with_rule}
use Rattle.clap.specs.Simple.{on_top}
use Rattle.clap.specs.declared.builder.ArgAction.TheVariants.{Set}

abbrev pub mode_rule : Rule
mode_rule = record (new_rule (codes "mode")) { required = true; action = Some Set }

abbrev pub option_rule : List ℕ → Rule
option_rule name = record (new_rule name) { long = Some name; action = Some Set }

-- the words after the program's name are all the words
abbrev pub bare_command : App
bare_command = on_top (λ s. record s { no_binary_name = true; disable_help_flag = true; disable_version_flag = true }) (new_app (codes "bplserve"))

abbrev pub the_command : App
the_command =
    with_rule (with_rule (with_rule (with_rule (with_rule bare_command mode_rule)
    (option_rule (codes "turns"))) (option_rule (codes "workers"))) (option_rule (codes "seed"))) (option_rule (codes "size"))
