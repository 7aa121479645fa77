use Rattle.std.proofs.Common.{◌∙◌, ap₂, rules}
use Rattle.clap.specs.Words.{with_rule}
use Rattle.command_words.proofs.command_line.the_command.Goals as goal

pub returns : goal.returns
returns c =
    c.in_ok-command.ensures.shape (search rules) ∙ ap₂ with_rule
    (c.in_ok-arg-4.ensures.shape (search rules) ∙ ap₂ with_rule
    (c.in_ok-arg-3.ensures.shape (search rules) ∙ ap₂ with_rule
    (c.in_ok-arg-2.ensures.shape (search rules) ∙ ap₂ with_rule
    (c.in_ok-arg.ensures.shape (search rules) ∙ ap₂ with_rule c.bare_command.ensures.app c.mode_arg.ensures.rule)
    c.option_arg.ensures.rule) c.option_arg-2.ensures.rule) c.option_arg-3.ensures.rule) c.option_arg-4.ensures.rule
