use Rattle.std.proofs.Common.{◌∙◌, sym, ap}
use Rattle.std.specs.List.{list_any}
use Rattle.logic_core.specs.Subterm.{has}
use Rattle.flow_core.specs.Reading.{read_by, is_unset}
use Rattle.flow_core.proofs.Lists.{list_any-map}
use Rattle.flow_core.proofs.command.Command.reads_unset.Goals as goal

pub returns-in-Assign : goal.returns-in-Assign
returns-in-Assign c =
    c.any_value_mentions_unset.ensures ∙ ap (list_any (λ p. has (is_unset c.args.own c.args.before.now) p.1)) c.as_slice.ensures
    ∙ sym (list_any-map (has (is_unset c.args.own c.args.before.now)) (λ p. p.1) c.in-Assign.pairs) ∙ ap (λ k. list_any (has (is_unset c.args.own c.args.before.now)) (read_by k)) (sym c.in-Assign.is)
