use Rattle.std.proofs.Common.{◌==◌, ◌∙◌, sym, ap}
use Rattle.std.specs.List.{list_any}
use Rattle.flow_core.specs.Graph.{set_by}
use Rattle.flow_core.proofs.Lists.{list_any-map}
use Rattle.flow_core.proofs.command.Command.sets.Goals as goal

pub returns-in-Assign : goal.returns-in-Assign
returns-in-Assign c =
    c.any_is_of.ensures ∙ ap (list_any (λ p. p.0 == c.args.var)) c.as_slice.ensures ∙ sym (list_any-map (λ x. x == c.args.var) (λ p. p.0) c.in-Assign.pairs)
    ∙ ap (λ k. list_any (λ x. x == c.args.var) (set_by k)) (sym c.in-Assign.is)
