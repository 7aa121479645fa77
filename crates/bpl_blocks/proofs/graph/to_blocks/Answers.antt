use Rattle.std.proofs.Common.{◌≡◌, sym, subst}
use Rattle.std.specs.Prelude.{IfOk}
use Rattle.bpl_model.specs.Module.{Module}
use Rattle.bpl_blocks.specs.Blocks.{to_blocks}
use Rattle.bpl_blocks.specs.Kept.{HasCallsReplaced, KeepsFailures}
use Rattle.bpl_blocks.proofs.graph.to_blocks.Goals as goal

pub procedure_graph-requires : goal.procedure_graph-requires
procedure_graph-requires c = subst (λ (m : Module). HasCallsReplaced m c.args.p.now) (sym c.in_ok-links.ensures) c.requires

pub returns-clause-exact : goal.returns-clause-exact
returns-clause-exact c = subst (λ (m : Module). IfOk c.procedure_graph.result (λ g. g ≡ to_blocks m c.args.p.now)) c.in_ok-links.ensures c.procedure_graph.ensures.exact

pub returns-clause-kept : goal.returns-clause-kept
returns-clause-kept c = subst (λ (m : Module). IfOk c.procedure_graph.result (λ g. KeepsFailures m c.args.p.now g)) c.in_ok-links.ensures c.procedure_graph.ensures.kept
