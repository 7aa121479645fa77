use Rattle.std.proofs.Common.{◌≡◌, ◌∙◌, ap, subst}
use Rattle.std.specs.Prelude.{IfOk}
use Rattle.bpl_model.specs.Numbering.{sorts_of}
use Rattle.bpl_model.specs.VariablesView.{variables_of}
use Rattle.bpl_model.specs.Cut.{cut_calls}
use Rattle.bpl_blocks.specs.Blocks.{to_blocks}
use Rattle.loop_cut.specs.Cut.{cut}
use Rattle.passive_form.specs.Incarnations.{passify}
use Rattle.vc_build.proofs.procedure.passive_graph.Goals as goal

pub procedure_graph-requires : goal.procedure_graph-requires
procedure_graph-requires c = record { from = c.args.proc.now; there = c.requires.there; no_goto = c.requires.no_goto; same = c.in_ok-proc.ensures.exact ∙ ap (λ m. cut_calls m c.args.proc.now) c.module.ensures }

pub returns : goal.returns
returns c =
    let m = c.args.links.now in
    let q : c.in_ok-proc.proc ≡ cut_calls m c.args.proc.now = c.in_ok-proc.ensures.exact ∙ ap (λ n. cut_calls n c.args.proc.now) c.module.ensures in
    let graph : c.in_ok-graph.graph ≡ cut (to_blocks m (cut_calls m c.args.proc.now)) = c.in_ok-graph.ensures.exact ∙ ap cut (c.in_ok-procedure_graph.ensures.exact ∙ ap (to_blocks m) q) in
    let sorts : c.as_slice.result.now ≡ sorts_of m (cut_calls m c.args.proc.now) = c.as_slice.ensures ∙ (λ i. (c.in_ok-variables.ensures i).sorts) ∙ (λ i. (variables_of (c.parts.ensures.same i) (q i)).sorts) in
    subst (λ g. IfOk c.passify.result (λ p. p ≡ g)) (λ i. passify (graph i) (sorts i)) c.passify.ensures
