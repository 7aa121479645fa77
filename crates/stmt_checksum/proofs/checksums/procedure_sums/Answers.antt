use Rattle.std.proofs.Common.{◌≡◌, ◌∙◌, ap, map, subst, arith}
use Rattle.std.specs.Prelude.{IfOk}
use Rattle.std.proofs.lemmas.Grind.{common_steps}
use Rattle.bpl_model.specs.Module.{Module}
use Rattle.vc_build.specs.declared.goal.Goal.{Goal}
use Rattle.vc_build.specs.Goals.{goals_by_passes}
use Rattle.stmt_checksum.specs.Chain.{links, first_sum, chain_lines, goal_sum}
use Rattle.stmt_checksum.proofs.GoalSums.{goal_sums}
use Rattle.stmt_checksum.proofs.checksums.procedure_sums.Goals as goal

pub returns : goal.returns
returns c =
    let m = c.args.module.now in
    let ds = c.args.decls.now in
    let p = c.args.proc.now in
    let same : c.in_ok-leads.leads.links ≡ m = c.in_ok-leads.ensures.links in
    let name : c.as_bytes.result.now ≡ p.name = grind (arith, common_steps) in
    let chain : c.in_ok-chain.chain.items ≡ links m first_sum (chain_lines m ds p.name) = c.in_ok-chain.ensures ∙ (λ i. links (same i) first_sum (chain_lines (same i) ds (name i))) in
    let marks : c.in_ok-marks.marks.items ≡ map (λ (g : Goal). g.mark) (goals_by_passes m p) = c.in_ok-marks.ensures ∙ ap (λ (n : Module). map (λ (g : Goal). g.mark) (goals_by_passes n p)) c.parts.ensures.same in
    subst (λ xs. IfOk c.marked_sums.result (λ v. v.items ≡ xs))
    ((λ i. map (goal_sum (c.deref.ensures.value i)) (c.deref-2.ensures.value i)) ∙ goal_sums m ds p c.in_ok-chain.chain.items c.in_ok-marks.marks.items chain marks) c.marked_sums.ensures
