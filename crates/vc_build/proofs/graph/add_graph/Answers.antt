use Rattle.std.proofs.Common.{◌∙◌, ◌<◌, ◌+◌, ◌++◌, length, arith, ap, sym}
use Rattle.passive_form.specs.Passive.{passive_block_at}
use Rattle.vc_build.specs.Goals.{goals_in, goals_of_graph}
use Rattle.vc_build.specs.Exceeds.{IsFaultOf}
use Rattle.vc_build.proofs.Limits.{fault_before, at_exit}
use Rattle.vc_build.proofs.GoalsInOrder.{goals_from, blocks_next, moved_on}
use Rattle.vc_build.proofs.graph.add_graph.Goals as goal

pub returns-in_err-add_block-clause-fault : goal.returns-in_err-add_block-clause-fault
returns-in_err-add_block-clause-fault c =
    let g = c.args.passive.now in
    let defs = c.args.defs.now in
    let axioms = c.args.axioms.now in
    let k = c.loop-block.block in
    let all = c.args.tally.now ++ goals_of_graph g defs axioms in
    let fault = c.in_err-add_block.field-0.0 in
    let below : k < length g.blocks = let end = c.len-block-end.ensures in omega (arith, c.loop-block-test.true, end) in
    at_exit (IsFaultOf all) c.from_residual.result fault c.from_residual.ensures.1
    (fault_before c.loop-block.tally (goals_in g defs axioms k 0 (passive_block_at g.blocks k).commands) (goals_from g defs axioms (k + 1)) all fault
    (ap (λ gs. c.loop-block.tally ++ gs) (sym (blocks_next g defs axioms k below)) ∙ c.loop-block.invariant) c.in_err-add_block.ensures.fault)

pub loop-block-preserved : goal.loop-block-preserved
loop-block-preserved c =
    let g = c.args.passive.now in
    let defs = c.args.defs.now in
    let axioms = c.args.axioms.now in
    let k = c.loop-block.block in
    let below : k < length g.blocks = let end = c.len-block-end.ensures in omega (arith, c.loop-block-test.true, end) in
    moved_on c.loop-block.tally (goals_in g defs axioms k 0 (passive_block_at g.blocks k).commands) (goals_from g defs axioms (k + 1)) (c.args.tally.now ++ goals_of_graph g defs axioms) c.add_block.new.tally
    c.in_ok-add_block.ensures.added (ap (λ gs. c.loop-block.tally ++ gs) (sym (blocks_next g defs axioms k below)) ∙ c.loop-block.invariant)
