use Rattle.std.proofs.Common.{◌≡◌, ◌++◌, drop}
use Rattle.loop_cut.specs.Cut.{cut_from}
use Rattle.loop_cut.proofs.graph.cut_blocks.Given as goal

-- the blocks so far, and then those that are ahead
abbrev pub invariant-loop-b : goal.invariant-loop-b
invariant-loop-b l = l.cuts.items ++ cut_from l.blocks l.b (drop l.b l.blocks) ≡ cut_from l.blocks 0 l.blocks
