use Rattle.std.proofs.Common.{◌≡◌, ◌-◌, [], length}
use Rattle.std.specs.List.{range_with_len}
use Rattle.passive_form.specs.Incarnations.{first_incarnations, numbers, do_blocks}
use Rattle.passive_form.proofs.blocks.do_blocks.Given as goal

-- with the blocks that are left comes what all make
abbrev pub invariant-loop-number : goal.invariant-loop-number
invariant-loop-number l = do_blocks l.graph l.first l.sorts l.blocks.items (range_with_len l.number (length l.graph.blocks - l.number)) ≡ do_blocks l.graph (first_incarnations l.graph l.vars) l.vars [] (numbers l.graph.blocks)
