use Rattle.std.proofs.Common.{◌≡◌, ◌++◌, map, take}
use Rattle.block_wp.specs.Equations.{block_definition, body_of}
use Rattle.block_wp.proofs.goal.definitions.Given as goal

abbrev pub invariant-loop-number : goal.invariant-loop-number
invariant-loop-number l = l.all.items ≡ l.defs ++ map (λ b. block_definition (body_of l.passive l.reached.given l.reached.blocks l.reached.last l.at b)) (take l.number-index l.reached.blocks)
