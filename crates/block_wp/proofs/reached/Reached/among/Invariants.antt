use Rattle.std.proofs.Common.{◌≡◌, is_some, filter, take}
use Rattle.block_wp.specs.Numbers.{number_in}
use Rattle.block_wp.proofs.reached.Reached.among.Given as goal

abbrev pub invariant-loop-block : goal.invariant-loop-block
invariant-loop-block l = l.those.items ≡ filter (λ c. is_some (number_in l.self c)) (take l.block-index l.blocks)
