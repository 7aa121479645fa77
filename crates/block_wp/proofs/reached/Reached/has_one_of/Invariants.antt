use Rattle.std.proofs.Common.{◌≡◌, is_some, drop}
use Rattle.std.specs.List.{list_any}
use Rattle.block_wp.specs.Numbers.{number_in}
use Rattle.block_wp.proofs.reached.Reached.has_one_of.Given as goal

-- none of those before has one
abbrev pub invariant-loop-block : goal.invariant-loop-block
invariant-loop-block l = list_any (λ c. is_some (number_in l.self c)) (drop l.block-index l.blocks) ≡ list_any (λ c. is_some (number_in l.self c)) l.blocks
