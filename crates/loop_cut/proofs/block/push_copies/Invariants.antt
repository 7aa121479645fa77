use Rattle.std.proofs.Common.{◌≡◌, ◌++◌, take}
use Rattle.loop_cut.proofs.block.push_copies.Given as goal

abbrev pub invariant-loop-command : goal.invariant-loop-command
invariant-loop-command l = l.copies.items ≡ l.fn.copies.items ++ take l.command-index l.commands
