use Rattle.std.proofs.Common.{◌≡◌, drop, reverse}
use Rattle.bpl_blocks.specs.Blocks.{behind_break}
use Rattle.bpl_blocks.proofs.scope.Scopes.behind_break.Given as goal

-- the scopes inside are left by another break
abbrev pub invariant-loop-i : goal.invariant-loop-i
invariant-loop-i l = behind_break (drop l.i (reverse l.self-inside.outermost_first.items)) l.label ≡ behind_break (reverse l.self-inside.outermost_first.items) l.label
