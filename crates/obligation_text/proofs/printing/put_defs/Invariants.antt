use Rattle.std.proofs.Common.{◌≡◌, ◌++◌, drop}
use Rattle.obligation_text.specs.Text.{defs_text}
use Rattle.obligation_text.proofs.printing.put_defs.Given as goal

-- what is written, and then the rest, is all
abbrev pub invariant-loop-i : goal.invariant-loop-i
invariant-loop-i l = l.out.items ++ defs_text l.i (drop l.i l.defs) ≡ l.fn.out.items ++ defs_text 0 l.defs
