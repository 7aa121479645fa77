use Rattle.std.proofs.Common.{◌≡◌, map, take}
use Rattle.numbered_facts.specs.Alike.{head_of}
use Rattle.numbered_facts.proofs.heads.heads.Given as goal

abbrev pub invariant-loop-def : goal.invariant-loop-def
invariant-loop-def l = map head_of l.found.items ≡ map head_of (take l.def-index l.defs)
