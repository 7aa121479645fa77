use Rattle.std.proofs.Common.{◌≡◌, map, take}
use Rattle.logic_core.specs.Renamed.{def_renamed, new_number}
use Rattle.obligation_text.proofs.canonical.renamed_defs.Given as goal

-- the definitions so far
abbrev pub invariant-loop-def : goal.invariant-loop-def
invariant-loop-def l = l.renamed.items ≡ map (def_renamed (new_number l.definitions) (new_number l.variables)) (take l.def-index l.defs)
