use Rattle.std.proofs.Common.{◌≡◌, ◌++◌, map, drop}
use Rattle.std.specs.List.{flat_map}
use Rattle.logic_core.specs.Variables.{variables}
use Rattle.obligation_text.specs.Numbering.{body}
use Rattle.obligation_text.proofs.numbering.add_bodies.Given as goal

-- what is there, and then what the other bodies mention, is what all mention
abbrev pub invariant-loop-f : goal.invariant-loop-f
invariant-loop-f l = l.mentioned.variables.items ++ flat_map variables (map (body l.defs) (drop l.f-index l.order)) ≡ l.fn.mentioned.variables.items ++ flat_map variables (map (body l.defs) l.order)
