use Rattle.std.proofs.Common.{◌≡◌, drop}
use Rattle.bv_base.specs.Text.{is_among}
use Rattle.program_edits.specs.Edited.{names}
use Rattle.program_edits.proofs.replaced.is_named.Given as goal

abbrev pub invariant-loop-decl : goal.invariant-loop-decl
invariant-loop-decl l = is_among (names (drop l.decl-index l.decls)) l.name ≡ is_among (names l.decls) l.name
