use Rattle.std.proofs.Common.{◌≡◌, take}
use Rattle.bpl_ast.specs.ExprView.{each_groups_of}
use Rattle.bpl_ast.proofs.copy_exprs.copy_each_groups.Given as goal

abbrev pub invariant-loop-groups : goal.invariant-loop-groups
invariant-loop-groups l = each_groups_of l.copies.items ≡ each_groups_of (take l.groups-index l.each)
