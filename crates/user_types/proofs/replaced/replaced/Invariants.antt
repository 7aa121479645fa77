use Rattle.std.proofs.Common.{◌≡◌, ◌++◌, drop}
use Rattle.user_types.specs.Erased.{replaced_from}
use Rattle.user_types.specs.Views.{stands_by}
use Rattle.user_types.proofs.replaced.replaced.Given as goal

abbrev pub invariant-loop-decl : goal.invariant-loop-decl
invariant-loop-decl l = l.made.items ++ replaced_from (stands_by l.reading) l.table l.users (drop l.decl-index l.decls) ≡ replaced_from (stands_by l.reading) l.table 0 l.decls
