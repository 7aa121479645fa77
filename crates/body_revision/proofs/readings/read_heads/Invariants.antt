use Rattle.std.proofs.Common.{◌≡◌, ◌++◌, drop}
use Rattle.user_types.specs.Views.{stands_by}
use Rattle.body_revision.specs.ReadHeads.{heads_from}
use Rattle.body_revision.proofs.readings.read_heads.Given as goal

abbrev pub invariant-loop-decl : goal.invariant-loop-decl
invariant-loop-decl l = l.made.items ++ heads_from (stands_by l.reading) l.users (drop l.decl-index l.decls) ≡ heads_from (stands_by l.reading) 0 l.decls
