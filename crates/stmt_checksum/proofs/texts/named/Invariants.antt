use Rattle.std.proofs.Common.{◌≡◌, drop}
use Rattle.stmt_checksum.specs.Chain.{named}
use Rattle.stmt_checksum.proofs.texts.named.Given as goal

abbrev pub invariant-loop-decl : goal.invariant-loop-decl
invariant-loop-decl l = named (drop l.decl-index l.decls) l.name ≡ named l.decls l.name
