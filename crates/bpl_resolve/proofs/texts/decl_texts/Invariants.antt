use Rattle.std.proofs.Common.{◌≡◌, take, map, length}
use Rattle.bpl_resolve.specs.Elaborate.{decl_text}
use Rattle.bpl_resolve.proofs.texts.decl_texts.Given as goal

abbrev pub invariant-loop-decl : goal.invariant-loop-decl
invariant-loop-decl l = l.texts.items ≡ map (decl_text l.table (length l.decls)) (take l.decl-index l.decls)
