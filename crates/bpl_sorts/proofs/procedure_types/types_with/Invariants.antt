use Rattle.std.proofs.Common.{◌≡◌, ◌++◌, map, flat_map, drop}
use Rattle.bpl_ast.specs.Statement.{Decl}
use Rattle.bpl_sorts.specs.BodiesFound.{found_under}
use Rattle.bpl_sorts.specs.DeclaredTypes.{proc_types_in}
use Rattle.bpl_sorts.specs.TypesView.{lists_seen, in_one_list}
use Rattle.bpl_sorts.proofs.procedure_types.types_with.Given as goal

abbrev pub invariant-loop-decl : goal.invariant-loop-decl
invariant-loop-decl l = lists_seen l.procs.items ++ flat_map (λ (d : Decl). map in_one_list (proc_types_in l.known (found_under l.implementations) d.body)) (drop l.decl-index l.decls) ≡ flat_map (λ (d : Decl). map in_one_list (proc_types_in l.known (found_under l.implementations) d.body)) l.decls
