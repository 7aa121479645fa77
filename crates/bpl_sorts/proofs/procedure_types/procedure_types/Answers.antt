use Rattle.std.proofs.Common.{◌≡◌, ◌∙◌, map, flat_map}
use Rattle.std.proofs.lemmas.Result.{IfOk-weaker}
use Rattle.bpl_ast.specs.Statement.{Decl}
use Rattle.bpl_resolve.specs.Elaborate.{implementation_of}
use Rattle.bpl_sorts.specs.BodiesFound.{found_under}
use Rattle.bpl_sorts.specs.DeclaredTypes.{proc_types_in}
use Rattle.bpl_sorts.specs.TypesView.{lists_seen, in_one_list}
use Rattle.bpl_sorts.proofs.ProcedureLists.{procs_listed}
use Rattle.bpl_sorts.proofs.procedure_types.procedure_types.Goals as goal

pub returns : goal.returns
returns c = IfOk-weaker c.types_with.result (λ v. lists_seen v.items ≡ flat_map (λ (d : Decl). map in_one_list (proc_types_in c.args.known.now (found_under c.in_ok-implementations.implementations) d.body)) c.args.decls.now)
    (λ v. lists_seen v.items ≡ map in_one_list (flat_map (λ (d : Decl). proc_types_in c.args.known.now (implementation_of c.args.decls.now) d.body) c.args.decls.now))
    (λ v made. made ∙ procs_listed c.args.known.now c.args.decls.now c.in_ok-implementations.implementations c.in_ok-implementations.ensures.names c.in_ok-implementations.ensures.bodies)
    c.types_with.ensures
