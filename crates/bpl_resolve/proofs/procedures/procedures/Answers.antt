use Rattle.std.proofs.Common.{◌≡◌, ◌∙◌, flat_map}
use Rattle.std.proofs.lemmas.Result.{IfOk-weaker}
use Rattle.bpl_ast.specs.Statement.{Decl}
use Rattle.bpl_scopes.specs.CountsView.{counts_seen}
use Rattle.bpl_resolve.specs.Elaborate.{procs_in}
use Rattle.bpl_resolve.specs.Implemented.{bodies_seen, procs_with}
use Rattle.bpl_resolve.proofs.BodiesFound.{procs_are}
use Rattle.bpl_resolve.proofs.procedures.procedures.Goals as goal

pub returns : goal.returns
returns c = IfOk-weaker c.procedures_with.result (λ v. v.items ≡ flat_map (λ (d : Decl). procs_with c.in_ok-implementations.implementations.names (bodies_seen c.in_ok-implementations.implementations.bodies.items) c.args.declared.now.environment.now (counts_seen c.args.declared.now.counts) d.body) c.args.decls.now)
    (λ v. v.items ≡ flat_map (λ (d : Decl). procs_in c.args.decls.now c.args.declared.now.environment.now (counts_seen c.args.declared.now.counts) d.body) c.args.decls.now)
    (λ v made. made ∙ (λ i. flat_map (λ (d : Decl). procs_with (c.in_ok-implementations.ensures.names i) (c.in_ok-implementations.ensures.bodies i) c.args.declared.now.environment.now (counts_seen c.args.declared.now.counts) d.body) c.args.decls.now) ∙ procs_are c.args.decls.now c.args.declared.now.environment.now (counts_seen c.args.declared.now.counts) c.args.decls.now)
    c.procedures_with.ensures
