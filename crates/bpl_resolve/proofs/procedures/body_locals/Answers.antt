use Rattle.std.proofs.Common.{◌≡◌, sym, ap, ◌∙◌, flat_map}
use Rattle.std.proofs.lemmas.Result.{IfOk-weaker}
use Rattle.bpl_ast.specs.ExprView.{each_groups_of}
use Rattle.bpl_scopes.specs.CountsView.{counts_seen}
use Rattle.bpl_scopes.specs.Scopes.{texts_of}
use Rattle.bpl_scopes.specs.declared.part.Part.TheVariants.{ClauseOfLocal as in_clause_of_local}
use Rattle.bpl_faults.specs.ScopeView.{scope_seen}
use Rattle.bpl_declaration_faults.specs.Variables.{names_in_body, local_vars, body_vars, scope_of}
use Rattle.bpl_resolve.specs.Elaborate.{clause_terms, locals_with}
use Rattle.bpl_resolve.specs.Locals.{locals_in}
use Rattle.bpl_resolve.proofs.GroupedLocals.{body_locals_are}
use Rattle.bpl_resolve.proofs.procedures.body_locals.Goals as goal

pub returns : goal.returns
returns c =
    let first : each_groups_of c.deref.result.now ≡ c.args.body.now.locals = ap each_groups_of c.deref.ensures.value ∙ ap (λ b. b.locals) c.body.view_is in
    let second : each_groups_of c.deref-2.result.now ≡ c.args.body.now.locals = ap each_groups_of c.deref-2.ensures.value ∙ ap (λ b. b.locals) c.body.view_is in
    let third : each_groups_of c.deref-3.result.now ≡ c.args.body.now.locals = ap each_groups_of c.deref-3.ensures.value ∙ ap (λ b. b.locals) c.body.view_is in
    let vars : c.in_ok-vars.vars ≡ body_vars c.args.declared.now.environment.now (counts_seen c.args.declared.now.counts) c.args.signature.now c.args.body.now.locals = c.in_ok-vars.ensures ∙ (λ i. body_vars (c.types.ensures i) (counts_seen c.args.declared.now.counts) c.args.signature.now (first i)) in
    let scope : scope_seen c.scope-scope.result ≡ scope_of c.args.declared.now.environment.now (counts_seen c.args.declared.now.counts) in_clause_of_local (body_vars c.args.declared.now.environment.now (counts_seen c.args.declared.now.counts) c.args.signature.now c.args.body.now.locals)
    = c.scope-scope.ensures ∙ ap (scope_of c.args.declared.now.environment.now (counts_seen c.args.declared.now.counts) in_clause_of_local) vars in
    let names : c.in_ok-names.names ≡ texts_of (names_in_body c.args.signature.now c.args.body.now.locals) = c.in_ok-names.ensures ∙ ap (λ w. texts_of (names_in_body c.args.signature.now w)) second in
    IfOk-weaker c.each_locals_in.result (λ v. v.items ≡ flat_map (locals_in (scope_seen c.scope-scope.result) c.in_ok-names.names) (each_groups_of c.deref-3.result.now))
    (λ v. v.items ≡ locals_with (local_vars c.args.declared.now.environment.now (counts_seen c.args.declared.now.counts) c.args.signature.now c.args.body.now.locals) (flat_map (clause_terms (scope_of c.args.declared.now.environment.now (counts_seen c.args.declared.now.counts) in_clause_of_local (body_vars c.args.declared.now.environment.now (counts_seen c.args.declared.now.counts) c.args.signature.now c.args.body.now.locals))) c.args.body.now.locals))
    (λ v made. made ∙ (λ i. flat_map (locals_in (scope i) (names i)) (third i)) ∙ sym (body_locals_are c.args.declared.now.environment.now (counts_seen c.args.declared.now.counts) c.args.signature.now c.args.body.now.locals))
    c.each_locals_in.ensures
