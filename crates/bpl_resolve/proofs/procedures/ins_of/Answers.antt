use Rattle.std.proofs.Common.{◌≡◌, sym, ap, ◌∙◌}
use Rattle.std.proofs.lemmas.Result.{IfOk-weaker}
use Rattle.bpl_ast.specs.ExprView.{groups_of}
use Rattle.bpl_scopes.specs.CountsView.{counts_seen}
use Rattle.bpl_scopes.specs.declared.part.Part.TheVariants.{ClauseOfIn as in_clause_of_in}
use Rattle.bpl_faults.specs.ScopeView.{scope_seen}
use Rattle.bpl_declaration_faults.specs.Variables.{in_vars, parameters, scope_of}
use Rattle.bpl_resolve.specs.Elaborate.{clause_terms, locals_with}
use Rattle.bpl_resolve.specs.Locals.{locals_in}
use Rattle.bpl_resolve.proofs.GroupedLocals.{ins_are}
use Rattle.bpl_resolve.proofs.procedures.ins_of.Goals as goal

pub returns : goal.returns
returns c =
    let groups : groups_of c.deref.result.now ≡ c.args.signature.now.ins = cc in
    let scope : scope_seen c.scope-scope.result ≡ scope_of c.args.declared.now.environment.now (counts_seen c.args.declared.now.counts) in_clause_of_in (parameters c.args.declared.now.environment.now (counts_seen c.args.declared.now.counts) c.args.signature.now)
    = c.scope-scope.ensures ∙ ap (scope_of c.args.declared.now.environment.now (counts_seen c.args.declared.now.counts) in_clause_of_in) c.requires.vars in
    IfOk-weaker c.locals_in.result (λ v. v.items ≡ locals_in (scope_seen c.scope-scope.result) c.in_ok-names.names (groups_of c.deref.result.now))
    (λ v. v.items ≡ locals_with (in_vars c.args.declared.now.environment.now (counts_seen c.args.declared.now.counts) c.args.signature.now) (clause_terms (scope_of c.args.declared.now.environment.now (counts_seen c.args.declared.now.counts) in_clause_of_in (parameters c.args.declared.now.environment.now (counts_seen c.args.declared.now.counts) c.args.signature.now)) c.args.signature.now.ins))
    (λ v made. made ∙ (λ i. locals_in (scope i) (c.in_ok-names.ensures i) (groups i)) ∙ sym (ins_are c.args.declared.now.environment.now (counts_seen c.args.declared.now.counts) c.args.signature.now))
    c.locals_in.ensures
