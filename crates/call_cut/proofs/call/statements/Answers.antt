use Rattle.std.proofs.Common.{◌++◌, [], ◌∷◌, List, map, ap, ◌∙◌}
use Rattle.std.specs.Prelude.{zip}
use Rattle.logic_core.specs.Tree.{free}
use Rattle.bpl_model.specs.Module.{Stmt, assign, havoc, Proc}
use Rattle.call_cut.proofs.Pieces.{contract_made}
use Rattle.call_cut.proofs.call.statements.Goals as goal

pub returns : goal.returns
returns c =
    let at = c.args.at in
    let a = c.in_ok-give_arguments.field-0 in
    contract_made c.args.parts.now c.args.callee.now c.args.n c.requires.typed c.args.table.now c.args.changed.now c.requires.called c.requires.may
    at c.args.arguments.now c.args.vars.now c.in_ok-results.results.items c.in_ok-results.ensures
    a c.in_ok-keep_globals.field-0 c.in_ok-havoc_both.field-0 c.in_ok-take_results.field-0
    c.push.new.self.items c.push_checks.new.stmts.items c.push-2.new.self.items c.push-3.new.self.items c.push_postconditions.new.stmts.items c.push-4.new.self.items
    c.deref.result.now c.deref-3.result.now
    (c.deref.ensures.value ∙ ap (λ (r : Proc). r.specs) c.callee.view_is) (c.deref-3.ensures.value ∙ ap (λ (r : Proc). r.specs) c.callee.view_is)
    c.in_ok-give_arguments.ensures c.in_ok-keep_globals.ensures
    (c.in_ok-havoc_both.ensures ∙ (λ i. havoc at (c.args.changed.now ++ c.deref-2.ensures.value i)))
    (c.in_ok-take_results.ensures ∙ (λ i. assign at (zip c.args.vars.now (map free (c.deref-4.ensures.value i)))))
    (c.in_ok-push.ensures.items ∙ ap (λ (s : List Stmt). s ++ a ∷ []) c.new-stmts.ensures.items) c.in_ok-push_checks.ensures c.in_ok-push-2.ensures.items c.in_ok-push-3.ensures.items c.in_ok-push_postconditions.ensures c.in_ok-push-4.ensures.items
