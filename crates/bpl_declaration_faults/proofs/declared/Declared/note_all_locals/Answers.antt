use Rattle.std.proofs.Common.{◌≡◌, ◌++◌, ap, subst, ◌∙◌, flat_map, OnOk}
use Rattle.bpl_ast.specs.ExprView.{each_groups_of}
use Rattle.bpl_ast.specs.Tree.{Groups}
use Rattle.bpl_scopes.specs.CountsView.{counts_seen}
use Rattle.bpl_scopes.specs.Fault.{earlier, first_fault}
use Rattle.bpl_scopes.specs.TypeFaults.{group_type_faults}
use Rattle.bpl_scopes.specs.declared.part.Part.TheVariants.{ClauseOfLocal as in_clause_of_local}
use Rattle.bpl_faults.specs.ExprFaults.{group_clause_faults}
use Rattle.bpl_declaration_faults.specs.Variables.{body_vars, scope_of}
use Rattle.bpl_declaration_faults.proofs.declared.Declared.note_all_locals.Goals as goal

pub returns : goal.returns
returns c =
    let C = counts_seen c.args.self.now.counts in
    let T = c.args.self.now.environment.now in
    let L = each_groups_of c.args.locals.now in
    let vars = c.in_ok-vars.ensures ∙ ap (λ t. body_vars t C c.args.signature.now L) c.types.ensures in
    subst (λ fs. OnOk c.note_locals.result (c.note_locals.new.faults.first ≡ earlier c.args.faults.now.first (first_fault fs)))
    (λ i. flat_map (λ (gs : Groups). group_type_faults T (c.in_ok-names.ensures i) gs ++ group_clause_faults (scope_of T C in_clause_of_local (vars i)) gs) L) c.note_locals.ensures
