use Rattle.std.proofs.Common.{◌≡◌, ap, subst, ◌∙◌, flat_map, OnOk}
use Rattle.bpl_scopes.specs.CountsView.{counts_seen}
use Rattle.bpl_scopes.specs.Fault.{earlier, first_fault}
use Rattle.bpl_declaration_faults.specs.DeclFaults.{clause_faults_in}
use Rattle.bpl_declaration_faults.specs.Variables.{parameters}
use Rattle.bpl_declaration_faults.proofs.declared.Declared.note_specs.Goals as goal

pub returns : goal.returns
returns c =
    let C = counts_seen c.args.self.now.counts in
    let T = c.args.self.now.environment.now in
    let vars = c.in_ok-vars.ensures ∙ ap (λ t. parameters t C c.args.signature.now) c.types.ensures in
    subst (λ fs. OnOk c.note_each_spec.result (c.note_each_spec.new.faults.first ≡ earlier c.args.faults.now.first (first_fault fs)))
    (λ i. flat_map (clause_faults_in T C (vars i) (c.in_ok-hidden.ensures i)) c.args.clauses.now) c.note_each_spec.ensures
