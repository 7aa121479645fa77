use Rattle.std.proofs.Common.{◌≡◌, ◌∙◌, Some, List, ap, subst}
use Rattle.bpl_ast.specs.Statement.{Decl}
use Rattle.bpl_declaration_faults.specs.DeclFaults.{fault_of}
use Rattle.bpl_resolve.specs.FirstFault.{IsFirstFault}
use Rattle.bpl_resolve.specs.FaultView.{fault_seen}
use Rattle.fault_text.specs.WrittenFault.{decl_fault}
use Rattle.program_opening.proofs.SameDecls.{same_faulty}
use Rattle.program_opening.proofs.typing.check_same.Goals as goal

pub returns-in_ok-written_of_program-in-Err-Fault : goal.returns-in_ok-written_of_program-in-Err-Fault
returns-in_ok-written_of_program-in-Err-Fault c =
    let same : c.deref.result.now ≡ c.args.program.now = c.deref.ensures.value ∙ c.program.view_is in
    let first : fault_of c.args.program.now ≡ Some (fault_seen c.in-Err-Fault.fault) = subst (IsFirstFault c.args.program.now) c.in-Err-Fault.field-0-is c.in-Err-Fault.ensures.fault in
    let written = c.in_ok-written_of_program-in-Err-Fault in
    same_faulty c.args.program.now (fault_seen c.in-Err-Fault.fault) written.field-0 c.requires.same first
    (written.ensures ∙ ap (λ (ds : List Decl). decl_fault ds (fault_seen c.in-Err-Fault.fault)) same)
