use Rattle.std.proofs.Common.{◌≡◌, ◌∙◌, ap, subst}
use Rattle.std.specs.Prelude.{IfOk, Some, slice_get}
use Rattle.bpl_model.specs.Module.{Module}
use Rattle.stmt_checksum.specs.Sums.{sums_of_found}
use Rattle.stmt_checksum.proofs.checksums.sums.Goals as goal

pub returns-in-Some : goal.returns-in-Some
returns-in-Some c =
    let m = c.args.module.now in
    let decls : c.deref.result.now ≡ c.args.program.now = c.deref.ensures.value ∙ c.program.view_is in
    let found : Some c.in-Some.proc.now ≡ slice_get m.procs c.args.p = c.in-Some.ensures ∙ ap (λ (x : Module). slice_get x.procs c.args.p) c.parts.ensures.same in
    subst (λ xs. IfOk c.procedure_sums.result (λ v. v.items ≡ xs)) (λ i. sums_of_found m (decls i) (found i)) c.procedure_sums.ensures
