use Rattle.std.proofs.Common.{sym, ap, ◌∙◌, subst}
use Rattle.bpl_model.specs.Typed.{IsTypedModule}
use Rattle.body_revision.specs.Revision.{with_part, IsThere}
use Rattle.body_revision.specs.declared.revised.ModulePart.{ModulePart}
use Rattle.body_revision.proofs.putting.put_revision.Goals as goal

pub put_proc-requires-clause-procs : goal.put_proc-requires-clause-procs
put_proc-requires-clause-procs c = subst (λ (p : ModulePart). IsThere p c.args.typed.now) c.in-Procedure.is c.requires.places.0

pub put_proc-requires-clause-typed : goal.put_proc-requires-clause-typed
put_proc-requires-clause-typed c = subst (λ (p : ModulePart). IsTypedModule (with_part p c.args.revision.decl_at c.args.revision.text c.args.typed.now)) c.in-Procedure.is c.requires.typed

pub returns-in-Procedure-clause-put : goal.returns-in-Procedure-clause-put
returns-in-Procedure-clause-put c = c.put_proc.ensures.put ∙ sym (ap (λ (p : ModulePart). with_part p c.args.revision.decl_at c.args.revision.text c.args.typed.now) c.in-Procedure.is)

pub put_formula-requires-clause-axioms : goal.put_formula-requires-clause-axioms
put_formula-requires-clause-axioms c = subst (λ (p : ModulePart). IsThere p c.args.typed.now) c.in-Axiom.is c.requires.places.0

pub put_formula-requires-clause-typed : goal.put_formula-requires-clause-typed
put_formula-requires-clause-typed c = subst (λ (p : ModulePart). IsTypedModule (with_part p c.args.revision.decl_at c.args.revision.text c.args.typed.now)) c.in-Axiom.is c.requires.typed

pub returns-in-Axiom-clause-put : goal.returns-in-Axiom-clause-put
returns-in-Axiom-clause-put c = c.put_formula.ensures.put ∙ sym (ap (λ (p : ModulePart). with_part p c.args.revision.decl_at c.args.revision.text c.args.typed.now) c.in-Axiom.is)

pub put_body-requires-clause-functions : goal.put_body-requires-clause-functions
put_body-requires-clause-functions c = subst (λ (p : ModulePart). IsThere p c.args.typed.now) c.in-Function.is c.requires.places.0

pub put_body-requires-clause-typed : goal.put_body-requires-clause-typed
put_body-requires-clause-typed c = subst (λ (p : ModulePart). IsTypedModule (with_part p c.args.revision.decl_at c.args.revision.text c.args.typed.now)) c.in-Function.is c.requires.typed

pub returns-in-Function-clause-put : goal.returns-in-Function-clause-put
returns-in-Function-clause-put c = c.put_body.ensures.put ∙ sym (ap (λ (p : ModulePart). with_part p c.args.revision.decl_at c.args.revision.text c.args.typed.now) c.in-Function.is)
