-- Obligations that rename one another have one canonical form.
use Rattle.std.specs.Prelude.{IsTrue}
use Rattle.std.proofs.lemmas.List.Elements.{recursion_from_All}
use Rattle.logic_laws.specs.RenamingLaws.{Covers}
use Rattle.rebuild_laws.specs.CanonicalForms.{RenamedHaveOneForm, RenamedHaveOneFormWithTriggers}
use Rattle.obligation_text.proofs.SameCanonical.{same_canonical}
use Rattle.rebuild_laws.proofs.SameAfterTriggers.{same_after_triggers}

pub one_form : RenamedHaveOneForm
one_form new_def new_var defs? vars? o p apart r =
    same_canonical new_def new_var (λ f. IsTrue (defs? f)) (λ v. IsTrue (vars? v)) apart r.one_to_one o p r.vars
    (λ f h. let d = r.defs f h in record { definition = d.definition; old = d.old; new = d.new; lower = d.calls_lower })
    (recursion_from_All (Covers new_def new_var defs? vars?) o.axioms r.axioms_covered) r.axioms r.goal_covered r.goal

pub one_form_with_triggers : RenamedHaveOneFormWithTriggers
one_form_with_triggers new_def new_var old_def old_var defs? vars? o p back_def back_var r =
    same_after_triggers new_def new_var old_def old_var (λ f. IsTrue (defs? f)) (λ v. IsTrue (vars? v)) back_def back_var o p r.vars
    (λ f h. let d = r.defs f h in record { definition = d.definition; old = d.old; new = d.new; lower = d.calls_lower })
    (recursion_from_All (Covers new_def new_var defs? vars?) o.axioms r.axioms_covered) r.axioms r.goal_covered r.goal
