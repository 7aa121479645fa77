use Rattle.std.proofs.Common.{◌≡◌, ap, [], List}
use Rattle.std.proofs.lemmas.Result.{IfOk-weaker}
use mathlib.Core.Path.{sym, subst, ◌∙◌}
use Rattle.std.specs.Prelude.{◌↔◌}
use Rattle.logic_core.specs.Value.{Value}
use Rattle.logic_core.specs.Meaning.{With}
use Rattle.logic_core.specs.Valid.{calls_of}
use Rattle.logic_core.specs.Sorts.{sort_of}
use Rattle.quantifier_triggers.specs.Choice.{with_triggers}
use Rattle.quantifier_triggers.proofs.SameSort.{same_sort}
use Rattle.quantifier_triggers.proofs.SameValidity.{keeps_values}
use Rattle.quantifier_triggers.proofs.term.with_triggers.Goals as goal

pub returns-clause-sort : goal.returns-clause-sort
returns-clause-sort c =
    let sig = c.args.sig.now in let t = c.args.term.now in
    IfOk-weaker c.choose.result (λ u. u ≡ with_triggers c.defs.result.now t) (λ u. sort_of sig.vars sig.defs [] u ≡ sort_of sig.vars sig.defs [] t)
    (λ u e. ap (sort_of sig.vars sig.defs []) (e ∙ ap (λ ds. with_triggers ds t) c.defs.ensures) ∙ same_sort sig.vars sig.defs sig.defs t []) c.choose.ensures

pub returns-clause-value : goal.returns-clause-value
returns-clause-value c =
    let sig = c.args.sig.now in let t = c.args.term.now in
    IfOk-weaker c.choose.result (λ u. u ≡ with_triggers c.defs.result.now t)
    (λ u. (frees : List Value) (w : Value) → With frees (calls_of frees sig.defs) t [] (λ v. v ≡ w) ↔ With frees (calls_of frees sig.defs) u [] (λ v. v ≡ w))
    (λ u e frees w. subst (λ x. With frees (calls_of frees sig.defs) t [] (λ v. v ≡ w) ↔ With frees (calls_of frees sig.defs) x [] (λ v. v ≡ w)) (sym (e ∙ ap (λ ds. with_triggers ds t) c.defs.ensures)) (keeps_values sig.defs t frees w)) c.choose.ensures
