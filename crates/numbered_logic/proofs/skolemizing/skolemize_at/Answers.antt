use Rattle.std.proofs.Common.{◌≡◌, ◌<◌, sym, ap, subst, length, List}
use Rattle.logic_core.specs.Tree.{Tree}
use Rattle.term_bank.specs.Numbered.{Begins}
use Rattle.term_bank.proofs.Numbers.{begins_then}
use Rattle.tableau_branch.specs.Branch.{without}
use Rattle.tableau_branch.specs.Variables.{with_variables}
use Rattle.numbered_branches.specs.Branches.{branch_at, IsBranchOver}
use Rattle.numbered_branches.proofs.Changing.{branch_more}
use Rattle.numbered_logic.proofs.Attempts.{move_fault}
use Rattle.numbered_logic.proofs.Later.{grows_then}
use Rattle.numbered_logic.proofs.Witnesses.{skolemizes_none, skolemizes_at}
use Rattle.numbered_logic.proofs.skolemizing.skolemize_at.Goals as goal

pub widened-requires-clause-branch : goal.widened-requires-clause-branch
widened-requires-clause-branch c = let n = c.args.store.now in let m = c.instance_of.new.store in
    subst (λ ts. IsBranchOver ts c.args.branch) (sym c.terms.ensures) (branch_more n.terms m.terms c.instance_of.ensures.grows.terms c.args.branch c.requires.branch).0

pub adding-requires-clause-branch : goal.adding-requires-clause-branch
adding-requires-clause-branch c = let m = c.instance_of.new.store in
    (branch_more m.terms (c.form_in.new.store).terms c.form_in.ensures.terms c.in_ok-wider.wider (subst (λ ts. IsBranchOver ts c.in_ok-wider.wider) c.terms.ensures c.in_ok-wider.ensures.over)).0

pub returns-in_err-form-clause-terms : goal.returns-in_err-form-clause-terms
returns-in_err-form-clause-terms c = begins_then c.args.store.now.terms (c.instance_of.new.store).terms (c.form_in.new.store).terms c.instance_of.ensures.grows.terms c.form_in.ensures.terms

pub returns-in_err-adding-clause-terms : goal.returns-in_err-adding-clause-terms
returns-in_err-adding-clause-terms c = begins_then c.args.store.now.terms (c.form_in.new.store).terms (c.adding.new.store).terms
    (begins_then c.args.store.now.terms (c.instance_of.new.store).terms (c.form_in.new.store).terms c.instance_of.ensures.grows.terms c.form_in.ensures.terms) c.adding.ensures.grows.terms

pub returns-clause-terms : goal.returns-clause-terms
returns-clause-terms c = begins_then c.args.store.now.terms (c.form_in.new.store).terms (c.adding.new.store).terms
    (begins_then c.args.store.now.terms (c.instance_of.new.store).terms (c.form_in.new.store).terms c.instance_of.ensures.grows.terms c.form_in.ensures.terms) c.adding.ensures.grows.terms

pub returns-clause-grows : goal.returns-clause-grows
returns-clause-grows c = grows_then c.args.store.now (c.form_in.new.store) (c.adding.new.store) (grows_then c.args.store.now (c.instance_of.new.store) (c.form_in.new.store) c.in_ok-instance.ensures.grows c.in_ok-form.ensures.grows) c.in_ok-adding.ensures.grows

pub returns-in_err-form-clause-gives : goal.returns-in_err-form-clause-gives
returns-in_err-form-clause-gives c =
    let n = c.args.store.now in let m = c.instance_of.new.store in let b = c.args.branch in let a = c.args.found in let w = c.in_ok-wider.wider in
    let wide : branch_at m.terms w ≡ with_variables a.sorts.items (without a.at (branch_at m.terms b)) = subst (λ (ts : List Tree). branch_at ts w ≡ with_variables a.sorts.items (without a.at (branch_at ts b))) c.terms.ensures c.in_ok-wider.ensures.is in
    move_fault (c.form_in.new.store).terms c.from_residual-in_err-form.result c.in_err-form.field-0.0 _ c.from_residual-in_err-form.ensures.1
    (λ e. skolemizes_none n m c.in_ok-instance.ensures.grows b c.requires.branch a c.in_ok-instance.instance c.in_ok-instance.ensures.is w wide (c.in_err-form.ensures.gives e))

pub returns-clause-gives : goal.returns-clause-gives
returns-clause-gives c =
    let n = c.args.store.now in let m = c.instance_of.new.store in let b = c.args.branch in let a = c.args.found in let w = c.in_ok-wider.wider in
    let wide : branch_at m.terms w ≡ with_variables a.sorts.items (without a.at (branch_at m.terms b)) = subst (λ (ts : List Tree). branch_at ts w ≡ with_variables a.sorts.items (without a.at (branch_at ts b))) c.terms.ensures c.in_ok-wider.ensures.is in
    skolemizes_at n m c.in_ok-instance.ensures.grows b c.requires.branch a c.in_ok-instance.instance c.in_ok-instance.ensures.is w wide (c.form_in.new.store).terms (c.adding.new.store).terms c.in_ok-form.form c.in_ok-adding.field-0
    c.form_in.ensures.terms (subst (λ ts. IsBranchOver ts w) c.terms.ensures c.in_ok-wider.ensures.over) c.in_ok-form.ensures.gives.1 c.in_ok-adding.ensures.step
