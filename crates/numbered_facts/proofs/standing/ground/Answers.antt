use Rattle.std.proofs.Common.{◌≡◌, ◌∙◌, sym, subst, ℕ, Vec, [], filter}
use Rattle.std.specs.declared.alloc.Global.{Global}
use Rattle.std.proofs.lemmas.Result.{IfOk-weaker}
use Rattle.logic_core.specs.Subterm.{outside}
use Rattle.logic_rules.specs.Instantiating.{each_once}
use Rattle.tableau_branch.specs.Oriented.{is_application}
use Rattle.term_bank.specs.Numbered.{at}
use Rattle.numbered_terms.specs.Slots.{kept_at}
use Rattle.numbered_facts.specs.Answers.{AreAt}
use Rattle.numbered_facts.proofs.Found.{not_none}
use Rattle.numbered_facts.proofs.standing.ground.Goals as goal

pub returns-in-Some-clause-gives : goal.returns-in-Some-clause-gives
returns-in-Some-clause-gives c = let ts = c.args.terms.now in let whole = each_once [] (filter is_application (outside (at ts c.args.id))) in
    let r = c.stand.ensures.right c.args.id c.in-Some.standing.now (sym c.in-Some.ensures) in
    IfOk-weaker c.copy_numbers.result (λ (v : Vec ℕ Global). v.items ≡ c.deref.result.now) (λ (v : Vec ℕ Global). AreAt ts v.items whole)
    (λ v e. subst (λ is. AreAt ts is whole) (sym (e ∙ c.deref.ensures.value)) r.ground) c.copy_numbers.ensures

pub returns-in-None-clause-gives : goal.returns-in-None-clause-gives
returns-in-None-clause-gives c = absurd (not_none (kept_at c.stand.new.memo.slots.items c.args.id) c.in_ok-stand.ensures.there c.in-None.ensures)
