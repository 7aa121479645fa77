use Rattle.std.proofs.Common.{◌∙◌, ap, sym, subst, List, length}
use Rattle.tableau_branch.specs.Change.{appended_two, added, Made}
use Rattle.term_bank.specs.Numbered.{at}
use Rattle.numbered_branches.specs.Branches.{made_at, IsFactBelow, IsMadeOver}
use Rattle.logic_core.specs.Tree.{Tree}
use Rattle.numbered_theory.proofs.FormsPassed.{added_vars}
use Rattle.numbered_theory.proofs.past.begin_pass.Goals as goal

pub returns-clause-made : goal.returns-clause-made
returns-clause-made c =
    let n = c.args.store.now in
    let l = at n.terms c.args.linear in let e = at n.terms c.args.equation in
    let more = rw c.terms.ensures at c.in_ok-add.ensures in
    (more.0, more.1 ∙ (λ k. added (c.in_ok-facts.ensures.first.1 k) (c.in_ok-facts.ensures.made.1 k)) ∙ ap (λ m. let p = appended_two l e (made_at n.terms m) in added p.0 p.2) c.begun-made.ensures)

pub append_two-requires-clause-first : goal.append_two-requires-clause-first
append_two-requires-clause-first c = c.requires.linear

pub append_two-requires-clause-second : goal.append_two-requires-clause-second
append_two-requires-clause-second c = c.requires.equation

pub append_two-requires-clause-made : goal.append_two-requires-clause-made
append_two-requires-clause-made c = subst (IsMadeOver c.args.store.now.terms) (sym c.begun-made.ensures) (record { branch = c.requires.branch; steps = tt })

pub add-requires-clause-fact : goal.add-requires-clause-fact
add-requires-clause-fact c = subst (λ (ts : List Tree). IsFactBelow (length ts) c.in_ok-facts.facts.0) (sym c.terms.ensures) c.in_ok-facts.ensures.first.0

pub add-requires-clause-made : goal.add-requires-clause-made
add-requires-clause-made c = subst (λ (ts : List Tree). IsMadeOver ts c.append_two.new.made) (sym c.terms.ensures) c.in_ok-facts.ensures.made.0

pub returns-in_err-facts-clause-grows : goal.returns-in_err-facts-clause-grows
returns-in_err-facts-clause-grows c = c.append_two.ensures.grows

pub returns-in_err-add-clause-grows : goal.returns-in_err-add-clause-grows
returns-in_err-add-clause-grows c = c.in_ok-facts.ensures.grows

pub returns-clause-grows : goal.returns-clause-grows
returns-clause-grows c = c.in_ok-facts.ensures.grows

pub returns-clause-equation : goal.returns-clause-equation
returns-clause-equation c = let n = c.args.store.now in let l = at n.terms c.args.linear in let e = at n.terms c.args.equation in (c.in_ok-facts.ensures.second.0, c.in_ok-facts.ensures.second.1 ∙ ap (λ m. (appended_two l e (made_at n.terms m)).1) c.begun-made.ensures)

pub returns-clause-vars : goal.returns-clause-vars
returns-clause-vars c = let n = c.args.store.now in let l = at n.terms c.args.linear in let e = at n.terms c.args.equation in let more = rw c.terms.ensures at c.in_ok-add.ensures in let p = appended_two l e (made_at n.terms c.begun-made.result) in ap (λ (m : Made). m.branch.vars) (more.1 ∙ (λ k. added (c.in_ok-facts.ensures.first.1 k) (c.in_ok-facts.ensures.made.1 k))) ∙ added_vars p.0 p.2 ∙ ap (λ m. (appended_two l e (made_at n.terms m)).2.branch.vars) c.begun-made.ensures
