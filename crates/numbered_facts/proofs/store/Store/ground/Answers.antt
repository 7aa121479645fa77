use Rattle.std.proofs.Common.{Vec, sym, subst, IfOk, length, ◌<◌, [], filter, ℕ}
use Rattle.std.specs.declared.alloc.Global.{Global}
use Rattle.logic_core.specs.Subterm.{outside}
use Rattle.tableau_branch.specs.Oriented.{is_application}
use Rattle.logic_rules.specs.Instantiating.{each_once}
use Rattle.term_bank.specs.Numbered.{at}
use Rattle.numbered_terms.specs.Stored.{Numbered}
use Rattle.numbered_facts.specs.Answers.{AreAt}
use Rattle.numbered_facts.proofs.Growing.{stays}
use Rattle.numbered_facts.proofs.store.Store.ground.Goals as goal

pub ground-requires-clause-id : goal.ground-requires-clause-id
ground-requires-clause-id c = subst (λ (n : Numbered). c.args.id < length n.terms) (sym c.self.view_is) c.requires

pub ground-requires-clause-right : goal.ground-requires-clause-right
ground-requires-clause-right c = c.self.invariant.0.standing

pub invariant_of-self : goal.invariant_of-self
invariant_of-self c = (record { forms = c.self.invariant.0.forms; lefts = c.self.invariant.0.lefts; negations = c.self.invariant.0.negations; atoms = c.self.invariant.0.atoms; standing = c.ground.ensures.right; bodies = c.self.invariant.0.bodies; sorts = c.self.invariant.0.sorts; replacements = c.self.invariant.0.replacements; tights = c.self.invariant.0.tights }, c.self.invariant.1)

pub returns-clause-grows : goal.returns-clause-grows
returns-clause-grows c = stays (record { terms = c.self.inside.terms; vars = c.self.inside.vars.items; defs = c.self.inside.defs.now }) c.args.self.now c.self.view_is

pub returns-clause-gives : goal.returns-clause-gives
returns-clause-gives c = subst (λ (n : Numbered). IfOk c.ground.result (λ (v : Vec ℕ Global). AreAt c.self.inside.terms v.items (each_once [] (filter is_application (outside (at n.terms c.args.id)))))) c.self.view_is c.ground.ensures.gives
