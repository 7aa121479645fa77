use Rattle.std.proofs.Common.{subst, []}
use Rattle.logic_core.specs.Normal.{normal}
use Rattle.numbered_terms.specs.At.{GivesAt}
use Rattle.numbered_facts.proofs.Growing.{then}
use Rattle.numbered_facts.proofs.store.Store.replaced_form.Goals as goal

pub returns-clause-grows : goal.returns-clause-grows
returns-clause-grows c = then c.args.self.now c.replaced.new.self c.normal.new.self c.replaced.ensures.grows c.normal.ensures.grows

pub returns-clause-gives : goal.returns-clause-gives
returns-clause-gives c = let g = c.replaced.ensures.grows in
    subst (λ o. GivesAt (c.normal.new.self).terms c.normal.result o) (λ k. normal (g.vars k) (g.defs k) [] (c.in_ok-changed.ensures.gives.1 k)) c.normal.ensures.gives
