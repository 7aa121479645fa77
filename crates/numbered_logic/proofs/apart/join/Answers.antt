use Rattle.std.proofs.Common.{◌<◌, sym, ap, subst, List, length, arith}
use Rattle.logic_core.specs.Tree.{Tree}
use Rattle.logic_core.specs.Junction.{negated}
use Rattle.term_bank.specs.Numbered.{at}
use Rattle.term_bank.proofs.Numbers.{begins_at, begins_length}
use Rattle.numbered_facts.specs.Answers.{StandsFor}
use Rattle.numbered_logic.specs.Apart.{AreApart}
use Rattle.numbered_logic.proofs.NoPair.{apart_later}
use Rattle.numbered_logic.proofs.apart.join.Goals as goal

pub join_new-requires-clause-id : goal.join_new-requires-clause-id
join_new-requires-clause-id c = subst (λ (ts : List Tree). c.args.id < length ts) (sym c.terms.ensures) (omega (arith, c.requires.id, begins_length c.args.store.now.terms c.negation.new.self.terms c.in_ok-negation.ensures.grows.terms))

pub join_new-requires-clause-negation : goal.join_new-requires-clause-negation
join_new-requires-clause-negation c = let ts = c.args.store.now.terms in let us = c.negation.new.self.terms in
    subst (λ (zs : List Tree). StandsFor zs c.in_ok-negation.negation (negated (at zs c.args.id))) (sym c.terms.ensures)
    (subst (StandsFor us c.in_ok-negation.negation) (ap negated (sym (begins_at ts us c.args.id c.in_ok-negation.ensures.grows.terms c.requires.id))) c.in_ok-negation.ensures.gives)

pub join_new-requires-clause-apart : goal.join_new-requires-clause-apart
join_new-requires-clause-apart c = let old = c.args.apart.now in
    subst (λ (zs : List Tree). AreApart zs old) (sym c.terms.ensures) (apart_later c.args.store.now.terms c.negation.new.self.terms c.in_ok-negation.ensures.grows.terms old.facts old.negations c.requires.apart)
