use Rattle.numbered_branches.proofs.Appending.{term_in, tight_in, made_in, fact_out, made_out}
use Rattle.numbered_branches.proofs.append.tightened.Goals as goal

pub add_tightened-requires : goal.add_tightened-requires
add_tightened-requires c = let ts = c.args.store.now.terms in let us = c.tightened.new.self.terms in let ws = c.terms.result.now in let g = c.in_ok-tight.ensures.grows.terms in
    record {
      term = term_in ts us ws g c.terms.ensures c.args.term c.requires.term;
      tight = tight_in ts us ws g c.terms.ensures c.args.term c.in_ok-tight.tight c.requires.term c.in_ok-tight.ensures.gives;
      made = made_in ts us ws g c.terms.ensures c.args.made.now c.requires.made;
    }

pub returns-clause-fact : goal.returns-clause-fact
returns-clause-fact c = fact_out c.args.store.now.terms c.tightened.new.self.terms c.terms.result.now c.in_ok-tight.ensures.grows.terms c.terms.ensures c.add_tightened.result c.args.number c.args.made.now.branch.next c.args.term c.requires.term c.add_tightened.ensures.fact

pub returns-clause-made : goal.returns-clause-made
returns-clause-made c = made_out c.args.store.now.terms c.tightened.new.self.terms c.terms.result.now c.in_ok-tight.ensures.grows.terms c.terms.ensures c.add_tightened.result c.args.number c.args.term c.args.made.now c.add_tightened.new.made c.requires.term c.requires.made c.add_tightened.ensures.made
