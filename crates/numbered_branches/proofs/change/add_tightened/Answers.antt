use Rattle.numbered_branches.proofs.Carried.{fact_stands, tight_stands}
use Rattle.numbered_branches.proofs.change.add_tightened.Goals as goal

pub returns-clause-fact : goal.returns-clause-fact
returns-clause-fact c = fact_stands c.args.terms.now c.are_stored.ensures c.put_tightened.result c.args.number c.args.made.now.branch.next c.args.term c.args.tight c.requires.term c.requires.tight c.put_tightened.ensures.fact

pub returns-clause-made : goal.returns-clause-made
returns-clause-made c = tight_stands c.args.terms.now c.are_stored.ensures c.put_tightened.result c.args.number c.args.term c.args.tight c.args.made.now c.put_tightened.new.made c.requires.term c.requires.tight c.requires.made c.put_tightened.ensures.made
