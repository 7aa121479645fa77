use Rattle.numbered_branches.proofs.Carried.{add_stands}
use Rattle.numbered_branches.proofs.change.add.Goals as goal

pub returns : goal.returns
returns c = add_stands c.args.terms.now c.are_stored.ensures c.push_new.result c.args.fact.now c.args.made.now c.push_new.new.made c.requires.fact c.requires.made c.push_new.ensures
