use Rattle.numbered_branches.proofs.Carried.{each_stands}
use Rattle.numbered_branches.proofs.change.add_each.Goals as goal

pub returns : goal.returns
returns c = each_stands c.args.terms.now c.are_stored.ensures c.push_each.result c.args.facts.now c.args.made.now c.push_each.new.made c.requires.facts c.requires.made c.push_each.ensures
