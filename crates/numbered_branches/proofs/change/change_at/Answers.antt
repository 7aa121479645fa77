use Rattle.numbered_branches.proofs.Carried.{change_stands, kept_stands}
use Rattle.numbered_branches.proofs.change.change_at.Goals as goal

pub returns-clause-made : goal.returns-clause-made
returns-clause-made c = change_stands c.args.terms.now c.are_stored.ensures c.args.at c.args.fact.now c.args.made.now c.put_or_take_out.new.made c.requires.fact c.requires.made c.put_or_take_out.ensures.made

pub returns-clause-before : goal.returns-clause-before
returns-clause-before c = kept_stands c.args.terms.now c.are_stored.ensures c.args.at c.args.fact.now c.args.made.now.branch.facts _ c.requires.fact (c.requires.made.branch).facts c.put_or_take_out.ensures.before
