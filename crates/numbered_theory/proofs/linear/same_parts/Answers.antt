use Rattle.std.proofs.Common.{◌∙◌}
use Rattle.numbered_theory.proofs.Alone.{numbers_apart}
use Rattle.numbered_theory.proofs.linear.same_parts.Goals as goal

pub returns : goal.returns
returns c = c.same_numbers.ensures ∙ numbers_apart c.args.terms.now c.are_stored.ensures c.args.turned c.args.mine.now c.args.theirs.now c.requires.mine c.requires.theirs
