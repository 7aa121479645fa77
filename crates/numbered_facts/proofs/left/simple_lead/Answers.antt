use Rattle.std.proofs.Common.{arith}
use Rattle.numbered_facts.proofs.LeftSides.{no_simple}
use Rattle.numbered_facts.proofs.left.simple_lead.Goals as goal

pub returns-in_default-clause-is : goal.returns-in_default-clause-is
returns-in_default-clause-is c = no_simple c.args.terms.now c.args.parts.now c.args.rest (omega (arith, c.in_default.len_at_least))
