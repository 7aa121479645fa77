use Rattle.std.proofs.Common.{◌∙◌, sym, nat_eq, position}
use Rattle.block_wp.proofs.Tables.{its_number, no_number}
use Rattle.block_wp.proofs.reached.Reached.definition_of.Goals as goal

pub returns-in-Some : goal.returns-in-Some
returns-in-Some c = its_number c.args.self.now.given c.in-Some.number (position (nat_eq c.args.block) c.args.self.now.blocks) (sym c.in-Some.is ∙ c.number.ensures ∙ c.requires.numbers c.args.block)

pub returns-in-None : goal.returns-in-None
returns-in-None c = no_number c.args.self.now.given (position (nat_eq c.args.block) c.args.self.now.blocks) (sym c.in-None.is ∙ c.number.ensures ∙ c.requires.numbers c.args.block)
