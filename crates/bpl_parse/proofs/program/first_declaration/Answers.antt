use Rattle.bpl_parse.proofs.Standing.{stand_lie}
use Rattle.bpl_parse.proofs.Rising.{stand_rising}
use Rattle.bpl_parse.proofs.program.first_declaration.Goals as goal

pub new-cursor-requires-clause-inside : goal.new-cursor-requires-clause-inside
new-cursor-requires-clause-inside c = rw c.start_of-start.ensures (stand_lie c.args.text.now c.args.tokens.now c.requires.stand)

pub new-cursor-requires-clause-rising : goal.new-cursor-requires-clause-rising
new-cursor-requires-clause-rising c = rw c.start_of-start.ensures (stand_rising c.args.text.now c.args.tokens.now c.requires.stand)
