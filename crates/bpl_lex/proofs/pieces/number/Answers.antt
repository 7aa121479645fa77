use Rattle.std.proofs.Common.{sym}
use Rattle.bpl_lex.proofs.Fronts.{number_begins}
use Rattle.bpl_lex.proofs.pieces.number.Goals as goal

pub returns : goal.returns
returns c = sym (number_begins c.args.bytes.now c.digits_length.result c.requires c.digits_length.ensures)
