use Rattle.std.proofs.Common.{sym}
use Rattle.bpl_lex.proofs.Fronts.{line_begins}
use Rattle.bpl_lex.proofs.pieces.line_comment.Goals as goal

pub returns : goal.returns
returns c = sym (line_begins c.args.bytes.now c.line_length.result c.requires c.line_length.ensures)
