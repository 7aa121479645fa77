use Rattle.std.proofs.Common.{Some, sym, ap, ◌∙◌, cond}
use Rattle.bpl_lex.specs.Token.{id, word}
use Rattle.bpl_lex.specs.Shape.{token}
use Rattle.bpl_lex.proofs.Fronts.{name_begins}
use Rattle.bpl_lex.proofs.pieces.name.Goals as goal

pub returns-then-is_word : goal.returns-then-is_word
returns-then-is_word c =
    ap (λ b. Some (token (cond b word id), c.name_length-length.result)) c.if-is_word.ensures
    ∙ sym (name_begins c.args.bytes.now c.name_length-length.result c.requires c.name_length-length.ensures)

pub returns-else-is_word : goal.returns-else-is_word
returns-else-is_word c =
    ap (λ b. Some (token (cond b word id), c.name_length-length.result)) c.if-is_word.ensures
    ∙ sym (name_begins c.args.bytes.now c.name_length-length.result c.requires c.name_length-length.ensures)
