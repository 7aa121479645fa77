use Rattle.std.proofs.Common.{sym}
use Rattle.bpl_lex.proofs.Fronts.{blank_begins}
use Rattle.bpl_lex.proofs.pieces.front.Goals as goal

pub returns-then-is_blank : goal.returns-then-is_blank
returns-then-is_blank c = sym (blank_begins c.in_ok-first.field-0.now c.args.bytes.now (sym c.in_ok-first.ensures.value) (sym c.if-is_blank.ensures))
