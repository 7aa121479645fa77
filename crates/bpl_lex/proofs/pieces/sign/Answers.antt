use Rattle.std.proofs.Common.{option_map, sym, ap, ◌∙◌}
use Rattle.bpl_lex.specs.Front.{found_seen}
use Rattle.bpl_lex.proofs.Fronts.{sign_begins, nothing_begins}
use Rattle.bpl_lex.proofs.pieces.sign.Goals as goal

pub returns-in_err-length : goal.returns-in_err-length
returns-in_err-length c = ap (option_map found_seen) c.from_residual.ensures ∙ sym (nothing_begins c.args.bytes.now c.requires c.in_err-length.ensures.none)

pub returns : goal.returns
returns c = sym (sign_begins c.args.bytes.now c.in_ok-length.length c.requires c.in_ok-length.ensures.some)
