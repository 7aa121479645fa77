use Rattle.std.proofs.Common.{◌≤◌, ◌+◌, length, None, Some, option_map, sym, ap, ◌∙◌, arith}
use Rattle.bpl_lex.specs.Front.{found_seen}
use Rattle.bpl_lex.proofs.Fronts.{block_found, block_fits}
use Rattle.bpl_lex.proofs.pieces.block_comment.Goals as goal

pub returns-in_err-end : goal.returns-in_err-end
returns-in_err-end c = ap (option_map found_seen) c.from_residual.ensures ∙ sym (block_found c.args.bytes.now None c.requires c.in_err-end.ensures)

pub overflow_add-result : goal.overflow_add-result
overflow_add-result c =
    let within : 2 + c.in_ok-end.end ≤ length c.args.bytes.now = block_fits c.args.bytes.now c.in_ok-end.end c.requires c.in_ok-end.ensures in
    omega arith

pub returns : goal.returns
returns c = sym (block_found c.args.bytes.now (Some c.in_ok-end.end) c.requires c.in_ok-end.ensures)
