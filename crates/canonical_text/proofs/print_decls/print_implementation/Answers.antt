use Rattle.canonical_text.proofs.WrittenLines.{adds}
use Rattle.canonical_text.proofs.PageLines.{line_on_page}
use Rattle.canonical_text.proofs.print_decls.print_implementation.Goals as goal

pub returns : goal.returns
returns c = line_on_page 0 c.args.page.now c.end.new.self c.end.result (adds c.begin-line.ensures c.print_declared.ensures) c.end.ensures
