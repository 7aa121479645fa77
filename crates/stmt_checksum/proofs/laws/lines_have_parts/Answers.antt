use Rattle.stmt_checksum.proofs.SameLines.{same_lines}
use Rattle.stmt_checksum.proofs.laws.lines_have_parts.Goals as goal

pub returns : goal.returns
returns c = same_lines
