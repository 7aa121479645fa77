use Rattle.std.proofs.Common.{drop}
use Rattle.canonical_text.specs.Expression.{more_names}
use Rattle.canonical_text.proofs.WrittenLines.{Leaves}
use Rattle.canonical_text.proofs.print_types.print_more_names.Given as goal

abbrev pub invariant-loop-name : goal.invariant-loop-name
invariant-loop-name l = Leaves l.fn.line (more_names l.others) l.line (more_names (drop l.name-index l.others))
