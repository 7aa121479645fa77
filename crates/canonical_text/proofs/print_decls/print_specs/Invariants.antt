use Rattle.std.proofs.Common.{◌≡◌, ◌++◌, length, map}
use Rattle.canonical_text.specs.Lines.{spec_line}
use Rattle.canonical_text.proofs.print_decls.print_specs.Given as goal

abbrev pub invariant-loop-spec : goal.invariant-loop-spec
invariant-loop-spec l = l.page ++ map spec_line l.rest ≡ l.fn.page ++ map spec_line l.list

abbrev pub decreases-loop-spec : goal.decreases-loop-spec
decreases-loop-spec l = length l.rest
