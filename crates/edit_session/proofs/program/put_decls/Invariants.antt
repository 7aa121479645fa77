use Rattle.std.proofs.Common.{◌≡◌, vec_len}
use Rattle.program_edits.specs.Replaced.{with_replacements, AreThere}
use Rattle.edit_session.proofs.program.put_decls.Given as goal

abbrev pub invariant-loop-replacement : goal.invariant-loop-replacement
invariant-loop-replacement l = record {
  same : with_replacements l.program l.replacements.items ≡ with_replacements l.fn.program l.fn.replacements.items;
  there : AreThere l.program l.replacements.items;
}

abbrev pub decreases-loop-replacement : goal.decreases-loop-replacement
decreases-loop-replacement l = vec_len l.replacements
