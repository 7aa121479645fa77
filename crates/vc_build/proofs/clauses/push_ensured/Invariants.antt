use Rattle.std.proofs.Common.{◌≡◌, ◌++◌, drop}
use Rattle.bpl_model.specs.Contract.{end_checks}
use Rattle.vc_build.specs.Marks.{marks_read}
use Rattle.vc_build.proofs.clauses.push_ensured.Given as goal

-- the marks so far, and then those of the clauses that are ahead
abbrev pub invariant-loop-spec : goal.invariant-loop-spec
invariant-loop-spec l = l.marks.items ++ marks_read (end_checks (drop l.spec-index l.specs)) ≡ l.fn.marks.items ++ marks_read (end_checks l.specs)
