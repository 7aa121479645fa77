use Rattle.std.proofs.Common.{◌≡◌, ◌++◌, drop}
use Rattle.bpl_model.specs.Contract.{call_checks}
use Rattle.vc_build.specs.Marks.{marks_read}
use Rattle.vc_build.proofs.clauses.push_required.Given as goal

-- the marks so far, and then those of the clauses that are ahead
abbrev pub invariant-loop-spec : goal.invariant-loop-spec
invariant-loop-spec l = l.marks.items ++ marks_read (call_checks l.at l.k (drop l.spec-index l.specs)) ≡ l.fn.marks.items ++ marks_read (call_checks l.at 0 l.specs)
