use Rattle.std.proofs.Common.{◌≡◌, ◌++◌, cond, drop}
use Rattle.proof_core.proofs.Without.{without_list}
use Rattle.proof_core.proofs.says.without.Given as goal

-- what was taken, and what will be of the parts ahead
abbrev pub invariant-loop-part : goal.invariant-loop-part
invariant-loop-part l = l.others.items ++ cond l.found (drop l.part-index l.parts) (without_list l.t (drop l.part-index l.parts)) ≡ without_list l.t l.parts
