use Rattle.std.proofs.Common.{◌≡◌, ◌++◌, [], Some, drop}
use Rattle.logic_core.specs.Normal.{normal}
use Rattle.logic_core.specs.Wide.{◌>>=◌}
use Rattle.tableau_branch.specs.Branch.{each}
use Rattle.tableau_branch.proofs.forms.normal_forms.Given as goal

abbrev pub invariant-loop-term : goal.invariant-loop-term
invariant-loop-term l = each (λ t. normal l.vars l.defs [] t) l.terms ≡ (each (λ t. normal l.vars l.defs [] t) (drop l.term-index l.terms) >>= λ ts. Some (l.forms.items ++ ts))
