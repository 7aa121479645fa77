use Rattle.std.proofs.Common.{sym, subst}
use Rattle.tableau_branch.specs.Applied.{Tries}
use Rattle.tableau_branch.specs.Branch.{Attempt}
use Rattle.tableau_branch.specs.Move.{Move}
use Rattle.theory_rules.proofs.Attempting.{trichotomy_by_parts}
use Rattle.plain_search.proofs.trichotomy.trichotomy.Goals as goal

pub returns : goal.returns
returns c = subst (λ (x : Attempt Move). Tries c.args.branch c.trichotomy_in_parts.result x) (sym (trichotomy_by_parts c.args.defs.now c.args.branch)) c.trichotomy_in_parts.ensures
