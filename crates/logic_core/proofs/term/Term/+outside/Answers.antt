use Rattle.std.proofs.Common.{◌≡◌, true, sym}
use Rattle.logic_terms.specs.Same.{same_term}
use Rattle.logic_core.proofs.Anywhere.{picked_outside}
use Rattle.logic_core.proofs.term.Term.+outside.Goals as goal

pub stands_in-returns-then-equals : goal.stands_in-returns-then-equals
stands_in-returns-then-equals t c = let e : same_term c.args.self.now c.args.term.now ≡ true = cc in sym (picked_outside (same_term c.args.self.now) c.args.term.now e)
