use Rattle.std.proofs.Common.{◌≡◌, true, sym}
use Rattle.logic_terms.specs.Same.{same_term}
use Rattle.logic_core.proofs.Picked.{picked_has}
use Rattle.logic_core.proofs.term.Term.+occurs.Goals as goal

pub occurs_in-returns-then-equals : goal.occurs_in-returns-then-equals
occurs_in-returns-then-equals t c = let e : same_term c.args.self.now c.args.term.now ≡ true = cc in sym (picked_has (same_term c.args.self.now) c.args.term.now e)
