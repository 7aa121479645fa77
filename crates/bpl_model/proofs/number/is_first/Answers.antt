use Rattle.std.proofs.Common.{ap, sym, arith}
use Rattle.std.specs.Prelude.{not}
use Rattle.bpl_model.proofs.RisingNumbers.{among_is}
use Rattle.bpl_model.proofs.number.is_first.Goals as goal

pub returns-else-i-eq0 : goal.returns-else-i-eq0
returns-else-i-eq0 c = let far = c.if-i-eq0.false in ap not (sym (among_is c.args.sorted.now c.args.i c.requires.order c.requires.there (omega (arith, far))))
