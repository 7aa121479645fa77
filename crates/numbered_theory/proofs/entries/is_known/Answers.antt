use Rattle.std.proofs.Common.{sym}
use Rattle.term_bank.specs.Numbered.{at}
use Rattle.numbered_theory.proofs.Placed.{placed_known}
use Rattle.numbered_theory.proofs.entries.is_known.Goals as goal

pub returns-then-is_placed : goal.returns-then-is_placed
returns-then-is_placed c =
    let ts = c.args.terms.now in let is = rw c.in-Some.is at c.linear_side.ensures.is in
    sym (placed_known ts c.in-Some.sum c.args.entries.now (at ts c.args.fact) is (c.is_placed.ensures c.if-is_placed.true))
