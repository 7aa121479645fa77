use Rattle.std.proofs.Common.{arith}
use Rattle.numbered_theory.specs.Entries.{entries_at}
use Rattle.numbered_theory.proofs.PairsKept.{no_pairs}
use Rattle.numbered_theory.proofs.TriedPairs.{listed_on}
use Rattle.numbered_theory.proofs.tried.still_tried.Goals as goal

pub returns-then-begin_with-clause-within : goal.returns-then-begin_with-clause-within
returns-then-begin_with-clause-within c = let l = c.begin_with.ensures.within c.if-begin_with.true in omega (arith, c.requires, l)

pub returns-then-begin_with-clause-tried : goal.returns-then-begin_with-clause-tried
returns-then-begin_with-clause-tried c = λ ts h. listed_on ts c.args.others.now c.args.entries.now c.args.pairs c.requires (c.begin_with.ensures.same c.if-begin_with.true) h

pub returns-clause-tried : goal.returns-clause-tried
returns-clause-tried c = λ ts h. no_pairs (entries_at ts c.args.entries.now)
