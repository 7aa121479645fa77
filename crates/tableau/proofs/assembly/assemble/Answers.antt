use Rattle.std.proofs.lemmas.List.{map-append}
use Rattle.tableau.proofs.Joined.{proofs_before_last}
use Rattle.tableau.proofs.assembly.assemble.Goals as goal

pub loop-played-preserved : goal.loop-played-preserved
loop-played-preserved c = let popped = c.in-Some.ensures.items in let stack = c.in_ok-join.ensures in
    let before = rw (popped, map-append, proofs_before_last) at c.loop-played.invariant in rw stack before
