use Rattle.std.proofs.Common.{refl, map}
use Rattle.numbered_branches.specs.View.{move_seen}
use Rattle.clause_search.specs.Packed.{packed_move}
use Rattle.clause_search.proofs.Stepping.{any_taken, comes_to}
use Rattle.clause_search.proofs.run.advance.Goals as goal

pub returns-in-Ok-Some-clause-defs : goal.returns-in-Ok-Some-clause-defs
returns-in-Ok-Some-clause-defs c = any_taken c.take.result _ c.in-Ok-Some.ensures.defs

pub returns-in-Ok-Some-clause-tables : goal.returns-in-Ok-Some-clause-tables
returns-in-Ok-Some-clause-tables c = any_taken c.take.result _ c.in-Ok-Some.ensures.tables

pub returns-in-Ok-Some-clause-comes : goal.returns-in-Ok-Some-clause-comes
returns-in-Ok-Some-clause-comes c =
    let made = rw c.in-Ok-Some.field-0-is at c.in-Ok-Some.ensures.attempts in
    comes_to c.take.result c.args.left c.args.stack.now.items c.take.new.stack.items (map packed_move c.args.moves.now.items) (map packed_move c.take.new.moves.items) c.args.store.now.defs c.args.store.now.terms c.step.new.store.terms c.args.branch (move_seen c.in-Ok-Some.step) made c.take.ensures

pub returns-in-Ok-None-clause-comes : goal.returns-in-Ok-None-clause-comes
returns-in-Ok-None-clause-comes c = (rw c.in-Ok-None.field-0-is at c.in-Ok-None.ensures.attempts, refl)

pub returns-in-Err-Wide-clause-comes : goal.returns-in-Err-Wide-clause-comes
returns-in-Err-Wide-clause-comes c = (c.in-Err-Wide.ensures.attempts c.in-Err-Wide.field-0-is, refl)
