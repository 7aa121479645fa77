use Rattle.std.proofs.Common.{take}
use Rattle.numbered_terms.specs.Stored.{Grows}
use Rattle.numbered_branches.specs.Standing.{AreMadeAt}
use Rattle.numbered_logic.proofs.CaseBranches.{cases}
use Rattle.numbered_logic.proofs.splitting.each_case.Given as goal

abbrev pub invariant-loop-id : goal.invariant-loop-id
invariant-loop-id l = record {
  grows : Grows l.fn.store l.store;
  made : AreMadeAt l.store.terms l.all.items (take l.id-index (cases l.fn.store l.branch l.ids));
}
