use Rattle.std.proofs.Common.{sym, subst, ◌<◌, length}
use Rattle.std.specs.List.{AllByRecursion}
use Rattle.numbered_instances.proofs.SharedAtoms.{none_shared}
use Rattle.numbered_instances.proofs.shared.Shared.new.Goals as goal

pub returns : goal.returns
returns c = λ ts. (subst (AllByRecursion (λ i. i < length ts)) (sym c.new.ensures.items) tt, none_shared ts c.new.result.items c.new-2.result.items c.new.ensures.items c.new-2.ensures.items)
