use Rattle.std.proofs.Common.{nat_lt, length}
use Rattle.numbered_branches.proofs.Unpicked.{known_absent}
use Rattle.numbered_branches.proofs.passing.is_without.Goals as goal

pub returns-in-Some : goal.returns-in-Some
returns-in-Some c = known_absent c.args.store.now.terms c.args.atom c.args.id c.in-Some.atoms.now c.few_without.result (nat_lt (length c.in-Some.atoms.now) 32) c.requires.atom c.requires.kind c.in-Some.ensures c.few_without.ensures
