use Rattle.std.proofs.Common.{◌∙◌, ap, nat_eq, arith}
use Rattle.std.specs.List.{list_any}
use Rattle.numbered_facts.proofs.Indexes.{looked_up}
use Rattle.numbered_facts.proofs.numbers.Members.contains.Goals as goal

pub returns-then-len-gt-FEW : goal.returns-then-len-gt-FEW
returns-then-len-gt-FEW c = c.is_listed.ensures ∙ ap (list_any (nat_eq c.args.id)) (looked_up c.self.inside.members.items c.self.inside.index.keys c.self.invariant.found (omega (arith, c.if-len-gt-FEW.true, c.len.ensures)) ∙ c.self.view_is)
