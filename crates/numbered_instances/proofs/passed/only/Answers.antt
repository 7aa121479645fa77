use Rattle.std.proofs.Common.{◌∙◌, sym}
use Rattle.std.proofs.lemmas.List.{nil_from_length}
use Rattle.numbered_instances.proofs.Passing.{only_one, not_only, none_only}
use Rattle.numbered_instances.proofs.passed.only.Goals as goal

pub returns-then-is_empty-clause-is : goal.returns-then-is_empty-clause-is
returns-then-is_empty-clause-is c = only_one c.in-Some.id.now c.args.ids.now c.in-Some.rest.now c.in-Some.ensures.cases.0 (sym c.is_empty.ensures ∙ c.if-is_empty.true)

pub returns-else-is_empty-clause-other : goal.returns-else-is_empty-clause-other
returns-else-is_empty-clause-other c = not_only c.in-Some.id.now c.args.ids.now c.in-Some.rest.now c.in-Some.ensures.cases.0 (sym c.is_empty.ensures ∙ c.if-is_empty.false)

pub returns-in-None-clause-other : goal.returns-in-None-clause-other
returns-in-None-clause-other c = none_only c.args.ids.now (nil_from_length c.args.ids.now c.in-None.ensures.cases)
