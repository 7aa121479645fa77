use Rattle.std.proofs.Common.{◌∙◌, ap, option_map, rules}
use Rattle.proof_check.proofs.Appending.{start_at_once}
use Rattle.proof_check.proofs.context.start.Goals as goal

pub returns-in_err-facts : goal.returns-in_err-facts
returns-in_err-facts c = rw (start_at_once c.args.o.now c.in_ok-copy_sorts.field-0.items c.defs.result.now c.deref.result.now (search rules) (search rules) (search rules)) (search rules)

pub returns : goal.returns
returns c = start_at_once c.args.o.now c.in_ok-copy_sorts.field-0.items c.defs.result.now c.deref.result.now (search rules) (search rules) (search rules) ∙ ap (option_map (λ fs. record { vars = c.in_ok-copy_sorts.field-0.items; facts = fs })) c.in_ok-facts.ensures
