use Rattle.std.proofs.Common.{◌∙◌, sym, ap, Some, option_map, rules}
use Rattle.proof_check.specs.Added.{with_facts}
use Rattle.proof_check.proofs.Appending.{appended_at_once}
use Rattle.proof_check.proofs.context.append_each.Goals as goal

pub returns-in_err-forms : goal.returns-in_err-forms
returns-in_err-forms c = rw (appended_at_once c.args.defs.now c.args.terms.now c.args.context.now) (search rules)

pub returns : goal.returns
returns c = appended_at_once c.args.defs.now c.args.terms.now c.args.context.now ∙ ap (option_map (with_facts c.args.context.now)) c.in_ok-forms.ensures ∙ ap Some (sym (c.facts.ensures c.args.context.now))
