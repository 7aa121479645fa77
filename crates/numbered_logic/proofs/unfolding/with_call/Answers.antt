use Rattle.std.proofs.Common.{◌∙◌, sym}
use Rattle.numbered_logic.proofs.SeenCalls.{seen_over, seen_facts, seen_is, not_seen}
use Rattle.numbered_logic.proofs.unfolding.with_call.Goals as goal

pub returns-then-is_plain-clause-over : goal.returns-then-is_plain-clause-over
returns-then-is_plain-clause-over c = seen_over c.args.terms.now c.args.branch c.args.call c.requires.call c.requires.branch c.with_seen.result c.with_seen.ensures

pub returns-then-is_plain-clause-is : goal.returns-then-is_plain-clause-is
returns-then-is_plain-clause-is c = seen_is c.args.terms.now c.args.branch c.args.call c.requires.call c.requires.branch c.args.defs.now c.with_seen.result (sym c.is_plain.ensures ∙ c.if-is_plain.true) c.with_seen.ensures

pub returns-then-is_plain-clause-facts : goal.returns-then-is_plain-clause-facts
returns-then-is_plain-clause-facts c = seen_facts c.args.terms.now c.args.branch c.args.call c.requires.call c.requires.branch c.with_seen.result c.with_seen.ensures

pub returns-clause-is : goal.returns-clause-is
returns-clause-is c = not_seen c.args.terms.now c.args.branch c.args.call c.requires.call c.requires.branch c.args.defs.now (sym c.is_plain.ensures ∙ c.if-is_plain.false)
