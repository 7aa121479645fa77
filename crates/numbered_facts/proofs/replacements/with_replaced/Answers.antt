use Rattle.numbered_facts.proofs.Later.{replaced_later, replacements_later}
use Rattle.term_bank.proofs.Numbers.{begins_same}
use Rattle.numbered_facts.proofs.replacements.with_replaced.Goals as goal

pub returns-in_err-term-clause-right : goal.returns-in_err-term-clause-right
returns-in_err-term-clause-right c = replacements_later c.args.terms.now c.replaced.new.terms c.replaced.ensures.grows c.args.memo.now.slots.items c.requires.right

pub keep_replacement-requires-clause-found : goal.keep_replacement-requires-clause-found
keep_replacement-requires-clause-found c = replaced_later c.args.terms.now c.replaced.new.terms c.replaced.ensures.grows c.args.whole c.args.part c.args.by c.in_ok-term.term c.requires.whole c.requires.part c.requires.by c.in_ok-term.ensures.gives

pub keep_replacement-requires-clause-right : goal.keep_replacement-requires-clause-right
keep_replacement-requires-clause-right c = replacements_later c.args.terms.now c.replaced.new.terms c.replaced.ensures.grows c.args.memo.now.slots.items c.requires.right

pub returns-in-Some-clause-grows : goal.returns-in-Some-clause-grows
returns-in-Some-clause-grows c = begins_same c.args.terms.now
