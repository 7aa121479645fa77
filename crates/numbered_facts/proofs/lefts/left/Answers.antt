use Rattle.std.proofs.Common.{◌∙◌, sym}
use Rattle.numbered_forms.proofs.Memos.{kept_more, kept_alike}
use Rattle.numbered_facts.specs.Memos.{IsLeft}
use Rattle.numbered_facts.proofs.lefts.left.Goals as goal

pub returns-in-Some-clause-gives : goal.returns-in-Some-clause-gives
returns-in-Some-clause-gives c = (c.requires.right c.args.fact c.in-Some.found (sym c.kept.ensures ∙ c.in-Some.is)).1

pub returns-in_err-keep-clause-right : goal.returns-in_err-keep-clause-right
returns-in_err-keep-clause-right c = kept_alike (IsLeft (record { terms = c.args.terms.now; vars = c.args.vars.now; defs = c.args.defs.now })) c.args.lefts.now.slots.items c.keep.new.memo.slots.items c.in_err-keep.ensures.memory c.requires.right

pub returns-clause-right : goal.returns-clause-right
returns-clause-right c = kept_more (IsLeft (record { terms = c.args.terms.now; vars = c.args.vars.now; defs = c.args.defs.now })) c.args.lefts.now.slots.items c.keep.new.memo.slots.items c.args.fact c.in_ok-side.side c.in_ok-keep.ensures.ok c.requires.right (c.requires.fact, c.in_ok-side.ensures.gives)
