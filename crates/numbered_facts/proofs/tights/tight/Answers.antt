use Rattle.std.proofs.Common.{◌∙◌, sym}
use Rattle.numbered_forms.proofs.Memos.{kept_more, kept_alike}
use Rattle.numbered_facts.specs.Memos.{IsTight}
use Rattle.numbered_facts.proofs.Later.{tight_later, tights_later}
use Rattle.term_bank.proofs.Numbers.{begins_same}
use Rattle.numbered_facts.proofs.tights.tight.Goals as goal

pub returns-in-Some-clause-gives : goal.returns-in-Some-clause-gives
returns-in-Some-clause-gives c = (c.requires.right c.args.id c.in-Some.found (sym c.kept_number.ensures ∙ c.in-Some.is)).1

pub returns-in_err-tight-clause-right : goal.returns-in_err-tight-clause-right
returns-in_err-tight-clause-right c = tights_later c.args.terms.now c.tightened.new.terms c.tightened.ensures.grows c.args.tights.now.slots.items c.requires.right

pub returns-in_err-keep_number-clause-right : goal.returns-in_err-keep_number-clause-right
returns-in_err-keep_number-clause-right c = kept_alike (IsTight c.tightened.new.terms) c.args.tights.now.slots.items c.keep_number.new.memo.slots.items c.in_err-keep_number.ensures.memory (tights_later c.args.terms.now c.tightened.new.terms c.tightened.ensures.grows c.args.tights.now.slots.items c.requires.right)

pub returns-clause-right : goal.returns-clause-right
returns-clause-right c = let ts = c.args.terms.now in let us = c.tightened.new.terms in let b = c.tightened.ensures.grows in
    kept_more (IsTight us) c.args.tights.now.slots.items c.keep_number.new.memo.slots.items c.args.id c.in_ok-tight.tight c.in_ok-keep_number.ensures.ok (tights_later ts us b c.args.tights.now.slots.items c.requires.right)
    (tight_later ts us b c.args.id c.in_ok-tight.tight c.requires.id c.in_ok-tight.ensures.gives)

pub returns-in-Some-clause-grows : goal.returns-in-Some-clause-grows
returns-in-Some-clause-grows c = begins_same c.args.terms.now
