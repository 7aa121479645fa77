use Rattle.std.proofs.Common.{◌≡◌, ◌∙◌, sym, ap, subst, Some, option_map}
use Rattle.std.specs.Prelude.{slice_get}
use Rattle.logic_core.specs.Def.{Def}
use Rattle.numbered_forms.proofs.Memos.{kept_more, kept_alike}
use Rattle.numbered_facts.specs.Answers.{StandsFor}
use Rattle.numbered_facts.specs.Memos.{IsBody}
use Rattle.numbered_facts.proofs.Later.{bodies_later}
use Rattle.term_bank.proofs.Numbers.{begins_same}
use Rattle.numbered_facts.proofs.bodies.kept_body.Goals as goal

pub returns-in-Some-clause-gives : goal.returns-in-Some-clause-gives
returns-in-Some-clause-gives c =
    subst (StandsFor c.args.terms.now c.in-Some.found) (ap (option_map (λ (d : Def). d.body)) c.requires.there) (c.requires.right c.args.place c.in-Some.found (sym c.kept.ensures ∙ c.in-Some.is))

pub returns-in_err-id-clause-right : goal.returns-in_err-id-clause-right
returns-in_err-id-clause-right c = bodies_later c.args.terms.now c.body_of.new.terms c.body_of.ensures.grows c.args.defs.now c.args.bodies.now.slots.items c.requires.right

pub returns-in_err-keep-clause-right : goal.returns-in_err-keep-clause-right
returns-in_err-keep-clause-right c = let us = c.body_of.new.terms in
    kept_alike (IsBody us c.args.defs.now) c.args.bodies.now.slots.items c.keep.new.memo.slots.items c.in_err-keep.ensures.memory (bodies_later c.args.terms.now us c.body_of.ensures.grows c.args.defs.now c.args.bodies.now.slots.items c.requires.right)

pub returns-clause-right : goal.returns-clause-right
returns-clause-right c = let us = c.body_of.new.terms in let o = Some c.in_ok-id.id in
    let body : option_map (λ (d : Def). d.body) (slice_get c.args.defs.now c.args.place) ≡ Some c.args.def.now.body = ap (option_map (λ (d : Def). d.body)) c.requires.there in
    kept_more (IsBody us c.args.defs.now) c.args.bodies.now.slots.items c.keep.new.memo.slots.items c.args.place o c.in_ok-keep.ensures.ok (bodies_later c.args.terms.now us c.body_of.ensures.grows c.args.defs.now c.args.bodies.now.slots.items c.requires.right)
    (c.in_ok-id.ensures.gives.0, body ∙ ap Some (sym c.in_ok-id.ensures.gives.1))

pub returns-in-Some-clause-grows : goal.returns-in-Some-clause-grows
returns-in-Some-clause-grows c = begins_same c.args.terms.now

pub returns-clause-gives : goal.returns-clause-gives
returns-clause-gives c = (c.in_ok-id.ensures.gives.0, ap Some (sym c.in_ok-id.ensures.gives.1))
