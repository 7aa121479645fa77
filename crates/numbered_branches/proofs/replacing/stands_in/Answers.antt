use Rattle.std.proofs.Common.{refl, ◌∙◌, ap, subst, nat_eq}
use Rattle.std.specs.List.{list_any}
use Rattle.term_bank.specs.Numbered.{at}
use Rattle.numbered_terms.specs.Stored.{AreStored}
use Rattle.numbered_branches.proofs.Growing.{stays, below}
use Rattle.numbered_branches.proofs.Among.{stands_among}
use Rattle.numbered_branches.proofs.replacing.stands_in.Goals as goal

pub returns-in-Some-clause-stands : goal.returns-in-Some-clause-stands
returns-in-Some-clause-stands c =
    let n = c.args.store.now in
    let stored = subst AreStored c.terms.ensures c.are_stored.ensures in
    c.is_among.ensures ∙ stands_among n.terms stored c.args.part c.in-Some.ids.now (at n.terms c.args.part) (at n.terms c.args.fact) c.requires.part refl c.requires.application c.in-Some.ensures

pub returns-clause-stands : goal.returns-clause-stands
returns-clause-stands c =
    let n = c.args.store.now in let m = c.ground.new.self in
    let g = c.in_ok-ids.ensures.grows in
    let stored = subst AreStored c.terms-2.ensures c.are_stored-2.ensures in
    c.is_among-2.ensures ∙ ap (list_any (nat_eq c.args.part)) c.deref.ensures.value ∙ stands_among m.terms stored c.args.part c.in_ok-ids.ids.items (at n.terms c.args.part) (at n.terms c.args.fact) (below n m c.args.part g c.requires.part) (stays n m c.args.part g c.requires.part) c.requires.application c.in_ok-ids.ensures.gives
