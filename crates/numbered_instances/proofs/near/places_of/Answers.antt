use Rattle.std.proofs.Common.{◌≡◌, ◌∙◌, sym, ap, subst, true, ℕ, List, map, length, get_or, arith}
use Rattle.logic_core.specs.Tree.{Tree}
use Rattle.term_bank.specs.Numbered.{at}
use Rattle.term_bank.proofs.Numbers.{begins_same}
use Rattle.numbered_terms.specs.Stored.{AreStored}
use Rattle.numbered_facts.specs.Atoms.{is_atom}
use Rattle.numbered_instances.specs.Near.{having}
use Rattle.numbered_instances.proofs.NearFacts.{none_before, none_from}
use Rattle.numbered_instances.proofs.near.places_of.Goals as goal

pub returns-in-Some-clause-front : goal.returns-in-Some-clause-front
returns-in-Some-clause-front c =
    let ts = c.args.store.now.terms in let j = c.args.left in
    let stored = subst AreStored c.terms-over.ensures c.are_stored.ensures in
    let atom : is_atom (at ts j) ≡ true = sym (ap (λ (us : List Tree). is_atom (at us j)) c.terms-over.ensures) ∙ sym c.is_atom.ensures ∙ c.if-is_atom.true in
    none_before ts j atom c.args.facts.now c.min-from.result c.in-Some.until c.count.result (c.count.ensures ∙ c.requires.shared ts (begins_same ts) stored j) c.in-Some.ensures.found

pub returns-in-Some-clause-rest : goal.returns-in-Some-clause-rest
returns-in-Some-clause-rest c =
    let ts = c.args.store.now.terms in let j = c.args.left in
    let stored = subst AreStored c.terms-over.ensures c.are_stored.ensures in
    let atom : is_atom (at ts j) ≡ true = sym (ap (λ (us : List Tree). is_atom (at us j)) c.terms-over.ensures) ∙ sym c.is_atom.ensures ∙ c.if-is_atom.true in
    none_from ts j atom c.args.facts.now c.min-from.result c.in-Some.until c.count.result (c.count.ensures ∙ c.requires.shared ts (begins_same ts) stored j) c.in-Some.ensures.found
