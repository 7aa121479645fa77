use Rattle.std.proofs.Common.{◌∙◌, sym, ap, subst, nat_eq}
use Rattle.std.specs.List.{list_any}
use Rattle.numbered_facts.specs.Atoms.{IsRising}
use Rattle.numbered_facts.proofs.AtomsIn.{atom_among}
use Rattle.numbered_facts.proofs.atoms.known_to_occur.Goals as goal

pub is_in-requires : goal.is_in-requires
is_in-requires c = subst IsRising (sym c.deref.ensures.value) (c.requires.right c.args.id c.in-Some.found.now (sym c.in-Some.ensures)).rising

pub returns-in-Some : goal.returns-in-Some
returns-in-Some c = c.is_in.ensures ∙ ap (list_any (nat_eq c.args.part)) c.deref.ensures.value
    ∙ atom_among c.args.terms.now c.are_stored.ensures c.args.id c.args.part c.in-Some.found.now (c.requires.right c.args.id c.in-Some.found.now (sym c.in-Some.ensures)) c.requires.part c.requires.atom
