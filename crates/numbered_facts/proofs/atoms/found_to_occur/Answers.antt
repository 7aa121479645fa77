use Rattle.std.proofs.Common.{◌∙◌, sym, ap, subst, nat_eq}
use Rattle.std.specs.List.{list_any}
use Rattle.numbered_terms.specs.Slots.{kept_at}
use Rattle.numbered_facts.specs.Atoms.{IsRising}
use Rattle.numbered_facts.proofs.AtomsIn.{atom_among}
use Rattle.numbered_facts.proofs.Found.{not_none}
use Rattle.numbered_facts.proofs.atoms.found_to_occur.Goals as goal

pub is_in-requires : goal.is_in-requires
is_in-requires c = subst IsRising (sym c.deref.ensures.value) (c.find_atoms.ensures.right c.args.id c.in-Some.found.now (sym c.in-Some.ensures)).rising

pub returns-in-Some-clause-gives : goal.returns-in-Some-clause-gives
returns-in-Some-clause-gives c = c.is_in.ensures ∙ ap (list_any (nat_eq c.args.part)) c.deref.ensures.value
    ∙ atom_among c.args.terms.now c.are_stored.ensures c.args.id c.args.part c.in-Some.found.now (c.find_atoms.ensures.right c.args.id c.in-Some.found.now (sym c.in-Some.ensures)) c.requires.part c.requires.atom

pub returns-in-None-clause-gives : goal.returns-in-None-clause-gives
returns-in-None-clause-gives c = absurd (not_none (kept_at c.find_atoms.new.memo.slots.items c.args.id) c.in_ok-find_atoms.ensures.there c.in-None.ensures)
