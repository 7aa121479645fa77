use Rattle.std.proofs.Common.{◌∙◌, sym, subst}
use Rattle.numbered_terms.specs.Stored.{AreStored}
use Rattle.numbered_theory.specs.Entries.{entry_at, entries_at}
use Rattle.numbered_theory.proofs.LeadAtoms.{led_apart}
use Rattle.numbered_theory.proofs.Pairing.{pair_apart}
use Rattle.numbered_theory.proofs.combining.combine_led.Goals as goal

pub returns-clause-attempts : goal.returns-clause-attempts
returns-clause-attempts c =
    let n = c.args.store.now in let d = c.args.d.now in let e = c.args.e.now in
    let stored = subst AreStored c.terms.ensures c.are_stored.ensures in
    pair_apart (entries_at n.terms c.args.entries.now) (entry_at n.terms d) (entry_at n.terms e) (led_apart n.terms stored d e c.args.mine.now c.args.theirs.now c.requires.mine c.requires.theirs (sym c.is_one_atom-may_meet.ensures ∙ c.if-may_meet.false))
