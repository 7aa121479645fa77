use Rattle.std.proofs.Common.{sym, subst, ◌∷◌, [], take, length, arith}
use Rattle.std.specs.List.{AllByRecursion}
use Rattle.std.proofs.lemmas.List.{take_all}
use Rattle.logic_core.proofs.EachOf.{every_append, every_map}
use Rattle.tableau_branch.proofs.Lists.{take_item}
use Rattle.numbered_branches.proofs.Listing.{all_at}
use Rattle.numbered_theory.specs.Entries.{IsEntryBelow}
use Rattle.numbered_theory.specs.Leads.{IsNoted}
use Rattle.numbered_theory.proofs.LeadsNoted.{noted_more}
use Rattle.numbered_theory.proofs.combining.note_each.Goals as goal

pub loop-entry-init : goal.loop-entry-init
loop-entry-init c = tt

pub note-requires : goal.note-requires
note-requires c = all_at (IsEntryBelow (length c.args.terms.now)) c.args.entries.now c.loop-entry.entry-index c.entry-item.result c.requires c.loop-entry-test.true c.entry-item.is

pub loop-entry-preserved : goal.loop-entry-preserved
loop-entry-preserved c =
    let ts = c.args.terms.now in let old = c.loop-entry.leads in let new = c.note.new.self in let i = c.loop-entry.entry-index in let es = c.args.entries.now in let e = c.entry-item.result in
    subst (AllByRecursion (IsNoted ts new.above new.below)) (sym (take_item es i e c.loop-entry-test.true c.entry-item.is))
    (every_append (IsNoted ts new.above new.below) (take i es) (e ∷ [])
    (every_map (IsNoted ts old.above old.below) (IsNoted ts new.above new.below) (noted_more old.above old.below new.above new.below c.in_ok-note.ensures.above c.in_ok-note.ensures.below ts) (take i es) c.loop-entry.invariant) (c.in_ok-note.ensures.noted, tt))

pub returns : goal.returns
returns c = subst (AllByRecursion (IsNoted c.args.terms.now c.loop-entry.leads.above c.loop-entry.leads.below)) (take_all c.loop-entry.entry-index c.args.entries.now (omega (arith, c.loop-entry-test.false))) c.loop-entry.invariant
