use Rattle.numbered_terms.proofs.Results.{on_ok}
use Rattle.numbered_theory.proofs.MeetingNone.{with_none, noted_next, noted_later}
use Rattle.numbered_theory.proofs.combining.combine_next.Goals as goal

pub returns-then-meets-clause-noted : goal.returns-then-meets-clause-noted
returns-then-meets-clause-noted c =
    let n = c.args.store.now in let old = c.args.leads.now in let new = c.note.new.self in
    let here = rw c.terms-2.ensures at c.in_ok-note.ensures.noted in
    on_ok c.combine_with.result (noted_later n old.above old.below new.above new.below c.in_ok-note.ensures.above c.in_ok-note.ensures.below c.args.before.now c.args.e.now c.requires.noted here c.combine_with.new.store c.combine_with.ensures.grows c.requires.before c.requires.e)

pub returns-clause-attempts : goal.returns-clause-attempts
returns-clause-attempts c =
    let says = rw c.terms.ensures at c.may_meet-meets.ensures in
    with_none c.args.store.now c.args.entries.now c.args.e.now c.args.leads.now.above c.args.leads.now.below (says c.if-meets.false) c.args.before.now c.requires.noted

pub returns-clause-noted : goal.returns-clause-noted
returns-clause-noted c =
    let n = c.args.store.now in let old = c.args.leads.now in let new = c.note.new.self in
    let here = rw c.terms-2.ensures at c.in_ok-note.ensures.noted in
    noted_next n old.above old.below new.above new.below c.in_ok-note.ensures.above c.in_ok-note.ensures.below c.args.before.now c.args.e.now c.requires.noted here
