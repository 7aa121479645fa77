use Rattle.std.proofs.Common.{◌∙◌, sym, subst, ℕ, Option, List, length}
use Rattle.logic_core.specs.Tree.{Tree}
use Rattle.tableau_branch.specs.Branch.{leaves, gives}
use Rattle.numbered_theory.specs.Combined.{combined_at, AttemptsAt}
use Rattle.numbered_theory.specs.Entries.{IsEntryBelow}
use Rattle.numbered_theory.specs.Leads.{IsLed}
use Rattle.numbered_theory.specs.declared.entries.Entry.{Entry}
use Rattle.numbered_branches.proofs.Listing.{all_at}
use Rattle.numbered_theory.proofs.Entered.{entries_below}
use Rattle.numbered_theory.proofs.LeadAtoms.{zip_at, led_stays}
use Rattle.numbered_facts.proofs.Growing.{then}
use Rattle.numbered_theory.proofs.Loops.{from_err}
use Rattle.numbered_theory.proofs.PairsTried.{with_one, with_passed, with_taken}
use Rattle.numbered_theory.proofs.combining.combine_with.Goals as goal

pub combine_led-requires-clause-entries : goal.combine_led-requires-clause-entries
combine_led-requires-clause-entries c = entries_below c.args.store.now c.loop-i.store c.loop-i.invariant.grows c.args.entries.now c.requires.entries

pub combine_led-requires-clause-mine : goal.combine_led-requires-clause-mine
combine_led-requires-clause-mine c =
    let n = c.args.store.now in let ds = c.args.before.now in let d = c.index-before-i.result in let o = c.index-atoms-i.result in
    led_stays n c.loop-i.store c.loop-i.invariant.grows d.sum o (all_at (IsEntryBelow (length n.terms)) ds c.loop-i.i d c.requires.before c.loop-i-test.true c.index-before-i.is)
    (zip_at (λ (x : Entry) (p : Option ℕ). IsLed n.terms x.sum p) ds c.args.atoms.now c.loop-i.i d o c.requires.led c.loop-i-test.true c.index-before-i.is c.index-atoms-i.is)

pub combine_led-requires-clause-theirs : goal.combine_led-requires-clause-theirs
combine_led-requires-clause-theirs c =
    let s = c.args.e.now.sum in let o = c.lead_atom-theirs.result in
    led_stays c.args.store.now c.loop-i.store c.loop-i.invariant.grows s o c.requires.e (subst (λ (ts : List Tree). IsLed ts s o) c.terms.ensures c.lead_atom-theirs.ensures)

pub returns-in_err-combined-clause-attempts : goal.returns-in_err-combined-clause-attempts
returns-in_err-combined-clause-attempts c =
    let n = c.args.store.now in let es = c.args.entries.now in let e = c.args.e.now in let ds = c.args.before.now in
    from_err (λ r. AttemptsAt c.combine_led.new.store.terms r (with_one n es e ds)) c.from_residual.result c.in_err-combined.field-0.0 c.from_residual.ensures.1
    (λ f same wide. with_taken n c.loop-i.store c.loop-i.invariant.grows es c.requires.entries e c.requires.e ds c.loop-i.i c.index-before-i.result c.requires.before c.loop-i-test.true c.index-before-i.is leaves tt (c.in_err-combined.ensures.attempts (sym same ∙ wide)) c.loop-i.invariant.first)

pub returns-in-Some-clause-attempts : goal.returns-in-Some-clause-attempts
returns-in-Some-clause-attempts c =
    let here = rw c.in-Some.is at c.in_ok-combined.ensures.attempts in
    (here.0, with_taken c.args.store.now c.loop-i.store c.loop-i.invariant.grows c.args.entries.now c.requires.entries c.args.e.now c.requires.e c.args.before.now c.loop-i.i c.index-before-i.result c.requires.before c.loop-i-test.true c.index-before-i.is (gives (combined_at c.combine_led.new.store.terms c.in-Some.combined)) tt here.1 c.loop-i.invariant.first)

pub loop-i-preserved : goal.loop-i-preserved
loop-i-preserved c =
    let n = c.args.store.now in
    let here = rw c.in_default.is at c.in_ok-combined.ensures.attempts in
    record {
      grows = then n c.loop-i.store c.combine_led.new.store c.loop-i.invariant.grows c.in_ok-combined.ensures.grows;
      first = with_passed n c.loop-i.store c.loop-i.invariant.grows c.args.entries.now c.requires.entries c.args.e.now c.requires.e c.args.before.now c.loop-i.i c.index-before-i.result c.requires.before c.loop-i-test.true c.index-before-i.is here c.loop-i.invariant.first;
    }

pub returns-in_err-combined-clause-grows : goal.returns-in_err-combined-clause-grows
returns-in_err-combined-clause-grows c = then c.args.store.now c.loop-i.store c.combine_led.new.store c.loop-i.invariant.grows c.combine_led.ensures.grows

pub returns-in-Some-clause-grows : goal.returns-in-Some-clause-grows
returns-in-Some-clause-grows c = then c.args.store.now c.loop-i.store c.combine_led.new.store c.loop-i.invariant.grows c.in_ok-combined.ensures.grows

pub returns-clause-grows : goal.returns-clause-grows
returns-clause-grows c = c.loop-i.invariant.grows
