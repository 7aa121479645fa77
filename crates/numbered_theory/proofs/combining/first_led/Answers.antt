use Rattle.std.proofs.Common.{◌∙◌, ℕ, Option, List, sym, subst, take, length, arith}
use Rattle.std.specs.List.{AllByRecursion}
use Rattle.std.proofs.lemmas.Slice.Zip.{AllZip-long}
use Rattle.logic_core.specs.Tree.{Tree}
use Rattle.tableau_branch.specs.Branch.{leaves, gives}
use Rattle.tableau_branch.proofs.Lists.{take_item}
use Rattle.theory_rules.specs.Combining.{combine_pair}
use Rattle.numbered_theory.specs.Entries.{entries_at, IsEntryBelow}
use Rattle.numbered_theory.specs.Leads.{IsNoted, IsLed}
use Rattle.numbered_theory.specs.Combined.{combined_at, AttemptsAt}
use Rattle.numbered_theory.specs.declared.entries.Entry.{Entry}
use Rattle.numbered_branches.proofs.Changing.{all_take}
use Rattle.numbered_facts.proofs.Growing.{same, then}
use Rattle.numbered_theory.proofs.LeadAtoms.{zip_take, all_led_stay}
use Rattle.numbered_theory.proofs.Loops.{from_err}
use Rattle.numbered_theory.proofs.PairsKept.{pairs_left}
use Rattle.numbered_theory.proofs.PairsTried.{all_pairs, pairs_next, pairs_done, next_tried}
use Rattle.numbered_theory.proofs.TriedPairs.{all_tried, tried_whole, as_many}
use Rattle.numbered_theory.proofs.combining.first_led.Goals as goal

pub note_each-requires : goal.note_each-requires
note_each-requires c = let n = c.args.store.now in
    subst (λ (ts : List Tree). AllByRecursion (IsEntryBelow (length ts)) (take c.args.pairs.now c.args.entries.now)) (sym c.terms.ensures) (all_take (IsEntryBelow (length n.terms)) c.args.pairs.now c.args.entries.now c.requires.entries)

pub loop-i-init : goal.loop-i-init
loop-i-init c = let n = c.args.store.now in let es = c.args.entries.now in
    record {
      grows = same n;
      first = pairs_left (combine_pair (entries_at n.terms es)) (entries_at n.terms es) c.args.pairs.now c.requires.tried;
      tried = c.requires.tried;
      noted = subst (λ (ts : List Tree). AllByRecursion (IsNoted ts c.note_each.new.leads.above c.note_each.new.leads.below) (take c.args.pairs.now es)) c.terms.ensures c.in_ok-note_each.ensures;
    }

pub combine_next-requires-clause-as_many : goal.combine_next-requires-clause-as_many
combine_next-requires-clause-as_many c =
    let n = c.args.store.now in let es = c.args.entries.now in let os = c.args.atoms.now in let i = c.loop-i.i in
    AllZip-long (λ (e : Entry) (o : Option ℕ). IsLed n.terms e.sum o) (take i es) (take i os) (zip_take (λ (e : Entry) (o : Option ℕ). IsLed n.terms e.sum o) i es os c.requires.led)

pub combine_next-requires-clause-led : goal.combine_next-requires-clause-led
combine_next-requires-clause-led c =
    let n = c.args.store.now in let m = c.loop-i.store in let es = c.args.entries.now in let os = c.args.atoms.now in
    zip_take (λ (e : Entry) (o : Option ℕ). IsLed m.terms e.sum o) c.loop-i.i es os (all_led_stay n m c.loop-i.invariant.grows es os c.requires.entries c.requires.led)

pub returns-in_err-combined-clause-attempts : goal.returns-in_err-combined-clause-attempts
returns-in_err-combined-clause-attempts c =
    let n = c.args.store.now in let es = c.args.entries.now in
    from_err (λ r. AttemptsAt c.combine_next.new.store.terms r (all_pairs n es)) c.from_residual-in_err-combined.result c.in_err-combined.field-0.0 c.from_residual-in_err-combined.ensures.1
    (λ d same wide. pairs_done n c.loop-i.store c.loop-i.invariant.grows es c.requires.entries c.loop-i.i c.index-entries-i.result (omega (arith, c.loop-i-test.true)) c.index-entries-i.is leaves tt (c.in_err-combined.ensures.attempts (sym same ∙ wide)) c.loop-i.invariant.first)

pub returns-in-Some-clause-attempts : goal.returns-in-Some-clause-attempts
returns-in-Some-clause-attempts c =
    let here = rw c.in-Some.is at c.in_ok-combined.ensures.attempts in
    (here.0, pairs_done c.args.store.now c.loop-i.store c.loop-i.invariant.grows c.args.entries.now c.requires.entries c.loop-i.i c.index-entries-i.result (omega (arith, c.loop-i-test.true)) c.index-entries-i.is (gives (combined_at c.combine_next.new.store.terms c.in-Some.combined)) tt here.1 c.loop-i.invariant.first)

pub returns-in-Some-clause-tried : goal.returns-in-Some-clause-tried
returns-in-Some-clause-tried c = c.loop-i.invariant.tried

pub loop-i-preserved : goal.loop-i-preserved
loop-i-preserved c =
    let n = c.args.store.now in let es = c.args.entries.now in let e = c.index-entries-i.result in let m = c.loop-i.store in
    let here = rw c.in_default.is at c.in_ok-combined.ensures.attempts in
    record {
      grows = then n m c.combine_next.new.store c.loop-i.invariant.grows c.in_ok-combined.ensures.grows;
      first = pairs_next n m c.loop-i.invariant.grows es c.requires.entries c.loop-i.i e (omega (arith, c.loop-i-test.true)) c.index-entries-i.is here c.loop-i.invariant.first;
      tried = next_tried n m c.loop-i.invariant.grows es c.requires.entries c.loop-i.i e (omega (arith, c.loop-i-test.true)) c.index-entries-i.is here c.loop-i.invariant.tried;
      noted = subst (AllByRecursion (IsNoted c.combine_next.new.store.terms c.combine_next.new.leads.above c.combine_next.new.leads.below)) (sym (take_item es c.loop-i.i e (omega (arith, c.loop-i-test.true)) c.index-entries-i.is)) c.in_ok-combined.ensures.noted;
    }

pub returns-clause-attempts : goal.returns-clause-attempts
returns-clause-attempts c = let ts = c.args.store.now.terms in all_tried (entries_at ts c.args.entries.now) c.loop-i.i (as_many ts c.args.entries.now c.loop-i.i (omega (arith, c.loop-i-test.false))) c.loop-i.invariant.tried

pub returns-clause-tried : goal.returns-clause-tried
returns-clause-tried c = tried_whole c.args.store.now.terms c.args.entries.now c.loop-i.i (omega (arith, c.loop-i-test.false)) c.loop-i.invariant.tried

pub returns-in_err-combined-clause-grows : goal.returns-in_err-combined-clause-grows
returns-in_err-combined-clause-grows c = then c.args.store.now c.loop-i.store c.combine_next.new.store c.loop-i.invariant.grows c.combine_next.ensures.grows

pub returns-in-Some-clause-grows : goal.returns-in-Some-clause-grows
returns-in-Some-clause-grows c = then c.args.store.now c.loop-i.store c.combine_next.new.store c.loop-i.invariant.grows c.in_ok-combined.ensures.grows

pub returns-clause-grows : goal.returns-clause-grows
returns-clause-grows c = c.loop-i.invariant.grows
