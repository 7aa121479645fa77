use Rattle.std.proofs.Common.{◌∙◌, refl, sym, ap, subst, List, [], map}
use Rattle.logic_core.specs.Tree.{Tree}
use Rattle.tableau_branch.specs.Branch.{with_facts}
use Rattle.logic_rules.specs.Closing.{close}
use Rattle.logic_rules.specs.View.{close_of}
use Rattle.numbered_branches.specs.Branches.{NumberedBranch}
use Rattle.numbered_branches.specs.declared.played.Ending.TheVariants.{Closes}
use Rattle.numbered_logic.specs.Apart.{AreApart}
use Rattle.numbered_logic.specs.Denied.{AreDenied, denied_at}
use Rattle.numbered_logic.specs.Forms.{branch_over}
use Rattle.numbered_logic.proofs.Closed.{closed_by, not_closed}
use Rattle.numbered_logic.proofs.NoPair.{apart_later}
use Rattle.numbered_logic.proofs.closing.close_among.Goals as goal

pub closing_numbers-requires-clause-apart : goal.closing_numbers-requires-clause-apart
closing_numbers-requires-clause-apart c = let a = c.args.apart.now in
    subst (λ (ts : List Tree). AreApart ts a) (sym c.terms.ensures) (apart_later c.args.store.now.terms c.with_negations.new.store.terms c.with_negations.ensures.grows.terms a.facts a.negations c.requires.apart)

pub returns-in-Some-clause-tries : goal.returns-in-Some-clause-tries
returns-in-Some-clause-tries c =
    let n = c.args.store.now in let m = c.with_negations.new.store in let b = c.args.branch in let ds = c.in_ok-denied.denied.items in let p = c.in-Some.first in let q = c.in-Some.second in
    let denied = subst (AreDenied m.terms ds) (c.deref.ensures.value ∙ ap (λ (d : NumberedBranch). d.facts) c.branch.view_is) c.in_ok-denied.ensures.denied in
    closed_by n m c.with_negations.ensures.grows b ds c.requires.branch denied (record { ending = Closes p q; made = c.new.result }) p q refl c.new.ensures.items
    (ap close_of (sym c.in-Some.is) ∙ c.closing_numbers.ensures ∙ λ k. close (with_facts (branch_over []) (map (denied_at (c.terms.ensures k)) (c.deref-2.ensures.value k))))

pub returns-in-None-clause-tries : goal.returns-in-None-clause-tries
returns-in-None-clause-tries c =
    let n = c.args.store.now in let m = c.with_negations.new.store in let b = c.args.branch in let ds = c.in_ok-denied.denied.items in
    let denied = subst (AreDenied m.terms ds) (c.deref.ensures.value ∙ ap (λ (d : NumberedBranch). d.facts) c.branch.view_is) c.in_ok-denied.ensures.denied in
    not_closed n m c.with_negations.ensures.grows b ds c.requires.branch denied
    (ap close_of (sym c.in-None.is) ∙ c.closing_numbers.ensures ∙ λ k. close (with_facts (branch_over []) (map (denied_at (c.terms.ensures k)) (c.deref-2.ensures.value k))))
