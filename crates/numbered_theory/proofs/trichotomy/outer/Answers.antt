use Rattle.std.proofs.Common.{◌≡◌, sym, ap, ◌∙◌, true, false}
use Rattle.term_bank.specs.Numbered.{at}
use Rattle.theory_rules.specs.Trichotomy.{is_not}
use Rattle.numbered_branches.specs.Branches.{branch_at}
use Rattle.numbered_theory.specs.Places.{place_at}
use Rattle.numbered_theory.specs.declared.undecided.Place.{Place}
use Rattle.numbered_theory.proofs.Deciding.{outer_goes, outer_whole}
use Rattle.numbered_theory.proofs.trichotomy.outer.Goals as goal

pub returns-then-is_not : goal.returns-then-is_not
returns-then-is_not c =
    let ts = c.args.terms.now in let b = c.args.branch.now in let p = c.args.place.now in
    let denies : is_not (at ts p.fact.term) ≡ true = ap (λ (q : Place). is_not (at ts q.fact.term)) (sym c.place.view_is) ∙ sym c.if-is_not.ensures in
    rw (c.without.ensures, c.in_ok-copy.ensures) (outer_goes ts b p _ (ap (λ (q : Place). q.at) c.place.view_is) c.requires.branch denies)

pub returns : goal.returns
returns c =
    let ts = c.args.terms.now in let b = c.args.branch.now in let p = c.args.place.now in
    let says : is_not (at ts p.fact.term) ≡ false = ap (λ (q : Place). is_not (at ts q.fact.term)) (sym c.place.view_is) ∙ sym c.if-is_not.ensures in
    rw c.in_ok-copy.ensures (c.requires.branch, sym (outer_whole (branch_at ts b) (place_at ts p) says))
