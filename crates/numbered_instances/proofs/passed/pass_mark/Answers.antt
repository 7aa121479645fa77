use Rattle.std.proofs.Common.{◌≡◌, ◌∙◌, ◌<◌, ◌||◌, ◌∷◌, [], sym, ap, subst, length, nat_eq}
use Rattle.std.specs.List.{list_any}
use Rattle.std.proofs.lemmas.Bool.{eqb-true}
use Rattle.std.proofs.lemmas.Result.{on_ok_weaker}
use Rattle.logic_core.specs.Same.{same_trees}
use Rattle.logic_core.specs.View.{trees_of}
use Rattle.term_bank.specs.Numbered.{at}
use Rattle.numbered_branches.specs.Branches.{NumberedMark, terms_in}
use Rattle.numbered_instances.proofs.Passing.{mark_joins, mark_of_other}
use Rattle.numbered_instances.proofs.passed.pass_mark.Goals as goal

pub pass_tuple-requires : goal.pass_tuple-requires
pass_tuple-requires c = subst (λ (m : NumberedMark). m.tuple < length c.args.terms.now) (sym c.mark.view_is) c.requires.mark.1

pub returns-then-eq : goal.returns-then-eq
returns-then-eq c = let m = c.args.mark.now in
    let of_fact = ap (λ (m : NumberedMark). m.fact) (sym c.mark.view_is) ∙ eqb-true c.mark.inside.fact c.args.fact (sym c.eq.ensures ∙ c.if-eq.true) in
    on_ok_weaker c.pass_tuple.result (λ h j low. mark_joins c.args.terms.now m c.args.fact j c.args.passed.now c.pass_tuple.new.passed of_fact
    (subst (λ (n : NumberedMark). list_any (nat_eq j) c.pass_tuple.new.passed ≡ (list_any (nat_eq j) c.args.passed.now || same_trees (trees_of (terms_in (at c.args.terms.now n.tuple))) (trees_of (at c.args.terms.now j ∷ [])))) c.mark.view_is (h j low))) c.pass_tuple.ensures

pub returns : goal.returns
returns c = λ j low. let m = c.args.mark.now in
    mark_of_other c.args.terms.now c.are_stored.ensures m c.args.fact j c.args.passed.now c.requires.mark.0 c.requires.fact (ap (λ (n : NumberedMark). nat_eq n.fact c.args.fact) (sym c.mark.view_is) ∙ sym c.eq.ensures ∙ c.if-eq.false)
