use Rattle.std.proofs.Common.{◌∙◌, ap, filter, arith, length}
use Rattle.std.proofs.lemmas.List.{take_all}
use Rattle.tableau_branch.specs.Oriented.{is_application}
use Rattle.term_bank.specs.Numbered.{at}
use Rattle.numbered_facts.proofs.Found.{kept_next}
use Rattle.numbered_terms.proofs.Items.{item_below}
use Rattle.numbered_facts.proofs.standing.applications.Goals as goal

pub loop-id-preserved : goal.loop-id-preserved
loop-id-preserved c = kept_next (λ i. is_application (at c.args.terms.now i)) c.args.ids.now c.loop-id.id-index c.id-item.result c.loop-id.found.items c.push_where.new.ids.items c.is_application.result
    c.loop-id-test.true c.id-item.is c.is_application.ensures c.loop-id.invariant c.in_ok-push_where.ensures

pub returns : goal.returns
returns c = c.loop-id.invariant ∙ ap (filter (λ i. is_application (at c.args.terms.now i))) (take_all c.loop-id.id-index c.args.ids.now (omega (arith, c.loop-id-test.false)))

pub is_application-requires : goal.is_application-requires
is_application-requires c = item_below (length c.args.terms.now) c.args.ids.now c.loop-id.id-index c.id-item.result c.requires c.loop-id-test.true c.id-item.is
