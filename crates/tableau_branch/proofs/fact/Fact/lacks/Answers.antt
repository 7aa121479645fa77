use Rattle.std.proofs.Common.{◌∙◌, sym, ap}
use Rattle.logic_core.specs.TermView.{tree_of}
use Rattle.logic_core.specs.Variables.{variables}
use Rattle.tableau_branch.specs.Applications.{applications}
use Rattle.tableau_branch.proofs.Unlisted.{lacking_read, lacking_call}
use Rattle.tableau_branch.proofs.Unmentioned.{lacking}
use Rattle.tableau_branch.proofs.fact.Fact.lacks.Goals as goal

pub returns-in-Free : goal.returns-in-Free
returns-in-Free c =
    lacking c.contains.result c.in-Free.v c.args.term.now c.args.self.now.term c.deref.result.now c.contains.ensures.value
    (c.deref.ensures.value ∙ (c.self.invariant.1 ∙ ap (λ f. variables f.term) c.self.view_is)) (sym c.term.view_is ∙ ap tree_of c.in-Free.is)

pub returns-in-Read : goal.returns-in-Read
returns-in-Read c =
    lacking_read c.contains-in-Read.result c.args.hash _ _ c.args.term.now c.args.self.now.term c.deref-in-Read.result.now c.contains-in-Read.ensures.value
    (c.deref-in-Read.ensures.value ∙ (c.self.invariant.2 ∙ ap (λ f. applications f.term) c.self.view_is)) c.requires (sym c.term.view_is ∙ ap tree_of c.in-Read.is)

pub returns-in-Call : goal.returns-in-Call
returns-in-Call c =
    lacking_call c.contains-in-Call.result c.args.hash _ _ c.args.term.now c.args.self.now.term c.deref-in-Call.result.now c.contains-in-Call.ensures.value
    (c.deref-in-Call.ensures.value ∙ (c.self.invariant.2 ∙ ap (λ f. applications f.term) c.self.view_is)) c.requires (sym c.term.view_is ∙ ap tree_of c.in-Call.is)
