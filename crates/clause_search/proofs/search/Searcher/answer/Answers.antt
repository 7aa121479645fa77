use Rattle.std.proofs.Common.{ap, sym, ◌∙◌}
use Rattle.logic_core.specs.Def.{Signature}
use Rattle.tableau.specs.Search.{Answer}
use Rattle.tableau.proofs.Starting.{answer_accepted}
use Rattle.clause_search.proofs.search.Searcher.answer.Goals as goal

pub answer_in-requires-clause-vars : goal.answer_in-requires-clause-vars
answer_in-requires-clause-vars c = c.in_ok-store.ensures.vars ∙ ap (λ (s : Signature). s.vars) c.signature.ensures.value

pub answer_in-requires-clause-defs : goal.answer_in-requires-clause-defs
answer_in-requires-clause-defs c = c.in_ok-store.ensures.defs ∙ ap (λ (s : Signature). s.defs) c.signature.ensures.value

pub returns-clause-accepted : goal.returns-clause-accepted
returns-clause-accepted c = answer_accepted c.args.obligation.now c.args.turns c.signature.ensures.sorted c.in_ok-answer.answer.proof (ap (λ (a : Answer). a.found) (sym c.in_ok-answer.ensures))
