use Rattle.std.proofs.Common.{◌≡◌, ◌∙◌, subst, find, flat_map}
use Rattle.std.specs.Prelude.{IfOk}
use Rattle.logic_rules.specs.Instantiating.{is_unmarked, candidates_of, ground_terms}
use Rattle.plain_search.proofs.instantiating.first_candidate.Goals as goal

pub returns : goal.returns
returns c =
    let d = c.args.defs.now in
    let b = c.args.branch.now in
    let ground : c.deref.result.now ≡ ground_terms b = c.deref.ensures.value ∙ c.in_ok-ground.ensures in
    let over = subst (λ fs. IfOk c.first_in.result (λ o. o ≡ find (is_unmarked b) (flat_map (candidates_of d b c.deref.result.now) fs))) c.facts_of.ensures c.first_in.ensures in
    subst (λ gs. IfOk c.first_in.result (λ o. o ≡ find (is_unmarked b) (flat_map (candidates_of d b gs) b.facts))) ground over
