use Rattle.std.proofs.Common.{◌≡◌, ◌≢◌, ◌∙◌, length, map, Some, rules}
use Rattle.proof_core.specs.Context.{with_fact}
use Rattle.proof_core.specs.Ends.{after_cases}
use Rattle.proof_check.proofs.Judging.{counted, miscounted}
use Rattle.proof_check.proofs.walk.after_cases.Goals as goal

pub returns-then-len-others-clause-cases : goal.returns-then-len-others-clause-cases
returns-then-len-others-clause-cases c =
    let old = c.args.context.now in
    let found : after_cases c.args.defs.now old c.args.f ≡ Some (with_fact old c.in_ok-cases.cases.first, map (λ t. with_fact old t) c.in_ok-cases.cases.others.items) = rw c.in_ok-fact.ensures.finds c.in_ok-cases.ensures in
    let other : length c.in_ok-cases.cases.others.items ≢ length c.args.others.now = search rules in
    λ _. miscounted old c.in_ok-cases.cases.first c.in_ok-cases.cases.others.items c.args.others.now _ found other

pub returns-clause-cases : goal.returns-clause-cases
returns-clause-cases c =
    let old = c.args.context.now in
    let found : after_cases c.args.defs.now old c.args.f ≡ Some (with_fact old c.in_ok-cases.cases.first, map (λ t. with_fact old t) c.in_ok-cases.cases.others.items) = rw c.in_ok-fact.ensures.finds c.in_ok-cases.ensures in
    let same : length c.in_ok-cases.cases.others.items ≡ length c.args.others.now = search rules in
    counted old c.in_ok-cases.cases.first c.in_ok-cases.cases.others.items c.args.others.now _ found same ∙ found
