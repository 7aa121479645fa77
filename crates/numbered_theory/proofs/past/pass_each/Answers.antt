use Rattle.std.proofs.Common.{sym, ◌∙◌}
use Rattle.proof_core.specs.Maps.{at_zero, above_zero}
use Rattle.term_bank.specs.Numbered.{at}
use Rattle.theory_rules.specs.Past.{three_passed}
use Rattle.numbered_branches.specs.Applied.{GivesMoveAt}
use Rattle.numbered_branches.specs.Branches.{branch_at}
use Rattle.numbered_branches.proofs.Changing.{branch_more}
use Rattle.numbered_facts.proofs.Growing.{then}
use Rattle.numbered_theory.proofs.Loops.{from_err}
use Rattle.numbered_theory.proofs.Passing.{pass_later, below_none, same_none, above_none, three_done}
use Rattle.numbered_branches.proofs.Growing.{below}
use Rattle.numbered_theory.proofs.past.pass_each.Goals as goal

pub returns-in_err-below-clause-gives : goal.returns-in_err-below-clause-gives
returns-in_err-below-clause-gives c =
    let n = c.args.store.now in let u = c.pass_below.new.store in let code = c.args.branch.now in
    let b = branch_at n.terms code in let t = at n.terms c.args.access in
    let d = at n.terms c.args.distance in let before = at n.terms c.args.before in let value = at n.terms c.args.value in
    from_err (λ r. GivesMoveAt c.pass_below.new.store.terms r (three_passed n.defs b t d before value)) c.from_residual.result c.in_err-below.field-0.0 c.from_residual.ensures.1
    (λ e is wide. below_none n.defs b t d before value (c.in_err-below.ensures.gives (sym is ∙ wide)))

pub pass_same-requires-clause-branch : goal.pass_same-requires-clause-branch
pass_same-requires-clause-branch c = (branch_more c.args.store.now.terms c.pass_below.new.store.terms c.in_ok-below.ensures.grows.terms c.args.branch.now c.requires.branch).0

pub returns-in_err-same-clause-gives : goal.returns-in_err-same-clause-gives
returns-in_err-same-clause-gives c =
    let n = c.args.store.now in let u = c.pass_below.new.store in let code = c.args.branch.now in
    let b = branch_at n.terms code in let t = at n.terms c.args.access in
    let d = at n.terms c.args.distance in let before = at n.terms c.args.before in let value = at n.terms c.args.value in
    let to_u = c.in_ok-below.ensures.grows in
    let second = pass_later n u to_u code c.requires.branch at_zero c.args.access c.args.distance c.args.value c.requires.access c.requires.distance c.requires.value in
    from_err (λ r. GivesMoveAt c.pass_same.new.store.terms r (three_passed n.defs b t d before value)) c.from_residual-in_err-same.result c.in_err-same.field-0.0 c.from_residual-in_err-same.ensures.1
    (λ e is wide. same_none n.defs b t d before value _ c.in_ok-below.ensures.gives.1 (sym second ∙ c.in_err-same.ensures.gives (sym is ∙ wide)))

pub pass_above-requires-clause-branch : goal.pass_above-requires-clause-branch
pass_above-requires-clause-branch c =
    let n = c.args.store.now in let w = c.pass_same.new.store in
    (branch_more n.terms w.terms (then n c.pass_below.new.store w c.in_ok-below.ensures.grows c.in_ok-same.ensures.grows).terms c.args.branch.now c.requires.branch).0

pub returns-in_err-above-clause-gives : goal.returns-in_err-above-clause-gives
returns-in_err-above-clause-gives c =
    let n = c.args.store.now in let u = c.pass_below.new.store in let code = c.args.branch.now in
    let b = branch_at n.terms code in let t = at n.terms c.args.access in
    let d = at n.terms c.args.distance in let before = at n.terms c.args.before in let value = at n.terms c.args.value in
    let to_u = c.in_ok-below.ensures.grows in
    let second = pass_later n u to_u code c.requires.branch at_zero c.args.access c.args.distance c.args.value c.requires.access c.requires.distance c.requires.value in
    let w = c.pass_same.new.store in let to_w = then n u w to_u c.in_ok-same.ensures.grows in
    let third = pass_later n w to_w code c.requires.branch above_zero c.args.access c.args.distance c.args.before c.requires.access c.requires.distance c.requires.before in
    from_err (λ r. GivesMoveAt c.pass_above.new.store.terms r (three_passed n.defs b t d before value)) c.from_residual-in_err-above.result c.in_err-above.field-0.0 c.from_residual-in_err-above.ensures.1
    (λ e is wide. above_none n.defs b t d before value _ _ c.in_ok-below.ensures.gives.1 (sym second ∙ c.in_ok-same.ensures.gives.1) (sym third ∙ c.in_err-above.ensures.gives (sym is ∙ wide)))

pub returns-clause-gives : goal.returns-clause-gives
returns-clause-gives c =
    let n = c.args.store.now in let u = c.pass_below.new.store in let code = c.args.branch.now in
    let b = branch_at n.terms code in let t = at n.terms c.args.access in
    let d = at n.terms c.args.distance in let before = at n.terms c.args.before in let value = at n.terms c.args.value in
    let to_u = c.in_ok-below.ensures.grows in
    let second = pass_later n u to_u code c.requires.branch at_zero c.args.access c.args.distance c.args.value c.requires.access c.requires.distance c.requires.value in
    let w = c.pass_same.new.store in let to_w = then n u w to_u c.in_ok-same.ensures.grows in
    let third = pass_later n w to_w code c.requires.branch above_zero c.args.access c.args.distance c.args.before c.requires.access c.requires.distance c.requires.before in
    three_done n u w c.pass_above.new.store to_u c.in_ok-same.ensures.grows c.in_ok-above.ensures.grows b c.args.access d before value c.requires.access
    c.in_ok-below.below c.in_ok-same.same c.in_ok-above.above c.in_ok-made.made.items c.in_ok-made.ensures.items c.in_ok-below.ensures.gives.0 c.in_ok-same.ensures.gives.0 c.in_ok-above.ensures.gives.0
    c.in_ok-below.ensures.gives.1 (sym second ∙ c.in_ok-same.ensures.gives.1) (sym third ∙ c.in_ok-above.ensures.gives.1)

pub pass_below-requires-clause-branch : goal.pass_below-requires-clause-branch
pass_below-requires-clause-branch c = c.requires.branch

pub pass_below-requires-clause-vars : goal.pass_below-requires-clause-vars
pass_below-requires-clause-vars c = c.requires.vars

pub pass_below-requires-clause-access : goal.pass_below-requires-clause-access
pass_below-requires-clause-access c = c.requires.access

pub pass_below-requires-clause-distance : goal.pass_below-requires-clause-distance
pass_below-requires-clause-distance c = c.requires.distance

pub pass_below-requires-clause-said : goal.pass_below-requires-clause-said
pass_below-requires-clause-said c = c.requires.before

pub pass_same-requires-clause-vars : goal.pass_same-requires-clause-vars
pass_same-requires-clause-vars c = c.in_ok-below.ensures.grows.vars ∙ c.requires.vars

pub pass_same-requires-clause-access : goal.pass_same-requires-clause-access
pass_same-requires-clause-access c = below c.args.store.now c.pass_below.new.store c.args.access c.in_ok-below.ensures.grows c.requires.access

pub pass_same-requires-clause-distance : goal.pass_same-requires-clause-distance
pass_same-requires-clause-distance c = below c.args.store.now c.pass_below.new.store c.args.distance c.in_ok-below.ensures.grows c.requires.distance

pub pass_same-requires-clause-said : goal.pass_same-requires-clause-said
pass_same-requires-clause-said c = below c.args.store.now c.pass_below.new.store c.args.value c.in_ok-below.ensures.grows c.requires.value

pub pass_above-requires-clause-vars : goal.pass_above-requires-clause-vars
pass_above-requires-clause-vars c = (then c.args.store.now c.pass_below.new.store c.pass_same.new.store c.in_ok-below.ensures.grows c.in_ok-same.ensures.grows).vars ∙ c.requires.vars

pub pass_above-requires-clause-access : goal.pass_above-requires-clause-access
pass_above-requires-clause-access c = below c.args.store.now c.pass_same.new.store c.args.access (then c.args.store.now c.pass_below.new.store c.pass_same.new.store c.in_ok-below.ensures.grows c.in_ok-same.ensures.grows) c.requires.access

pub pass_above-requires-clause-distance : goal.pass_above-requires-clause-distance
pass_above-requires-clause-distance c = below c.args.store.now c.pass_same.new.store c.args.distance (then c.args.store.now c.pass_below.new.store c.pass_same.new.store c.in_ok-below.ensures.grows c.in_ok-same.ensures.grows) c.requires.distance

pub pass_above-requires-clause-said : goal.pass_above-requires-clause-said
pass_above-requires-clause-said c = below c.args.store.now c.pass_same.new.store c.args.before (then c.args.store.now c.pass_below.new.store c.pass_same.new.store c.in_ok-below.ensures.grows c.in_ok-same.ensures.grows) c.requires.before

pub returns-in_err-below-clause-grows : goal.returns-in_err-below-clause-grows
returns-in_err-below-clause-grows c = c.pass_below.ensures.grows

pub returns-in_err-same-clause-grows : goal.returns-in_err-same-clause-grows
returns-in_err-same-clause-grows c = then c.args.store.now c.pass_below.new.store c.pass_same.new.store c.in_ok-below.ensures.grows c.pass_same.ensures.grows

pub returns-in_err-above-clause-grows : goal.returns-in_err-above-clause-grows
returns-in_err-above-clause-grows c = then c.args.store.now c.pass_same.new.store c.pass_above.new.store (then c.args.store.now c.pass_below.new.store c.pass_same.new.store c.in_ok-below.ensures.grows c.in_ok-same.ensures.grows) c.pass_above.ensures.grows

pub returns-in_err-made-clause-grows : goal.returns-in_err-made-clause-grows
returns-in_err-made-clause-grows c = then c.args.store.now c.pass_same.new.store c.pass_above.new.store (then c.args.store.now c.pass_below.new.store c.pass_same.new.store c.in_ok-below.ensures.grows c.in_ok-same.ensures.grows) c.in_ok-above.ensures.grows

pub returns-clause-grows : goal.returns-clause-grows
returns-clause-grows c = then c.args.store.now c.pass_same.new.store c.pass_above.new.store (then c.args.store.now c.pass_below.new.store c.pass_same.new.store c.in_ok-below.ensures.grows c.in_ok-same.ensures.grows) c.in_ok-above.ensures.grows
