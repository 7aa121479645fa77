use Rattle.std.proofs.Common.{◌≡◌, true, rules}
use Rattle.logic_core.specs.Tree.{int}
use Rattle.logic_core.specs.Sorts.{is}
use Rattle.proof_core.specs.Context.{named}
use Rattle.proof_check.proofs.Appending.{three_at_once}
use Rattle.proof_check.proofs.children.trichotomy.Goals as goal

pub returns-in_err-same : goal.returns-in_err-same
returns-in_err-same c =
    let of_int : is int (named c.args.defs.now c.args.context.now c.args.d.now) ≡ true = search rules in
    rw (three_at_once c.args.defs.now c.args.context.now c.args.d.now of_int) (search rules)

pub returns-in_err-above : goal.returns-in_err-above
returns-in_err-above c =
    let of_int : is int (named c.args.defs.now c.args.context.now c.args.d.now) ≡ true = search rules in
    rw (three_at_once c.args.defs.now c.args.context.now c.args.d.now of_int) (search rules)

pub returns : goal.returns
returns c =
    let of_int : is int (named c.args.defs.now c.args.context.now c.args.d.now) ≡ true = search rules in
    rw (three_at_once c.args.defs.now c.args.context.now c.args.d.now of_int) (search rules)
