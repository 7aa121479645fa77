use Rattle.bpl_model.proofs.Numbers.{built}
use Rattle.bpl_model.proofs.variables.variables_from.Goals as goal

pub returns : goal.returns
returns c =
    built c.args.consts.now c.args.globals.now c.args.ins.now c.args.outs.now c.args.locals.now _ _ _ _ _ _ _ _ _ _ _ _ _ _ _
    c.new-sorts.ensures.items
    c.in_ok-first_global.ensures.pushed c.in_ok-first_global.ensures.count
    c.in_ok-first_entry.ensures.pushed c.in_ok-first_entry.ensures.count
    c.in_ok-first_in.ensures.pushed c.in_ok-first_in.ensures.count
    c.in_ok-first_out.ensures.pushed c.in_ok-first_out.ensures.count
    c.in_ok-first_local.ensures.pushed c.in_ok-first_local.ensures.count
    c.in_ok-count.ensures.pushed c.in_ok-count.ensures.count
    c.of.ensures
    c.count_own.ensures
