use Rattle.numbered_branches.specs.Branches.{NumberedBranch}
use Rattle.numbered_logic.proofs.Later.{without_at}
use Rattle.numbered_logic.proofs.found.without.Goals as goal

pub returns-clause-without : goal.returns-clause-without
returns-clause-without c =
    let i = c.branch.inside in let b : NumberedBranch = record { facts = i.facts.items; calls = i.calls.items; marks = i.marks.items; vars = i.vars.items; next = i.next } in
    rw (← c.branch.view_is) (without_at c.args.terms.now b c.args.at c.take_out.new.facts.items c.take_out.ensures)
