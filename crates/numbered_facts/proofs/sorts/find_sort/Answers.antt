use Rattle.numbered_forms.proofs.Memos.{kept_more, kept_alike}
use Rattle.numbered_facts.specs.Memos.{IsSort}
use Rattle.numbered_facts.proofs.Found.{there_now}
use Rattle.numbered_facts.proofs.sorts.find_sort.Goals as goal

pub returns-in_err-keep_sort-clause-right : goal.returns-in_err-keep_sort-clause-right
returns-in_err-keep_sort-clause-right c =
    kept_alike (IsSort (record { terms = c.args.terms.now; vars = c.args.vars.now; defs = c.args.defs.now })) c.args.memo.now.slots.items c.keep_sort.new.memo.slots.items c.in_err-keep_sort.ensures.memory c.requires.right

pub returns-clause-right : goal.returns-clause-right
returns-clause-right c =
    kept_more (IsSort (record { terms = c.args.terms.now; vars = c.args.vars.now; defs = c.args.defs.now })) c.args.memo.now.slots.items c.keep_sort.new.memo.slots.items c.args.id c.in_ok-sort.sort c.in_ok-keep_sort.ensures.ok c.requires.right (c.requires.id, c.in_ok-sort.ensures)

pub returns-clause-there : goal.returns-clause-there
returns-clause-there c = there_now c.args.id c.in_ok-sort.sort c.args.memo.now.slots.items c.keep_sort.new.memo.slots.items c.in_ok-keep_sort.ensures.ok
