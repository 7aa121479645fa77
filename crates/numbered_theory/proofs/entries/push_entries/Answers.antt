use Rattle.std.proofs.lemmas.Result.{on_ok_weaker}
use Rattle.numbered_theory.proofs.Counting.{entries_more}
use Rattle.numbered_theory.proofs.entries.push_entries.Goals as goal

pub returns-clause-entries : goal.returns-clause-entries
returns-clause-entries c =
    on_ok_weaker c.push_count.result (λ e. entries_more c.args.store.now c.how_often.new.store c.args.entries.now.items c.push_count.new.entries.items c.in_ok-count.count c.in_ok-count.ensures.grows c.requires.entries
    c.fact.inside.term c.fact.inside.number c.args.fact.now c.fact.view_is c.in_ok-count.ensures.counts e) c.push_count.ensures
