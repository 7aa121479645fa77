use Rattle.std.proofs.Common.{◌∙◌, ◌+◌, ap, get_or}
use Rattle.numbered_instances.proofs.SharedAtoms.{one_more}
use Rattle.numbered_instances.proofs.counts.add_one.Goals as goal

pub returns : goal.returns
returns c = one_more c.args.counts.now.items c.make_room.new.counts.items c.set_count.new.counts.items c.args.id c.in_ok-more.more c.make_room.ensures.same
    (c.in_ok-more.ensures ∙ ap (λ n. n + 1) (c.count_of.ensures ∙ ap (λ xs. get_or xs c.args.id 0) c.deref.ensures.value)) c.set_count.ensures
