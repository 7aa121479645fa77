use Rattle.std.proofs.Common.{sym, ap, ◌∙◌, ◌++◌, drop}
use Rattle.std.proofs.lemmas.List.{nil_from_length}
use Rattle.bpl_dependencies.specs.Reach.{edges_seen}
use Rattle.bpl_dependencies.specs.Rounds.{round_of}
use Rattle.bpl_dependencies.proofs.Reaching.{ended}
use Rattle.bpl_dependencies.proofs.reach.round.Goals as goal

pub returns-in-None : goal.returns-in-None
returns-in-None c =
    let left = drop c.loop-flag.flag-index c.args.base.now in
    sym (ended c.loop-flag.next.items left c.args.flags.now)
    ∙ ap (λ es. c.loop-flag.next.items ++ round_of left (edges_seen es) c.args.flags.now) (sym (nil_from_length c.loop-flag.rest.now c.in-None.ensures.cases))
    ∙ c.loop-flag.invariant
