use Rattle.std.proofs.Common.{take}
use Rattle.numbered_logic.proofs.Closed.{none_among}
use Rattle.numbered_logic.proofs.closing.closing_pair.Goals as goal

pub pair_behind-requires-clause-start : goal.pair_behind-requires-clause-start
pair_behind-requires-clause-start c = none_among c.args.terms.now c.are_stored.ensures c.args.apart.now c.requires.apart (take c.count_listed-start.result c.args.denied.now) c.count_listed-start.ensures
