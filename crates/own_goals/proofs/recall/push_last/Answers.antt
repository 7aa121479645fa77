use Rattle.std.specs.Arc.{arc_value}
use Rattle.own_goals.proofs.Standing.{last_recalled, last_within}
use Rattle.own_goals.proofs.recall.push_last.Goals as goal

pub last_ones-requires : goal.last_ones-requires
last_ones-requires c = last_within arc_value arc_value c.args.questions.now c.args.told.now.answers.items _ _ c.args.to c.requires.stand c.requires.last

pub returns : goal.returns
returns c = last_recalled arc_value arc_value c.keys_tell_apart.ensures c.args.questions.now c.args.told.now.answers.items _ _ c.args.to _ _ _ c.requires.stand c.requires.to c.requires.last c.requires.before c.last_ones.ensures c.in_ok-push_answers.ensures
