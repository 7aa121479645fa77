use Rattle.std.proofs.Common.{◌∙◌}
use Rattle.bpl_lex.specs.Shape.{words}
use Rattle.bpl_lex.proofs.EitherWay.{some_is}
use Rattle.bpl_lex.proofs.words.is_word.Goals as goal

pub returns : goal.returns
returns c = c.contains.ensures.value ∙ some_is words c.args.name.now
