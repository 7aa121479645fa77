use Rattle.std.proofs.Common.{length}
use Rattle.fault_text.proofs.InOrder.{inside_at}
use Rattle.fault_text.proofs.words.word_beginning.Goals as goal

pub text_in-requires-clause-ordered : goal.text_in-requires-clause-ordered
text_in-requires-clause-ordered c =
    (inside_at 0 (length c.args.text.now) c.args.tokens.now c.loop-token.token-index c.token-item.result c.requires c.loop-token-test.true c.token-item.is).ordered

pub text_in-requires-clause-inside : goal.text_in-requires-clause-inside
text_in-requires-clause-inside c =
    (inside_at 0 (length c.args.text.now) c.args.tokens.now c.loop-token.token-index c.token-item.result c.requires c.loop-token-test.true c.token-item.is).within
