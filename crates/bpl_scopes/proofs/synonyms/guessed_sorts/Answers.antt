use Rattle.std.proofs.Common.{◌∙◌}
use Rattle.bpl_scopes.proofs.SynonymRounds.{first_sorts}
use Rattle.bpl_scopes.proofs.synonyms.guessed_sorts.Goals as goal

pub put_sorts-requires : goal.put_sorts-requires
put_sorts-requires c = c.in_ok-sorts.ensures ∙ first_sorts c.args.table.now c.entries.result.now c.entries.ensures
