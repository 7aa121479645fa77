use mathlib.Core.Path.{◌∙◌}
use Rattle.indexmap.proofs.CallerLemmas.{insert_entry-new}
use Rattle.bpl_scopes.proofs.names.put_first.Goals as goal

pub returns : goal.returns
returns c = (rw c.unwrap.ensures at c.insert.ensures.entries) ∙ insert_entry-new _ c.args.first.now c.args.name c.args.at c.requires.new
