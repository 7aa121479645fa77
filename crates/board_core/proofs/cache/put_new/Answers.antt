use mathlib.Core.Path.{◌∙◌}
use Rattle.indexmap.proofs.CallerLemmas.{insert_entry-new}
use Rattle.board_core.proofs.cache.put_new.Goals as goal

pub returns-clause-entries : goal.returns-clause-entries
returns-clause-entries g c = (rw c.unwrap.ensures at c.insert.ensures.entries) ∙ insert_entry-new _ c.args.kept.now c.args.key c.args.answer c.requires.new
