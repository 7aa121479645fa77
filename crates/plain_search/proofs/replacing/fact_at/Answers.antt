use Rattle.std.proofs.Common.{refl, length}
use Rattle.std.proofs.lemmas.Option.{slice_get_read}
use Rattle.plain_search.proofs.replacing.fact_at.Goals as goal

pub returns-clause-got : goal.returns-clause-got
returns-clause-got c = slice_get_read c.args.facts.now (length c.args.facts.now) c.args.at c.index-facts-at.result refl c.requires c.index-facts-at.is
