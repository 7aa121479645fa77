use Rattle.std.proofs.Common.{ap, ◌∙◌}
use Rattle.bpl_scopes.specs.KnownSorts.{names_in}
use Rattle.bpl_dependencies.specs.NamesAt.{name_at}
use Rattle.bpl_dependencies.proofs.NextNumbers.{name_looked}
use Rattle.bpl_dependencies.proofs.numbers.name_at.Goals as goal

pub returns : goal.returns
returns c = c.entry_name.ensures ∙ name_looked c.entries.result.now c.args.at ∙ ap (λ t. name_at (names_in t) c.args.at) c.entries.ensures
