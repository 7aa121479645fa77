use Rattle.std.proofs.Common.{rules}
use Rattle.indexmap.proofs.CallerLemmas.{filter-RetainsPairs}
use Rattle.board_core.specs.Present.{is_present}
use Rattle.board_core.proofs.present.drop_absent.Goals as goal

pub returns-clause-entries : goal.returns-clause-entries
returns-clause-entries g c = filter-RetainsPairs _ (λ e. is_present c.args.present.now.keys e.0.items) _ (λ k v b w f call. search rules) _ _ c.retain.ensures.filtered
