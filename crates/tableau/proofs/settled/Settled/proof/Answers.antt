use Rattle.std.proofs.Common.{ap, sym, ◌∙◌}
use Rattle.std.specs.Prelude.{is_some}
use Rattle.tableau.specs.Search.{is_proved}
use Rattle.tableau.specs.Settled.{Settled}
use Rattle.tableau.proofs.FoundWhereProved.{finds_where_proved}
use Rattle.tableau.proofs.settled.Settled.proof.Goals as goal

pub returns-clause-exactly : goal.returns-clause-exactly
returns-clause-exactly c =
    let found = ap (λ (s : Settled). is_some s.found) c.self.invariant.answered in
    let verdict = ap (λ (s : Settled). is_proved s.verdict) c.self.invariant.answered in
    let exactly = ap (λ (s : Settled). is_proved s.verdict) c.self.view_is in
    c.as_ref.ensures.variant ∙ found ∙ finds_where_proved _ _ ∙ sym verdict ∙ exactly
