use Rattle.std.proofs.Common.{ap, sym, ◌∙◌}
use Rattle.bpl_scopes.specs.Positions.{first_at}
use Rattle.bpl_scopes.specs.Scopes.{entity_of}
use Rattle.bpl_scopes.specs.TableView.{looked}
use Rattle.bpl_scopes.proofs.FirstAt.{entity_looked}
use Rattle.bpl_scopes.proofs.table.Table.entity.Goals as goal

pub returns : goal.returns
returns c =
    c.entity_at.ensures ∙ ap (λ es. looked es c.find.result) c.deref.ensures.value
    ∙ ap (looked c.self.inside.entries.items) (c.find.ensures ∙ ap (first_at c.args.name.now) c.self.invariant)
    ∙ sym (entity_looked c.self.inside.entries.items c.args.name.now)
    ∙ ap (λ t. entity_of t c.args.name.now) c.self.view_is
