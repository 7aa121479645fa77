use Rattle.std.proofs.Common.{ap, sym, ◌∙◌, false}
use Rattle.bpl_scopes.specs.Positions.{first_at, beside}
use Rattle.bpl_scopes.specs.Functions.{is_logical}
use Rattle.bpl_scopes.specs.KnownSorts.{names_in}
use Rattle.bpl_scopes.specs.LogicalView.{logical_at}
use Rattle.bpl_scopes.proofs.Logical.{logical_known}
use Rattle.bpl_scopes.proofs.environment.Environment.is_logical.Goals as goal

pub returns : goal.returns
returns c =
    c.flag_at.ensures
    ∙ ap (λ fs. beside false fs (first_at c.args.name.now (names_in c.table.result.now))) (c.deref.ensures.value ∙ c.self.invariant)
    ∙ ap (λ t. beside false (logical_at c.self.inside.types) (first_at c.args.name.now (names_in t))) c.table.ensures
    ∙ sym (logical_known c.self.inside.types c.args.name.now)
    ∙ ap (λ t. is_logical t c.args.name.now) c.self.view_is
