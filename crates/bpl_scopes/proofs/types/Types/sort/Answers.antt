use Rattle.std.proofs.Common.{◌≡◌, ap, subst, ◌∙◌, IfOk}
use Rattle.bpl_scopes.specs.Shape.{kind_seen}
use Rattle.bpl_scopes.specs.Sorts.{sort_by, sort_of_type}
use Rattle.bpl_scopes.specs.KnownSorts.{hidden_seen, shapes_seen, sort_unless}
use Rattle.bpl_scopes.proofs.SynonymRounds.{sort_known}
use Rattle.bpl_scopes.proofs.types.Types.sort.Goals as goal

pub returns : goal.returns
returns c =
    let H = hidden_seen c.args.hidden.now in
    let same = ap (λ xs. sort_by (sort_unless H c.self.inside.table (shapes_seen xs)) c.args.of.now) c.deref.ensures.value
    ∙ sort_known c.self.inside.table H (shapes_seen c.self.inside.sorts.items) c.args.of.now c.self.invariant.0
    ∙ ap (λ t. sort_of_type t H c.args.of.now) c.self.view_is in
    subst (λ k. IfOk c.sort_over.result (λ r. kind_seen r ≡ k)) same c.sort_over.ensures
