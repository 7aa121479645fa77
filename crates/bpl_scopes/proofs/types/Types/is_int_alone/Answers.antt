use Rattle.std.proofs.Common.{◌≡◌, ap, subst, ◌∙◌, IfOk}
use Rattle.bpl_ast.specs.TypeView.{tys_of}
use Rattle.bpl_scopes.specs.Sorts.{is_int_alone, sorts_by, sorts_of_types}
use Rattle.bpl_scopes.specs.KnownSorts.{hidden_seen, shapes_seen, sort_unless}
use Rattle.bpl_scopes.proofs.SynonymRounds.{sorts_known}
use Rattle.bpl_scopes.proofs.types.Types.is_int_alone.Goals as goal

pub returns : goal.returns
returns c =
    let H = hidden_seen c.args.hidden.now in
    let same = ap (λ xs. sorts_by (sort_unless H c.self.inside.table (shapes_seen xs)) (tys_of c.args.types.now)) c.deref.ensures.value
    ∙ sorts_known c.self.inside.table H (shapes_seen c.self.inside.sorts.items) (tys_of c.args.types.now) c.self.invariant.0
    ∙ ap (λ t. sorts_of_types t H (tys_of c.args.types.now)) c.self.view_is in
    subst (λ ks. IfOk c.are_int_alone.result (λ b. b ≡ is_int_alone ks)) same c.are_int_alone.ensures
