use Rattle.std.proofs.Common.{◌≡◌, ◌∙◌, [], length, replicate}
use Rattle.std.proofs.lemmas.Result.{IfOk-weaker}
use Rattle.bpl_scopes.specs.Functions.{function_in, in_number_order}
use Rattle.bpl_scopes.specs.KnownSorts.{names_in}
use Rattle.bpl_scopes.specs.Scopes.{entity_of}
use Rattle.bpl_scopes.specs.TableView.{entries_seen}
use Rattle.bpl_sorts.specs.Types.{integers}
use Rattle.bpl_sorts.specs.TypeShapes.{heads_put}
use Rattle.bpl_sorts.specs.DeclaredTypes.{head_of}
use Rattle.bpl_sorts.specs.TypesView.{heads_seen}
use Rattle.bpl_sorts.proofs.function_types.heads_over.Goals as goal

pub returns : goal.returns
returns c =
    let table : c.table-table.result.now ≡ c.args.dependencies.now = cc in
    let names : entries_seen c.entries.result.now ≡ c.args.dependencies.now = cc in
    IfOk-weaker c.heads_in.result (λ v. heads_seen v.items ≡ heads_put (λ n. head_of c.args.known.now (function_in (entity_of c.table-table.result.now n))) c.in_ok-order.order (names_in (entries_seen c.entries.result.now)) (replicate (length c.in_ok-order.order) ([], integers)))
    (λ v. heads_seen v.items ≡ heads_put (λ n. head_of c.args.known.now (function_in (entity_of c.args.dependencies.now n))) (in_number_order c.args.dependencies.now) (names_in c.args.dependencies.now) (replicate (length (in_number_order c.args.dependencies.now)) ([], integers)))
    (λ v made. made ∙ (λ i. heads_put (λ n. head_of c.args.known.now (function_in (entity_of (table i) n))) (c.in_ok-order.ensures i) (names_in (names i)) (replicate (length (c.in_ok-order.ensures i)) ([], integers))))
    c.heads_in.ensures
