use Rattle.std.proofs.Common.{◌≡◌, ◌∙◌, [], map, length, replicate}
use Rattle.std.proofs.lemmas.Result.{IfOk-weaker}
use Rattle.bpl_scopes.specs.Functions.{function_in, in_number_order}
use Rattle.bpl_scopes.specs.KnownSorts.{names_in}
use Rattle.bpl_scopes.specs.Scopes.{entity_of, table_of}
use Rattle.bpl_sorts.specs.Types.{integers}
use Rattle.bpl_sorts.specs.TypeShapes.{heads_put}
use Rattle.bpl_sorts.specs.DeclaredTypes.{head_of}
use Rattle.bpl_sorts.specs.TypesView.{heads_seen}
use Rattle.bpl_sorts.proofs.OrderedHeads.{heads_listed}
use Rattle.bpl_sorts.proofs.function_types.function_types.Goals as goal

pub returns : goal.returns
returns c =
    let same : c.in_ok-dependencies.dependencies ≡ table_of c.args.decls.now = c.in_ok-dependencies.ensures ∙ (c.in_ok-types.ensures ∙ c.in_ok-table.ensures.table) in
    IfOk-weaker c.heads_over.result (λ v. heads_seen v.items ≡ heads_put (λ n. head_of c.args.known.now (function_in (entity_of c.in_ok-dependencies.dependencies n))) (in_number_order c.in_ok-dependencies.dependencies) (names_in c.in_ok-dependencies.dependencies) (replicate (length (in_number_order c.in_ok-dependencies.dependencies)) ([], integers)))
    (λ v. heads_seen v.items ≡ map (λ n. head_of c.args.known.now (function_in (entity_of (table_of c.args.decls.now) n))) (in_number_order (table_of c.args.decls.now)))
    (λ v made. made ∙ heads_listed c.args.known.now c.in_ok-dependencies.dependencies c.args.decls.now c.requires same)
    c.heads_over.ensures
