use Rattle.std.proofs.Common.{◌≡◌, ◌+◌, ◌++◌, refl, ap, sym, ◌∙◌, drop}
use Rattle.std.specs.Prelude.{Option, filter_map, option_to_list}
use Rattle.logic_core.specs.Tree.{Tree}
use Rattle.bpl_model.specs.Module.{Local}
use Rattle.bpl_blocks.specs.Blocks.{assume_all}
use Rattle.bpl_blocks.proofs.AssumedClauses.{assumed_more, behind_all}
use Rattle.bpl_blocks.proofs.entry.push_clauses.Goals as goal

pub loop-local-preserved : goal.loop-local-preserved
loop-local-preserved c =
    let h : Local → Option Tree = λ v. v.clause in
    let vs = c.args.locals.now in
    let k = c.loop-local.local-index in
    let v = c.local-item.result in
    let cs = c.loop-local.commands.items in
    let rest = drop (k + 1) vs in
    let clause : c.local.inside.clause ≡ v.clause = cc in
    (λ i. c.in_ok-push_clause.ensures i ++ assume_all (filter_map h rest))
    ∙ ((λ i. (cs ++ assume_all (option_to_list (clause i))) ++ assume_all (filter_map h rest))
    ∙ (sym (assumed_more h vs k v cs c.loop-local-test.true c.local-item.is) ∙ c.loop-local.invariant))

pub returns : goal.returns
returns c =
    let h : Local → Option Tree = λ v. v.clause in
    behind_all (λ vs. assume_all (filter_map h vs)) c.args.locals.now c.loop-local.local-index c.loop-local.commands.items _ c.loop-local-test.false refl c.loop-local.invariant
