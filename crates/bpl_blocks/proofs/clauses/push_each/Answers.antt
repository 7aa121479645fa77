use Rattle.std.proofs.Common.{◌+◌, ◌++◌, ℕ, refl, ap, sym, ◌∙◌, drop}
use Rattle.std.specs.Prelude.{Option, None, filter_map, slice_index_or}
use Rattle.logic_core.specs.Tree.{Tree}
use Rattle.bpl_blocks.specs.Blocks.{assume_all}
use Rattle.bpl_blocks.proofs.AssumedClauses.{assumed_at, behind_all}
use Rattle.bpl_blocks.proofs.clauses.push_each.Goals as goal

pub loop-var-preserved : goal.loop-var-preserved
loop-var-preserved c =
    let h : ℕ → Option Tree = λ v. slice_index_or c.args.clauses.now v None in
    let vs = c.args.vars.now in
    let k = c.loop-var.var-index in
    ap (λ cs. cs ++ assume_all (filter_map h (drop (k + 1) vs))) c.in_ok-push_clause_at.ensures
    ∙ (sym (assumed_at h vs k c.loop-var.commands.items c.loop-var-test.true) ∙ c.loop-var.invariant)

pub returns : goal.returns
returns c =
    let h : ℕ → Option Tree = λ v. slice_index_or c.args.clauses.now v None in
    behind_all (λ vs. assume_all (filter_map h vs)) c.args.vars.now c.loop-var.var-index c.loop-var.commands.items _ c.loop-var-test.false refl c.loop-var.invariant
