use Rattle.std.proofs.Common.{◌≡◌, ◌∙◌, ◌++◌, subst, arith}
use Rattle.std.specs.Prelude.{OnOk, filter, filter_map, not}
use Rattle.std.proofs.lemmas.Grind.{common_steps}
use Rattle.bpl_model.specs.Module.{Local}
use Rattle.bpl_model.specs.Contract.{preconditions}
use Rattle.bpl_model.specs.Reach.{reached_clauses}
use Rattle.bpl_blocks.specs.Blocks.{assume_all}
use Rattle.bpl_blocks.proofs.EntryAssumed.{entry_assumed}
use Rattle.bpl_blocks.proofs.entry.push_entry.Goals as goal

pub returns : goal.returns
returns c =
    let m = c.args.links.now in
    let p = c.args.proc.now in
    let cs = c.args.commands.now.items in
    let ins : c.as_slice.result.now ≡ p.ins = grind (arith, common_steps) in
    let outs : c.as_slice-2.result.now ≡ p.outs = grind (arith, common_steps) in
    let locals : c.as_slice-3.result.now ≡ p.locals = grind (arith, common_steps) in
    let specs : c.as_slice-4.result.now ≡ p.specs = grind (arith, common_steps) in
    let a1 : c.push_reached.new.commands.items ≡ cs ++ assume_all (reached_clauses m p) = c.in_ok-push_reached.ensures in
    let a2 : c.push_clauses.new.commands.items ≡ (cs ++ assume_all (reached_clauses m p)) ++ assume_all (filter_map (λ (l : Local). l.clause) p.ins) =
    c.in_ok-push_clauses.ensures ∙ (λ i. a1 i ++ assume_all (filter_map (λ (l : Local). l.clause) (ins i))) in
    let a3 : c.push_clauses-2.new.commands.items ≡ ((cs ++ assume_all (reached_clauses m p)) ++ assume_all (filter_map (λ (l : Local). l.clause) p.ins)) ++ assume_all (filter_map (λ (l : Local). l.clause) p.outs) =
    c.in_ok-push_clauses-2.ensures ∙ (λ i. a2 i ++ assume_all (filter_map (λ (l : Local). l.clause) (outs i))) in
    let a4 = c.in_ok-push_clauses_but_own.ensures ∙ (λ i. a3 i ++ assume_all (filter_map (λ (l : Local). l.clause) (filter (λ (l : Local). not l.own) (locals i)))) in
    subst (λ ds. OnOk c.push_preconditions.result (c.push_preconditions.new.commands.items ≡ ds))
    ((λ i. a4 i ++ assume_all (preconditions (specs i))) ∙ entry_assumed m p cs) c.push_preconditions.ensures
