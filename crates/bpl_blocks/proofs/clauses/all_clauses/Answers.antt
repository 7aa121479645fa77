use Rattle.std.proofs.Common.{◌≡◌, ◌∙◌, ◌++◌, ap, sym, map, length, arith, List}
use Rattle.std.specs.Prelude.{None, Option}
use Rattle.std.proofs.lemmas.Grind.{common_steps}
use lib.ListN.{replicate}
use Rattle.logic_core.specs.Tree.{Tree}
use Rattle.bpl_model.specs.Module.{Const, Global}
use Rattle.bpl_model.specs.Clauses.{clauses_of_locals}
use Rattle.bpl_blocks.proofs.AssumedClauses.{none_for_each, six}
use Rattle.bpl_blocks.proofs.clauses.all_clauses.Goals as goal

pub returns : goal.returns
returns c =
    let m = c.args.parts.now in
    let p = c.args.proc.now in
    let none : Option Tree = None in
    let many : c.len.result ≡ length m.consts = grind (arith, common_steps) in
    let more : c.len-2.result ≡ length m.globals = grind (arith, common_steps) in
    let globals : c.as_slice.result.now ≡ m.globals = grind (arith, common_steps) in
    let ins : c.as_slice-2.result.now ≡ p.ins = grind (arith, common_steps) in
    let outs : c.as_slice-3.result.now ≡ p.outs = grind (arith, common_steps) in
    let locals : c.as_slice-4.result.now ≡ p.locals = grind (arith, common_steps) in
    let A : List (Option Tree) = map (λ (k : Const). none) m.consts in
    let B : List (Option Tree) = map (λ (g : Global). g.clause) m.globals in
    let C : List (Option Tree) = map (λ (g : Global). none) m.globals in
    let a1 : c.push_none.new.clauses.items ≡ A = c.in_ok-push_none.ensures ∙ (λ i. c.new-clauses.ensures.items i ++ (ap (λ k. replicate k none) many ∙ sym (none_for_each none m.consts)) i) in
    let a2 : c.push_of_globals.new.clauses.items ≡ A ++ B = c.in_ok-push_of_globals.ensures ∙ (λ i. a1 i ++ map (λ (g : Global). g.clause) (globals i)) in
    let a3 : c.push_none-2.new.clauses.items ≡ (A ++ B) ++ C = c.in_ok-push_none-2.ensures ∙ (λ i. a2 i ++ (ap (λ k. replicate k none) more ∙ sym (none_for_each none m.globals)) i) in
    let a4 : c.push_of_locals.new.clauses.items ≡ ((A ++ B) ++ C) ++ clauses_of_locals p.ins = c.in_ok-push_of_locals.ensures ∙ (λ i. a3 i ++ clauses_of_locals (ins i)) in
    let a5 : c.push_of_locals-2.new.clauses.items ≡ (((A ++ B) ++ C) ++ clauses_of_locals p.ins) ++ clauses_of_locals p.outs = c.in_ok-push_of_locals-2.ensures ∙ (λ i. a4 i ++ clauses_of_locals (outs i)) in
    c.in_ok-push_of_locals-3.ensures ∙ ((λ i. a5 i ++ clauses_of_locals (locals i)) ∙ six A B C (clauses_of_locals p.ins) (clauses_of_locals p.outs) (clauses_of_locals p.locals))
