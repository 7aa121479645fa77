use Rattle.std.proofs.Common.{◌≡◌, ◌∙◌, ◌<◌, ◌-◌, ap, sym, subst, arith, length, get_or, true, false}
use Rattle.std.proofs.lemmas.Grind.{common_steps}
use Rattle.bpl_blocks.specs.Blocks.{behind_break, leaves}
use Rattle.bpl_blocks.proofs.Innermost.{out_here, out_more}
use Rattle.bpl_blocks.proofs.scope.Scopes.behind_break.Goals as goal

pub returns-then-leaves : goal.returns-then-leaves
returns-then-leaves c =
    let xs = c.self.inside.outermost_first.items in
    let i = c.loop-i.i in
    let s = c.index-scope.result.now in
    let l = c.args.label.now in
    let n : c.len-count.result ≡ length xs = grind (arith, common_steps) in
    let lt : i < length xs = subst (λ k. i < k) n c.loop-i-test.true in
    let is : s ≡ get_or xs (length xs - 1 - i) s = c.index-scope.ensures ∙ ap (λ k. get_or xs (k - 1 - i) s) n in
    let t : leaves l s ≡ true = sym c.leaves.ensures ∙ c.if-leaves.true in
    ap (λ r. r.behind) c.scope.view_is ∙ (sym (out_here xs i s lt is l t) ∙ (c.loop-i.invariant ∙ ap (λ ss. behind_break ss l) c.self.view_is))

pub loop-i-preserved : goal.loop-i-preserved
loop-i-preserved c =
    let xs = c.self.inside.outermost_first.items in
    let i = c.loop-i.i in
    let s = c.index-scope.result.now in
    let l = c.args.label.now in
    let n : c.len-count.result ≡ length xs = grind (arith, common_steps) in
    let lt : i < length xs = subst (λ k. i < k) n c.loop-i-test.true in
    let is : s ≡ get_or xs (length xs - 1 - i) s = c.index-scope.ensures ∙ ap (λ k. get_or xs (k - 1 - i) s) n in
    let t : leaves l s ≡ false = sym c.leaves.ensures ∙ c.if-leaves.false in
    sym (out_more xs i s lt is l t) ∙ c.loop-i.invariant
