use Rattle.std.proofs.Common.{◌∙◌, sym, Option, reverse}
use Rattle.std.proofs.lemmas.List.{reverse-append}
use Rattle.logic_core.specs.Tree.{Tree}
use Rattle.logic_core.proofs.Refused.{gives_err}
use Rattle.logic_rules.specs.Rewriting.{rewritten_within}
use Rattle.logic_rules.specs.View.{bare}
use Rattle.logic_rules.proofs.Rewritten.{one_of_each_more, one_of_each_not}
use Rattle.plain_search.proofs.rewriting.rewrite_terms.Goals as goal

pub loop-term-preserved : goal.loop-term-preserved
loop-term-preserved c =
    let f : Tree → Option Tree = rewritten_within c.args.defs.now (bare c.args.defs.now c.args.left.now c.args.right.now c.args.vars.now) c.args.left.now c.args.right.now in
    let popped = c.in-Some.ensures.items in
    let before = rw (popped, reverse-append) at c.loop-term.invariant in
    let pushed = c.in_ok-push.ensures.items in
    rw pushed (one_of_each_more f c.in-Some.term (reverse c.pop.new.self.items) c.in_ok-rewrite_within.field-0 c.loop-term.rewritten.items c.in_ok-rewrite_within.ensures ∙ before)

pub returns-in_err-rewrite_within : goal.returns-in_err-rewrite_within
returns-in_err-rewrite_within c =
    let f : Tree → Option Tree = rewritten_within c.args.defs.now (bare c.args.defs.now c.args.left.now c.args.right.now c.args.vars.now) c.args.left.now c.args.right.now in
    let popped = c.in-Some.ensures.items in
    let before = rw (popped, reverse-append) at c.loop-term.invariant in
    gives_err (λ v. v.items) c.from_residual.result c.in_err-rewrite_within.field-0.0 _ c.from_residual.ensures.1
    (λ wide. sym before ∙ one_of_each_not f c.in-Some.term (reverse c.pop.new.self.items) c.loop-term.rewritten.items (c.in_err-rewrite_within.ensures wide))
