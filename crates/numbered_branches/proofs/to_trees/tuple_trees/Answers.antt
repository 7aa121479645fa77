use Rattle.std.proofs.Common.{◌≡◌, ◌∙◌, sym, ap, map}
use Rattle.std.proofs.lemmas.Result.{IfOk-weaker}
use Rattle.logic_rules.proofs.Listed.{listed_trees}
use Rattle.term_bank.specs.Numbered.{at}
use Rattle.term_bank.specs.Node.{tree_over}
use Rattle.numbered_branches.specs.Branches.{terms_in}
use Rattle.numbered_branches.proofs.to_trees.tuple_trees.Goals as goal

pub returns-in-And : goal.returns-in-And
returns-in-And c = let ts = c.args.terms.now in
    IfOk-weaker c.trees.result (λ v. v.items ≡ map (at ts) c.deref.result.now) (λ v. v.items ≡ terms_in (at ts c.args.id))
    (λ v e. e ∙ ap (map (at ts)) c.deref.ensures.value ∙ sym (listed_trees (map (at ts) c.in-And.ids.items)) ∙ ap (λ m. terms_in (tree_over (at ts) m)) (sym c.in-And.is) ∙ ap terms_in c.node.ensures.node) c.trees.ensures
