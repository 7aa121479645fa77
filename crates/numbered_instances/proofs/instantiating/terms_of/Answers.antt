use Rattle.std.proofs.Common.{◌∙◌, ◌<◌, sym, ap, subst, length, arith}
use Rattle.std.specs.List.{AllByRecursion}
use Rattle.std.proofs.lemmas.Result.{IfOk-weaker}
use Rattle.term_bank.specs.Numbered.{at}
use Rattle.term_bank.specs.Node.{tree_over, numbers_in}
use Rattle.term_bank.proofs.Led.{listed_trees}
use Rattle.numbered_terms.proofs.Items.{all_lower}
use Rattle.numbered_facts.specs.Answers.{AreAt}
use Rattle.numbered_branches.specs.Branches.{terms_in}
use Rattle.numbered_instances.proofs.instantiating.terms_of.Goals as goal

pub returns-in-And : goal.returns-in-And
returns-in-And c =
    let ts = c.args.terms.now in let t = terms_in (at ts c.args.tuple) in
    let shape = sym c.node.ensures.node ∙ ap (tree_over (at ts)) c.in-And.is in
    let low = all_lower c.args.tuple (length ts) c.in-And.ids.items (omega (arith, c.requires)) (subst (λ m. AllByRecursion (λ j. j < c.args.tuple) (numbers_in m)) c.in-And.is c.node.ensures.lower) in
    IfOk-weaker c.copy_numbers.result _ _ (λ v e. subst (λ is. AreAt ts is t) (sym (e ∙ c.deref.ensures.value)) (low, sym (ap terms_in shape ∙ listed_trees _))) c.copy_numbers.ensures
