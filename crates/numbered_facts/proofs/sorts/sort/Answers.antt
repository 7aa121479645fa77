use Rattle.std.proofs.Common.{◌≡◌, ◌∙◌, Option, []}
use Rattle.std.specs.Option.{option_copied}
use Rattle.std.proofs.lemmas.Result.{IfOk-weaker}
use Rattle.logic_core.specs.Tree.{Kind}
use Rattle.logic_core.specs.Sorts.{sort_of}
use Rattle.term_bank.specs.Numbered.{at}
use Rattle.numbered_facts.proofs.sorts.sort.Goals as goal

pub returns-clause-gives : goal.returns-clause-gives
returns-clause-gives c =
    IfOk-weaker c.copy_sort.result (λ (s : Option Kind). s ≡ option_copied c.sort_at.result) (λ (s : Option Kind). s ≡ sort_of c.args.vars.now c.args.defs.now [] (at c.args.terms.now c.args.id))
    (λ s e. e ∙ (c.find_sort.ensures.right c.args.id (option_copied c.sort_at.result) c.sort_at.ensures).1) c.copy_sort.ensures
