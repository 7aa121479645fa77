use Rattle.std.proofs.Common.{◌≡◌, ◌∙◌, true, false}
use Rattle.std.proofs.lemmas.Result.{IfOk-weaker}
use Rattle.logic_core.specs.Junction.{is_truth}
use Rattle.term_bank.specs.Numbered.{at}
use Rattle.numbered_theory.proofs.PairMade.{known_after}
use Rattle.numbered_theory.proofs.combining.says_nothing_new.Goals as goal

pub returns-clause-says : goal.returns-clause-says
returns-clause-says c =
    let n = c.args.store.now in let m = c.tightened.new.self in
    let untrue : is_truth true (at n.terms c.args.sum) ≡ false = cc (c.if-is_truth.ensures, c.terms.ensures) in
    let known = rw c.terms-2.ensures at c.is_known.ensures in
    IfOk-weaker c.is_known.result _ _ (λ b is. is ∙ known_after n m c.in_ok-tight.ensures.grows c.args.entries.now c.requires.entries c.args.sum c.in_ok-tight.tight c.in_ok-tight.ensures.gives untrue) known
