use Rattle.std.proofs.Common.{sym, ◌∙◌, length, arith}
use Rattle.std.proofs.lemmas.Bool.{eqb-true}
use Rattle.term_bank.specs.Numbered.{at}
use Rattle.numbered_instances.proofs.Passing.{alone_passed}
use Rattle.numbered_instances.proofs.passed.is_passed.Goals as goal

pub returns-in-Some : goal.returns-in-Some
returns-in-Some c = λ e. let ts = c.args.terms.now in
    alone_passed ts c.args.passed.now (at ts c.args.pattern) (at ts c.args.term) c.args.rest.now c.args.found.now c.in-Some.index c.in-Some.ensures.within (omega arith) (eqb-true (length c.args.rest.now) 0 (sym c.is_empty.ensures ∙ c.if-not-is_empty.false)) c.in-Some.ensures.finds (sym c.contains.ensures ∙ e)
