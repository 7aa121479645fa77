use Rattle.std.proofs.Common.{◌∙◌, ◌<◌, sym, ap, subst, length, map}
use Rattle.std.specs.List.{AllByRecursion}
use Rattle.logic_core.specs.Subterm.{outside}
use Rattle.logic_rules.specs.Instantiating.{each_once}
use Rattle.term_bank.specs.Numbered.{at}
use Rattle.numbered_facts.proofs.OutsideWalk.{none_within, none_done}
use Rattle.numbered_facts.proofs.standing.outside.Goals as goal

pub stand_in-requires-clause-within : goal.stand_in-requires-clause-within
stand_in-requires-clause-within c = none_within c.args.terms.now c.new-found.result c.new-found.ensures

pub stand_in-requires-clause-whole : goal.stand_in-requires-clause-whole
stand_in-requires-clause-whole c = none_done c.args.terms.now c.new-done.result c.new-found.result c.new-done.ensures

pub returns : goal.returns
returns c = let ts = c.args.terms.now in let is = c.into_list.ensures.items in (
  subst (AllByRecursion (λ j. j < length ts)) (sym is) c.in_ok-stand_in.ensures.within,
  ap (map (at ts)) is ∙ c.in_ok-stand_in.ensures.found ∙ ap (λ js. each_once (map (at ts) js) (outside (at ts c.args.id))) c.new-found.ensures,
)
