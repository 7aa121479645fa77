use Rattle.std.proofs.Common.{◌∙◌, ap, subst, map, filter, find, ◌<◌, sym, length}
use Rattle.tableau_branch.specs.Oriented.{is_application}
use Rattle.tableau_branch.specs.Shapes.{is_call, is_choice, is_access}
use Rattle.term_bank.specs.Numbered.{at}
use Rattle.numbered_facts.specs.Answers.{StandsFor}
use Rattle.numbered_facts.proofs.Found.{kept_outside, first_outside}
use Rattle.std.specs.List.{AllByRecursion}
use Rattle.numbered_facts.proofs.standing.standing_of.Goals as goal

pub returns : goal.returns
returns c = let ts = c.args.terms.now in let t = at ts c.args.id in let is = c.in_ok-found.found.items in let f = c.in_ok-found.ensures in record {
  whole = c.requires;
  ground = kept_outside ts is_application is c.in_ok-ground.ground.items t f (c.in_ok-ground.ensures ∙ ap (filter (λ i. is_application (at ts i))) c.deref.ensures.value);
  call = first_outside ts is_call is c.first_of-call.result t f.1 (subst (λ js. StandsFor ts c.first_of-call.result (find is_call (map (at ts) js))) c.deref-2.ensures.value c.first_of-call.ensures);
  choice = first_outside ts is_choice is c.first_of-choice.result t f.1 (subst (λ js. StandsFor ts c.first_of-choice.result (find is_choice (map (at ts) js))) c.deref-3.ensures.value c.first_of-choice.ensures);
  access = first_outside ts is_access is c.first_of-access.result t f.1 (subst (λ js. StandsFor ts c.first_of-access.result (find is_access (map (at ts) js))) c.deref-4.ensures.value c.first_of-access.ensures);
}

pub applications-requires : goal.applications-requires
applications-requires c = subst (AllByRecursion (λ j. j < length c.args.terms.now)) (sym c.deref.ensures.value) c.in_ok-found.ensures.0

pub first_of-call-requires : goal.first_of-call-requires
first_of-call-requires c = subst (AllByRecursion (λ j. j < length c.args.terms.now)) (sym c.deref-2.ensures.value) c.in_ok-found.ensures.0

pub first_of-choice-requires : goal.first_of-choice-requires
first_of-choice-requires c = subst (AllByRecursion (λ j. j < length c.args.terms.now)) (sym c.deref-3.ensures.value) c.in_ok-found.ensures.0

pub first_of-access-requires : goal.first_of-access-requires
first_of-access-requires c = subst (AllByRecursion (λ j. j < length c.args.terms.now)) (sym c.deref-4.ensures.value) c.in_ok-found.ensures.0
