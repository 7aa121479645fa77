use Rattle.std.proofs.Common.{◌≡◌, ◌∙◌, ◌<◌, ◌+◌, ◌||◌, sym, ap, subst, Bool}
use Rattle.std.specs.List.{AllByRecursion}
use Rattle.logic_core.specs.Tree.{Tree}
use Rattle.logic_core.specs.Subterm.{has}
use Rattle.term_bank.specs.Numbered.{at}
use Rattle.numbered_facts.specs.Inside.{picks_one}
use Rattle.numbered_facts.proofs.AtomsIn.{none_higher}
use Rattle.numbered_facts.proofs.Occurrences.{nothing_found}
use Rattle.numbered_facts.proofs.occurring.occurring.Goals as goal

pub find_in-requires-clause-whole : goal.find_in-requires-clause-whole
find_in-requires-clause-whole c = nothing_found c.args.terms.now c.new-found.result c.new-found.ensures

pub returns-clause-picks : goal.returns-clause-picks
returns-clause-picks c p = let ts = c.args.terms.now in
    ap (picks_one p ts) c.into_list.ensures.items ∙ c.in_ok-find_in.ensures.picks p ∙ ap (λ is. picks_one p ts is || has p (at ts c.args.id)) c.new-found.ensures

pub returns-clause-within : goal.returns-clause-within
returns-clause-within c = let ts = c.args.terms.now in let is = c.find_in.new.found in
    let picks : (p : Tree → Bool) → picks_one p ts is ≡ has p (at ts c.args.id) = λ p. c.in_ok-find_in.ensures.picks p ∙ ap (λ js. picks_one p ts js || has p (at ts c.args.id)) c.new-found.ensures in
    let low = none_higher ts c.are_stored.ensures c.args.id c.requires is picks (λ j h. (c.in_ok-find_in.ensures.whole j h).0) in
    subst (AllByRecursion (λ j. j < c.args.id + 1)) (sym c.into_list.ensures.items) low

pub returns-clause-once : goal.returns-clause-once
returns-clause-once c = c.into_list.ensures.once
