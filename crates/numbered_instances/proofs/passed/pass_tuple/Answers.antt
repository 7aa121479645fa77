use Rattle.std.proofs.Common.{◌∷◌, [], ◌||◌, ◌∙◌, sym, ap, map, nat_eq}
use Rattle.std.specs.List.{list_any}
use Rattle.std.proofs.lemmas.Result.{on_ok_weaker}
use Rattle.logic_core.specs.Same.{same_trees}
use Rattle.logic_core.specs.View.{trees_of}
use Rattle.logic_core.proofs.Booleans.{or_false}
use Rattle.term_bank.specs.Numbered.{at}
use Rattle.numbered_instances.proofs.NewTuples.{and_is}
use Rattle.numbered_instances.proofs.Passing.{tuple_joins}
use Rattle.numbered_instances.proofs.passed.pass_tuple.Goals as goal

pub returns-in-Some : goal.returns-in-Some
returns-in-Some c = let ts = c.args.terms.now in
    on_ok_weaker c.pass_only.result (λ joins. tuple_joins ts c.args.tuple c.in-Some.ids.now c.args.passed.now c.pass_only.new.passed c.are_stored.ensures c.requires c.in-Some.ensures.within (and_is ts c.args.tuple (map (at ts) c.in-Some.ids.now) c.in-Some.ensures.is).0 joins) c.pass_only.ensures

pub returns-in-None : goal.returns-in-None
returns-in-None c = λ j low. let ts = c.args.terms.now in
    sym (ap (λ us. list_any (nat_eq j) c.args.passed.now || same_trees (trees_of us) (trees_of (at ts j ∷ []))) c.in-None.ensures.other ∙ or_false (list_any (nat_eq j) c.args.passed.now))
