use Rattle.std.proofs.Common.{rules, ◌≡◌, ◌∙◌, ◌++◌, [], ap, map}
use Rattle.std.specs.Arc.{arc_value}
use Rattle.own_goals.proofs.Standing.{first_recalled, first_within}
use Rattle.own_goals.proofs.recall.first_answers.Goals as goal

pub first_ones-requires : goal.first_ones-requires
first_ones-requires c = first_within arc_value _ c.args.told.now.answers.items _ _ c.requires

pub returns : goal.returns
returns c =
    let empty : c.in_ok-all.all.items ≡ [] = search rules in
    c.in_ok-push_answers.ensures ∙ ap (λ xs. map arc_value xs ++ map arc_value c.first_ones.result.now) empty ∙ ap (map arc_value) c.first_ones.ensures
    ∙ first_recalled arc_value arc_value c.keys_tell_apart.ensures c.args.questions.now c.args.told.now.answers.items _ _ c.requires
