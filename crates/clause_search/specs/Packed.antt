-- What packed moves stand for: their lists stand backwards.
use Rattle.std.specs.Prelude.{Vec, List, map, reverse}
use Rattle.std.specs.declared.alloc.Global.{Global}
use Rattle.numbered_branches.specs.Branches.{NumberedStep, splits, instantiates, names, replaces, unfolds, reads_back, differs, combines, tightens}
use Rattle.numbered_branches.specs.Moves.{NumberedPlayed}
use Rattle.numbered_branches.specs.View.{ending_seen}
use Rattle.clause_search.specs.declared.packed.PackedMove.{PackedMove}
use Rattle.clause_search.specs.declared.packed.PackedStep.{PackedStep}
use Rattle.clause_search.specs.declared.packed.PackedStep.TheVariants.{Split, Instantiate, Skolem, Replace, Unfold, Back, Differ, Combine, Tighten}

abbrev pub packed_step : PackedStep → NumberedStep
packed_step (Split f) = splits f
packed_step (Instantiate f is) = instantiates f is.items
packed_step (Skolem f) = names f
packed_step (Replace f g i) = replaces f g i
packed_step (Unfold f i) = unfolds f i
packed_step (Back f i) = reads_back f i
packed_step (Differ f) = differs f
packed_step (Combine c) = combines c.value.first c.value.first_times c.value.second c.value.second_times
packed_step (Tighten f) = tightens f

abbrev pub packed_steps : Vec PackedStep Global → List NumberedStep
packed_steps v = map packed_step (reverse v.items)

abbrev pub packed_lists : List (Vec PackedStep Global) → List (List NumberedStep)
packed_lists vs = map packed_steps (reverse vs)

abbrev pub packed_move : PackedMove → NumberedPlayed
packed_move m = record { ending = ending_seen m.ending; steps = packed_lists m.steps.items }
