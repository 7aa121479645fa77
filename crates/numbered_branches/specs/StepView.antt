-- What a step of numbers is seen as.
use Rattle.numbered_branches.specs.Branches.{NumberedStep, splits, instantiates, names, replaces, unfolds, reads_back, differs, combines, tightens}
use Rattle.numbered_branches.specs.declared.step.Step.{Step}
use Rattle.numbered_branches.specs.declared.step.Step.TheVariants.{Split, Instantiate, Skolem, Replace, Unfold, Back, Differ, Combine, Tighten}

abbrev pub step_seen : Step → NumberedStep
step_seen (Split f) = splits f
step_seen (Instantiate f is) = instantiates f is.items
step_seen (Skolem f) = names f
step_seen (Replace f g i) = replaces f g i
step_seen (Unfold f i) = unfolds f i
step_seen (Back f i) = reads_back f i
step_seen (Differ f) = differs f
step_seen (Combine f p g q) = combines f p g q
step_seen (Tighten f) = tightens f
