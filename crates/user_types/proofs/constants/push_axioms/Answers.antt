use Rattle.std.proofs.Common.{◌∙◌, ap, ◌++◌}
use Rattle.user_types.specs.Erased.{axioms_from}
use Rattle.user_types.specs.Views.{uniques_seen, counted}
use Rattle.user_types.proofs.Listed.{counted_none}
use Rattle.user_types.proofs.constants.push_axioms.Goals as goal

pub loop-constant-init : goal.loop-constant-init
loop-constant-init c = ap (λ k. c.args.made.now.items ++ axioms_from k c.args.axioms (uniques_seen c.args.constants.now)) (ap counted c.new-counts.ensures.items ∙ counted_none)
