use Rattle.std.proofs.Common.{◌<◌, length}
use Rattle.numbered_branches.proofs.Listing.{all_at}
use Rattle.numbered_branches.proofs.step.trees.Goals as goal

pub tree-requires : goal.tree-requires
tree-requires c = all_at (λ i. i < length c.args.terms.now) c.args.ids.now c.loop-id.id-index c.id-item.result c.requires c.loop-id-test.true c.id-item.is
