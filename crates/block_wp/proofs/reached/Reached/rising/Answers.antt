use Rattle.std.proofs.Common.{◌∙◌, ap, eqb, filter}
use Rattle.std.proofs.lemmas.List.Filters.{dedup_is}
use Rattle.block_wp.proofs.Tables.{have_numbers}
use Rattle.block_wp.proofs.Rising.{sorted_once}
use Rattle.block_wp.proofs.reached.Reached.rising.Goals as goal

pub returns : goal.returns
returns c =
    let those = c.in_ok-those.those.items in
    let sorted = c.sort_unstable.new.self.items in
    dedup_is eqb sorted c.dedup.new.self.items c.dedup.ensures.filtered
    ∙ sorted_once c.args.self.now.blocks c.args.blocks.now those sorted c.requires.falling (c.in_ok-those.ensures ∙ ap (λ p. filter p c.args.blocks.now) (have_numbers c.args.self.now c.requires)) c.sort_unstable.ensures.permutation c.sort_unstable.ensures.sorted
