use Rattle.std.proofs.Common.{◌<◌, length, append_assoc, add-one, arith}
use Rattle.std.proofs.lemmas.List.{set_split}
use Rattle.numbered_branches.proofs.change.put.Goals as goal

pub returns : goal.returns
returns c = let lt : c.args.at < length c.args.facts.now.items = omega (arith, c.requires) in
    let e = set_split c.args.facts.now.items c.args.at c.args.fact.now lt in rw (e, add-one, append_assoc)
