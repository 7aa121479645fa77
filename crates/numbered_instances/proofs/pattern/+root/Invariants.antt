use Rattle.numbered_instances.proofs.pattern.+root.Given as goal

abbrev pub decreases-root : goal.decreases-root
decreases-root l = l.map
