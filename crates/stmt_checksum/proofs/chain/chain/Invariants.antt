use Rattle.std.proofs.Common.{◌≡◌, ◌++◌, map, drop}
use Rattle.stmt_checksum.specs.Chain.{with_parts, first_sum, links}
use Rattle.stmt_checksum.specs.PartsView.{parts_seen}
use Rattle.stmt_checksum.proofs.chain.chain.Given as goal

-- with the links of the lines that are left come the links of all
abbrev pub invariant-loop-i : goal.invariant-loop-i
invariant-loop-i l = l.found.items ++ links l.leads.links l.sum (with_parts l.leads.links l.leads.table (map (λ v. v.items) (drop l.i l.lines)) (parts_seen (drop l.i l.parts)))
    ≡ links l.leads.links first_sum (with_parts l.leads.links l.leads.table (map (λ v. v.items) l.lines) (parts_seen l.parts))
