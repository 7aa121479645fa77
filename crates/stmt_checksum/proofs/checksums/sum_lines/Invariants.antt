use Rattle.std.proofs.Common.{◌≡◌, ◌++◌, map, string_bytes, drop}
use Rattle.stmt_checksum.specs.SumLines.{sum_lines}
use Rattle.stmt_checksum.proofs.checksums.sum_lines.Given as goal

-- with the lines of the procedures that are left come the lines of all
abbrev pub invariant-loop-i : goal.invariant-loop-i
invariant-loop-i l = map (λ v. v.items) l.lines.items ++ sum_lines l.fn.module l.decls (map string_bytes (drop l.i l.names)) (map (λ gs. gs.items) (drop l.i l.marks))
    ≡ sum_lines l.fn.module l.decls (map string_bytes l.names) (map (λ gs. gs.items) l.marks)
