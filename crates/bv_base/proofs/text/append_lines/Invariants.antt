use Rattle.std.proofs.Common.{◌≡◌, ◌++◌, map, drop}
use Rattle.bv_base.specs.Text.{text_of}
use Rattle.bv_base.proofs.text.append_lines.Given as goal

-- with the bytes of the lines that are left come the bytes of all
abbrev pub invariant-loop-line : goal.invariant-loop-line
invariant-loop-line l = l.out.items ++ text_of (map (λ v. v.items) (drop l.line-index l.lines)) ≡ l.fn.out.items ++ text_of (map (λ v. v.items) l.lines)
