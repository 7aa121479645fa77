use Rattle.std.proofs.Common.{◌≡◌, ◌++◌, drop, map}
use Rattle.stmt_checksum.proofs.texts.push_all.Given as goal

abbrev pub invariant-loop-line : goal.invariant-loop-line
invariant-loop-line l = map (λ v. v.items) l.lines.items ++ map (λ v. v.items) (drop l.line-index l.more) ≡ map (λ v. v.items) l.fn.lines.items ++ map (λ v. v.items) l.more
