use Rattle.std.proofs.Common.{◌≡◌, ◌++◌, drop}
use Rattle.obligation_text.specs.Text.{axioms_text}
use Rattle.obligation_text.proofs.printing.put_axioms.Given as goal

-- what is written, and then the rest, is all
abbrev pub invariant-loop-axiom : goal.invariant-loop-axiom
invariant-loop-axiom l = l.out.items ++ axioms_text (drop l.axiom-index l.axioms) ≡ l.fn.out.items ++ axioms_text l.axioms
