-- What a proof's end stands for.
use Rattle.proof_core.specs.Proof as tree
use Rattle.proof_core.specs.Proof.{by_close, by_cases, by_condition, by_past, by_trichotomy}
use Rattle.proof_core.specs.View.{proofs_of}
use Rattle.proof_core.specs.declared.proof.End.{End}
use Rattle.proof_core.specs.declared.proof.End.TheVariants.{Close, Cases, Condition, Past, Trichotomy}

abbrev pub end_of : End → tree.End
end_of (Close f g) = by_close f g
end_of (Cases f p ps) = by_cases f p.value (proofs_of ps.items)
end_of (Condition f t p q) = by_condition f t p.value q.value
end_of (Past t p q r) = by_past t p.value q.value r.value
end_of (Trichotomy t p q r) = by_trichotomy t p.value q.value r.value
