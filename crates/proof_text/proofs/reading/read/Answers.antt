use Rattle.std.proofs.Common.{refl, sym, ◌∙◌, arith}
use Rattle.proof_text.proofs.Reader.{run_more, spelled_at_end}
use Rattle.proof_text.proofs.reading.read.Goals as goal

pub loop-i-preserved : goal.loop-i-preserved
loop-i-preserved c = run_more c.args.text.now c.loop-i.i _ c.loop-i.state c.in-Some.next (omega (arith, c.loop-i-test.true)) c.loop-i.invariant refl (sym c.in_ok-next.ensures ∙ c.in-Some.is)

pub returns-in-Some-proof-clause-proof : goal.returns-in-Some-proof-clause-proof
returns-in-Some-proof-clause-proof c = spelled_at_end c.args.text.now c.loop-i.i c.loop-i.state c.in-Some-proof.proof (omega (arith, c.loop-i-test.false)) c.loop-i.invariant (sym c.proof.ensures ∙ c.in-Some-proof.is)
