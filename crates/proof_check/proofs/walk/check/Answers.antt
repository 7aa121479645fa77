use Rattle.std.proofs.Common.{rules}
use Rattle.std.specs.Prelude.{IsOk}
use Rattle.proof_core.specs.Verdict.{verdict}
use Rattle.proof_core.proofs.Judged.{refuses_the_others}
use Rattle.proof_core.proofs.Sound.{acceptance_is_sound}
use Rattle.proof_check.proofs.Deciding.{not_accepted}
use Rattle.proof_check.proofs.walk.check.Goals as goal

pub returns-in_err-judge-clause-rejected : goal.returns-in_err-judge-clause-rejected
returns-in_err-judge-clause-rejected c = not_accepted c.from_residual-in_err-judge.result c.args.o.now c.args.proof.now (search rules)

pub returns-clause-accepted : goal.returns-clause-accepted
returns-clause-accepted c =
    let fine : IsOk (verdict c.args.o.now c.args.proof.now) = search rules in
    (refuses_the_others c.args.o.now c.args.proof.now).0 fine

pub returns-clause-valid : goal.returns-clause-valid
returns-clause-valid c =
    let fine : IsOk (verdict c.args.o.now c.args.proof.now) = search rules in
    acceptance_is_sound c.args.o.now c.args.proof.now c.signature.ensures.sorted ((refuses_the_others c.args.o.now c.args.proof.now).0 fine)
