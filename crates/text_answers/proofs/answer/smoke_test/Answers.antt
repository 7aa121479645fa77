use Rattle.std.proofs.Common.{subst}
use Rattle.program_opening.specs.Opening.{Opens}
use Rattle.program_opening.specs.OpenedView.{IsOpenedText}
use Rattle.text_answers.proofs.answer.smoke_test.Goals as goal

pub smoke_module-requires : goal.smoke_module-requires
smoke_module-requires c =
    let opened = subst (λ x. IsOpenedText c.args.text.now x) c.in-Program.is c.in_ok-fault.ensures in
    (c.modules_are_sound.ensures c.args.text.now c.in-Program.program.module (subst (Opens c.args.text.now) (opened.2).0 opened.1)).forward
