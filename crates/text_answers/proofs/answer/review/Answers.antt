use Rattle.std.proofs.Common.{◌≡◌, ◌∙◌, length, ap, subst, arith}
use Rattle.recheck_report.specs.Parts.{program_in}
use Rattle.program_opening.specs.Opening.{Opens}
use Rattle.program_opening.specs.OpenedView.{IsOpenedText}
use Rattle.text_answers.proofs.LineLengths.{program_is_shorter, proofs_are_shorter}
use Rattle.text_answers.proofs.Answering.{lines_recheck}
use Rattle.text_answers.proofs.answer.review.Goals as goal

pub open-requires : goal.open-requires
open-requires c =
    let long : length c.cut-parts.result.program.now ≡ length (program_in c.args.text.now) = ap length c.cut-parts.ensures.program in
    omega (arith, c.requires, long, program_is_shorter c.args.text.now)

pub recheck-requires : goal.recheck-requires
recheck-requires c = omega (arith, c.requires, proofs_are_shorter c.args.text.now c.cut-parts.result.proofs.now c.cut-parts.ensures.lines)

pub returns-in_ok-found-in-Program : goal.returns-in_ok-found-in-Program
returns-in_ok-found-in-Program c =
    let opened = subst (λ x. IsOpenedText c.cut-parts.result.program.now x) c.in-Program.is c.in_ok-fault.ensures in
    lines_recheck (λ a. a.written.items) (λ a. a.status) c.accepted_is_safe.ensures c.args.text.now opened.0 c.in-Program.program.module c.deref.result.now _
    c.in_ok-found-in-Program.found.line.items c.in_ok-found-in-Program.found.all_accepted c.done_if.result c.line.result
    (subst (λ text. Opens text opened.0) c.cut-parts.ensures.program opened.1) (opened.2).0 (c.deref.ensures.value ∙ (opened.2).1) c.cut-parts.ensures.lines
    c.in_ok-found-in-Program.ensures c.done_if.ensures c.line.ensures.written c.line.ensures.status
