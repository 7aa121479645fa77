use Rattle.std.proofs.Common.{◌∙◌, subst}
use Rattle.program_opening.specs.OpenedView.{IsOpenedText}
use Rattle.edit_server.proofs.Generating.{refusal_generates, line_sums_up}
use Rattle.edit_server.proofs.generated.summed.Goals as goal

pub returns-in-Refused : goal.returns-in-Refused
returns-in-Refused c =
    let command = c.args.command.now in
    let opened = subst (λ x. IsOpenedText c.args.text.now x) c.in-Refused.is c.in_ok-fault.ensures in
    refusal_generates (λ a. a.written.items) (λ a. a.status) command.turns command.seed command.size c.args.text.now opened.0 c.in-Refused.fault c.refusal.result
    c.requires.made opened.1 opened.2 c.refusal.ensures.written c.refusal.ensures.status

pub returns-in_ok-found-in-Program : goal.returns-in_ok-found-in-Program
returns-in_ok-found-in-Program c =
    let command = c.args.command.now in
    let opened = subst (λ x. IsOpenedText c.args.text.now x) c.in-Program.is c.in_ok-fault.ensures in
    line_sums_up (λ a. a.written.items) (λ a. a.status) command.turns command.seed command.size c.args.text.now opened.0 c.in-Program.program.module c.deref.result.now
    c.in_ok-found-in-Program.found.line.items c.in_ok-found-in-Program.found.all_proved c.done_if.result c.line.result
    c.requires.made opened.1 (opened.2).0 (c.deref.ensures.value ∙ (opened.2).1)
    c.in_ok-found-in-Program.ensures.line c.in_ok-found-in-Program.ensures.all c.done_if.ensures c.line.ensures.written c.line.ensures.status
