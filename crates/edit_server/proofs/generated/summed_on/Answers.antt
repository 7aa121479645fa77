use Rattle.std.proofs.Common.{◌∙◌, subst}
use Rattle.std.proofs.lemmas.Result.{on_ok_weaker, on_err_weaker}
use Rattle.program_opening.specs.OpenedView.{IsOpenedText}
use Rattle.goal_board.proofs.ByItself.{on_any_err}
use Rattle.edit_server.proofs.Starving.{none_starved}
use Rattle.edit_server.proofs.GeneratedCalls.{answer_calls, starved_calls, refusal_generates_by, line_sums_up_by}
use Rattle.edit_server.proofs.generated.summed_on.Goals as goal

pub returns-in-Err-clause-memory : goal.returns-in-Err-clause-memory
returns-in-Err-clause-memory g c = none_starved c.args.command.now.turns _ c.requires.unnoted

pub returns-in-Ok-Refused-clause-answer : goal.returns-in-Ok-Refused-clause-answer
returns-in-Ok-Refused-clause-answer g c =
    let command = c.args.command.now in
    let opened = subst (λ x. IsOpenedText c.args.text.now x) c.in-Ok-Refused.field-0-is c.in-Ok-Refused.ensures in
    refusal_generates_by (λ a. a.written.items) (λ a. a.status) command.turns command.seed command.size c.args.text.now _ c.refusal.result opened.0 c.in-Ok-Refused.fault
    c.requires.made opened.1 opened.2 c.requires.unnoted c.refusal.ensures.written c.refusal.ensures.status

pub returns-in-Ok-Refused-clause-memory : goal.returns-in-Ok-Refused-clause-memory
returns-in-Ok-Refused-clause-memory g c = on_any_err c.refusal.result (none_starved c.args.command.now.turns _ c.requires.unnoted)

pub returns-in-Ok-Program-clause-answer : goal.returns-in-Ok-Program-clause-answer
returns-in-Ok-Program-clause-answer g c =
    let command = c.args.command.now in
    let opened = subst (λ x. IsOpenedText c.args.text.now x) c.in-Ok-Program.field-0-is c.in-Ok-Program.ensures in
    let are = c.deref.ensures.value ∙ (opened.2).1 in
    line_sums_up_by (λ a. a.written.items) (λ a. a.status) command.turns command.seed command.size c.args.text.now _ c.line_on.result opened.0 c.in-Ok-Program.program.module c.deref.result.now
    c.requires.made opened.1 (opened.2).0 are c.line_on.ensures.line c.line_on.ensures.status (on_ok_weaker c.line_on.result (answer_calls command.turns c.in-Ok-Program.program.module c.deref.result.now are _ _ c.requires.unnoted) c.line_on.ensures.calls)

pub returns-in-Ok-Program-clause-memory : goal.returns-in-Ok-Program-clause-memory
returns-in-Ok-Program-clause-memory g c =
    let opened = subst (λ x. IsOpenedText c.args.text.now x) c.in-Ok-Program.field-0-is c.in-Ok-Program.ensures in
    let are = c.deref.ensures.value ∙ (opened.2).1 in
    on_err_weaker c.line_on.result (starved_calls c.args.command.now.turns c.in-Ok-Program.program.module c.deref.result.now are _ _ c.requires.unnoted) c.line_on.ensures.memory
