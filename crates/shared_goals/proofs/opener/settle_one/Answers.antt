use Rattle.std.proofs.Common.{◌≡◌}
use Rattle.tableau.specs.Settled.{settled_by}
use Rattle.obligation_text.specs.Asked.{key_of}
use Rattle.shared_goals.proofs.Openers.{tried, failed, settled_more}
use Rattle.shared_goals.proofs.opener.settle_one.Goals as goal

pub all_answered-requires : goal.all_answered-requires
all_answered-requires g c =
    let w = c.work_once.ensures in
    let t = c.in-Ok.ensures.calls in
    (tried key_of _ c.args.board.now c.args.opener.now c.work_once.new.pass c.requires w.pass w.seen w.knows c.in-Ok.deposits t.0 t.1 t.2).stays.opener

pub returns-then-deposits-gt0-clause-settled : goal.returns-then-deposits-gt0-clause-settled
returns-then-deposits-gt0-clause-settled g c =
    let w = c.work_once.ensures in
    let t = c.in-Ok.ensures.calls in
    tried key_of _ c.args.board.now c.args.opener.now c.work_once.new.pass c.requires w.pass w.seen w.knows c.in-Ok.deposits t.0 t.1 t.2

pub returns-else-deposits-gt0-clause-settled : goal.returns-else-deposits-gt0-clause-settled
returns-else-deposits-gt0-clause-settled g c =
    let w = c.work_once.ensures in
    let t = c.in-Ok.ensures.calls in
    let b = c.args.board.now in
    let p = c.args.opener.now in
    let q = c.work_once.new.pass in
    settled_more b p q c.all_answered.new.opener (tried key_of _ b p q c.requires w.pass w.seen w.knows c.in-Ok.deposits t.0 t.1 t.2) c.all_answered.ensures.settled

pub returns-in-Err-clause-memory : goal.returns-in-Err-clause-memory
returns-in-Err-clause-memory g c =
    let w = c.work_once.ensures in
    let t = c.in-Err.ensures.calls in
    failed key_of (λ q a. a ≡ settled_by q) c.args.board.now c.args.opener.now c.work_once.new.pass c.requires w.pass w.seen w.knows c.in-Err._ended t.0 t.1 t.2
