use Rattle.std.proofs.Common.{[], ◌++◌, ◌+◌, ◌<◌, refl, sym, ap, ◌∙◌, append-nil, arith}
use Rattle.turn_lock.specs.Lock.{number, mine, seen}
use Rattle.obligation_board.specs.Rounds.{made_by}
use Rattle.obligation_board.proofs.Working.{no_rounds, rounds_more, made_more, fits, begins_on}
use Rattle.obligation_board.proofs.worker.work.Goals as goal

pub loop-init : goal.loop-init
loop-init g c = record {
  pass = (c.requires, refl);
  above = refl;
  splits = refl;
  seen = ([], sym (append-nil (seen c.args.pass.now)));
  calls = ([], sym (append-nil (mine c.args.pass.now)), no_rounds g.P.A.Q.Question.key (g.P.Prover.gives c.args.prover.now));
}

pub overflow_add-deposits : goal.overflow_add-deposits
overflow_add-deposits g c =
    let i = c.loop.invariant.calls in
    let few : c.loop.deposits < 18446744073709551616 = omega (arith, c.loop.auto.deposits-fits) in
    let more : c.loop.deposits + c.in-Ok.made < 18446744073709551616 =
    fits g.P.A.Q.Question.key (g.P.Prover.gives c.args.prover.now) (number c.args.pass.now) c.loop.deposits c.in-Ok.made 18446744073709551616 (mine c.args.pass.now) (mine c.loop.pass) i.0 i.1 i.2 c.in-Ok.ensures.room few in
    omega arith

pub loop-preserved : goal.loop-preserved
loop-preserved g c =
    let i = c.loop.invariant.calls in
    let r = c.in-Ok.ensures.calls in
    record {
      pass = (c.work_once.ensures.pass.0, c.work_once.ensures.pass.1 ∙ c.loop.invariant.pass.1);
      above = c.work_once.ensures.above ∙ c.loop.invariant.above;
      splits = c.work_once.ensures.splits ∙ c.loop.invariant.splits;
      seen = begins_on _ _ _ c.loop.invariant.seen c.work_once.ensures.seen;
      calls = (
        i.0 ++ r.0,
        made_more (number c.args.pass.now) (mine c.args.pass.now) (mine c.loop.pass) (mine c.work_once.new.pass) i.0 r.0 i.1 (r.1 ∙ ap (λ n. mine c.loop.pass ++ made_by n r.0) c.loop.invariant.pass.1),
        rounds_more g.P.A.Q.Question.key (g.P.Prover.gives c.args.prover.now) c.loop.deposits c.in-Ok.made i.0 r.0 i.2 r.2,
      );
    }

pub returns-in-Err-clause-calls : goal.returns-in-Err-clause-calls
returns-in-Err-clause-calls g c =
    let i = c.loop.invariant.calls in
    let r = c.in-Err.ensures.calls in (
      i.0 ++ r.0,
      made_more (number c.args.pass.now) (mine c.args.pass.now) (mine c.loop.pass) (mine c.work_once.new.pass) i.0 r.0 i.1 (r.1 ∙ ap (λ n. mine c.loop.pass ++ made_by n r.0) c.loop.invariant.pass.1),
      record { before = i.0; last = r.0; made = refl; rounds = i.2; end = r.2 },
    )

pub returns-in-Err-clause-seen : goal.returns-in-Err-clause-seen
returns-in-Err-clause-seen g c = begins_on _ _ _ c.loop.invariant.seen c.work_once.ensures.seen
