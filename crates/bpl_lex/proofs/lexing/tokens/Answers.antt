use Rattle.std.proofs.Common.{Some, None, drop, arith}
use Rattle.bpl_lex.specs.Front.{piece_seen, found_seen}
use Rattle.bpl_lex.proofs.Steps.{front_at, front_some, piece_fits, over_piece, at_fault, at_end, no_token, one_token}
use Rattle.bpl_lex.proofs.Laws.{in_order, spelled}
use Rattle.bpl_lex.proofs.lexing.tokens.Goals as goal

pub returns-in_default-clause-err : goal.returns-in_default-clause-err
returns-in_default-clause-err c =
    at_fault c.args.text.now c.loop-at.at c.loop-at.found.items c.loop-at-test.true (front_at c.args.text.now c.loop-at.at None c.in_default.ensures) c.loop-at.invariant.same

pub overflow_add-at : goal.overflow_add-at
overflow_add-at c =
    let here = front_at c.args.text.now c.loop-at.at (Some (found_seen c.in-Some.front)) c.in-Some.ensures in
    omega (arith, piece_fits c.args.text.now c.loop-at.at c.in-Some.front.length (piece_seen c.in-Some.front.piece) c.loop-at.invariant.within here)

pub overflow_cast-end : goal.overflow_cast-end
overflow_cast-end c =
    let here = front_at c.args.text.now c.loop-at.at (Some (found_seen c.in-Some.front)) c.in-Some.ensures in
    omega (arith, piece_fits c.args.text.now c.loop-at.at c.in-Some.front.length (piece_seen c.in-Some.front.piece) c.loop-at.invariant.within here)

pub loop-at-smaller-in-Continue-1 : goal.loop-at-smaller-in-Continue-1
loop-at-smaller-in-Continue-1 c =
    let here = front_at c.args.text.now c.loop-at.at (Some (found_seen c.in-Some.front)) c.in-Some.ensures in
    omega (arith, front_some (drop c.loop-at.at c.args.text.now) (piece_seen c.in-Some.front.piece) c.in-Some.front.length here)

pub loop-at-smaller : goal.loop-at-smaller
loop-at-smaller c =
    let here = front_at c.args.text.now c.loop-at.at (Some (found_seen c.in-Some.front)) c.in-Some.ensures in
    omega (arith, front_some (drop c.loop-at.at c.args.text.now) (piece_seen c.in-Some.front.piece) c.in-Some.front.length here)

pub loop-at-preserved : goal.loop-at-preserved
loop-at-preserved c =
    let here = front_at c.args.text.now c.loop-at.at (Some (found_seen c.in-Some.front)) c.in-Some.ensures in
    record {
      within = piece_fits c.args.text.now c.loop-at.at c.in-Some.front.length (piece_seen c.in-Some.front.piece) c.loop-at.invariant.within here;
      same = over_piece c.args.text.now c.loop-at.at c.in-Some.front.length (piece_seen c.in-Some.front.piece) c.loop-at.found.items c.loop-at.found.items here
          (λ vs. no_token c.in-Some.front.piece c.loop-at.at c.in-Some.front.length c.loop-at.found.items vs c.in_default-piece.not-Token) c.loop-at.invariant.same;
    }

pub loop-at-preserved-in-Continue-1 : goal.loop-at-preserved-in-Continue-1
loop-at-preserved-in-Continue-1 c =
    let here = front_at c.args.text.now c.loop-at.at (Some (found_seen c.in-Some.front)) c.in-Some.ensures in
    let pushed = c.in_ok-push.ensures.items in
    record {
      within = piece_fits c.args.text.now c.loop-at.at c.in-Some.front.length (piece_seen c.in-Some.front.piece) c.loop-at.invariant.within here;
      same = over_piece c.args.text.now c.loop-at.at c.in-Some.front.length (piece_seen c.in-Some.front.piece) c.loop-at.found.items c.push.new.self.items here
          (λ vs. one_token c.in-Some.front.piece c.in-Token.kind c.loop-at.at c.in-Some.front.length c.loop-at.found.items c.push.new.self.items vs pushed c.in-Token.is) c.loop-at.invariant.same;
    }

pub returns-clause-in_order : goal.returns-clause-in_order
returns-clause-in_order c =
    in_order c.args.text.now c.loop-at.found.items (at_end c.args.text.now c.loop-at.at c.loop-at.found.items c.loop-at-test.false c.loop-at.invariant.same)

pub returns-clause-spelled : goal.returns-clause-spelled
returns-clause-spelled c =
    spelled c.args.text.now c.loop-at.found.items (at_end c.args.text.now c.loop-at.at c.loop-at.found.items c.loop-at-test.false c.loop-at.invariant.same)
