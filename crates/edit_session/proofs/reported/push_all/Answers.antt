use Rattle.std.proofs.Common.{◌≡◌, ◌∙◌, ◌++◌, rules, sym, ap, arith, drop, take, length, map, string_bytes, length-drop}
use Rattle.std.specs.Arc.{arc_value}
use Rattle.std.proofs.lemmas.List.{append-nil, at_drop_all, take-map, drop-map}
use Rattle.tableau.specs.Settled.{Settled}
use Rattle.edit_session.specs.Built.{told_lines}
use Rattle.edit_session.proofs.Parts.{counts_next, lines_more}
use Rattle.edit_session.proofs.reported.push_all.Goals as goal

pub split_at-requires : goal.split_at-requires
split_at-requires c = omega (arith, c.count_of.ensures, counts_next c.args.procs.now c.loop-i.i c.index-procs-i.result (search rules) (search rules), c.loop-i.invariant.ahead)

pub loop-i-preserved : goal.loop-i-preserved
loop-i-preserved c =
    let procs = c.args.procs.now in
    let p = c.index-procs-i.result in
    let left = c.loop-i.left.now in
    let first : map (λ a. (arc_value {X = Settled} a).verdict) c.split_at.result.0.now ≡ take (length p.goals) (map (λ a. (arc_value {X = Settled} a).verdict) left) =
    ap (map (λ a. (arc_value {X = Settled} a).verdict)) c.split_at.ensures.front ∙ sym (take-map (λ a. (arc_value {X = Settled} a).verdict) c.count_of.result left) ∙ ap (λ n. take n (map (λ a. (arc_value {X = Settled} a).verdict) left)) c.count_of.ensures in
    let behind : map (λ a. (arc_value {X = Settled} a).verdict) c.split_at.result.1.now ≡ drop (length p.goals) (map (λ a. (arc_value {X = Settled} a).verdict) left) =
    ap (map (λ a. (arc_value {X = Settled} a).verdict)) c.split_at.ensures.back ∙ sym (drop-map (λ a. (arc_value {X = Settled} a).verdict) c.count_of.result left) ∙ ap (λ n. drop n (map (λ a. (arc_value {X = Settled} a).verdict) left)) c.count_of.ensures in
    record {
      ahead = omega (arith, c.count_of.ensures, counts_next procs c.loop-i.i p (search rules) (search rules), c.loop-i.invariant.ahead, ap length c.split_at.ensures.back, length-drop c.count_of.result left);
      lines = lines_more procs c.loop-i.i p (map (λ a. (arc_value {X = Settled} a).verdict) left) _ _ (map string_bytes c.loop-i.lines.items) _ _ (search rules) (search rules) first behind c.in_ok-push_answered.ensures c.loop-i.invariant.lines;
    }

pub returns : goal.returns
returns c =
    let vs = map (λ a. (arc_value {X = Settled} a).verdict) c.loop-i.left.now in
    let lines = map string_bytes c.loop-i.lines.items in
    sym (append-nil lines) ∙ sym (at_drop_all (λ bs. lines ++ told_lines bs vs) c.args.procs.now c.loop-i.i (omega (arith, c.loop-i-test.false))) ∙ c.loop-i.invariant.lines
