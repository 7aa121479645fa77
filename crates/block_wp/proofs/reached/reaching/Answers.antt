use Rattle.std.proofs.Common.{◌≡◌, suc, ◌-◌, ◌+◌, ◌∙◌, ap, sym, subst, length, is_some, Some, ◌∷◌, [], arith}
use Rattle.std.specs.List.{list_any}
use Rattle.passive_form.specs.Passive.{passive_block_at}
use Rattle.block_wp.specs.Equations.{reaching_from}
use Rattle.block_wp.specs.Numbers.{number_in, with_lower}
use Rattle.block_wp.proofs.Tables.{IsNumberedFrom, alone_numbered, step_numbered, step_left}
use Rattle.block_wp.proofs.reached.reaching.Goals as goal

pub loop-i-init : goal.loop-i-init
loop-i-init c =
    let k = c.args.last in
    let e = c.in_ok-reached.ensures in
    let whole : k - 0 ≡ k = omega arith in
    record {
      left = ap (λ r. reaching_from c.args.passive.now (k - 0) r.blocks) e ∙ ap (λ n. reaching_from c.args.passive.now n (k ∷ [])) whole;
      given = ap (λ r. r.given) e;
      last = ap (λ r. r.last) e;
      numbered = subst (IsNumberedFrom (k - 0)) (sym e) (subst (λ n. IsNumberedFrom n (record { given = length c.args.defs.now; last = k; blocks = k ∷ []; table = Some (length c.args.defs.now) ∷ [] })) (sym whole) (alone_numbered (length c.args.defs.now) k));
    }

pub loop-i-preserved : goal.loop-i-preserved
loop-i-preserved c =
    let g = c.args.passive.now in
    let i = c.loop-i.i in
    let r = c.loop-i.reached in
    let high = c.args.last - i in
    let low = c.args.last - (i + 1) in
    let below = c.loop-i-test.true in
    let next_lower : high ≡ suc low = omega (below, arith) in
    let same : (c.args.last - 1) - i ≡ low = omega arith in
    let lowered = c.in_ok-lower.ensures ∙ ap (λ b. with_lower r b c.is_led_to-joins.result (length c.args.defs.now + length c.as_slice.result.now)) same in
    let leads = c.is_led_to-joins.ensures ∙ ap (λ b. list_any (λ d. is_some (number_in r d)) (passive_block_at g.blocks b).next) same in
    let counts : length c.args.defs.now + length c.as_slice.result.now ≡ r.given + length r.blocks = ap (λ n. n + length c.as_slice.result.now) (sym c.loop-i.invariant.given) ∙ ap (λ bs. r.given + length bs) c.as_slice.ensures in
    record {
      left = step_left g high low next_lower r c.lower.new.self c.loop-i.invariant.numbered c.is_led_to-joins.result (length c.args.defs.now + length c.as_slice.result.now) leads counts lowered ∙ c.loop-i.invariant.left;
      given = ap (λ q. q.given) lowered ∙ c.loop-i.invariant.given;
      last = ap (λ q. q.last) lowered ∙ c.loop-i.invariant.last;
      numbered = step_numbered g high low next_lower r c.lower.new.self c.loop-i.invariant.numbered c.is_led_to-joins.result (length c.args.defs.now + length c.as_slice.result.now) leads counts lowered;
    }

pub returns : goal.returns
returns c =
    let done = c.loop-i-test.false in
    let end : c.args.last - c.loop-i.i ≡ 0 = omega (done, arith) in
    record {
      blocks = sym (ap (λ n. reaching_from c.args.passive.now n c.loop-i.reached.blocks) end) ∙ c.loop-i.invariant.left;
      given = c.loop-i.invariant.given;
      last = c.loop-i.invariant.last;
      numbered = c.loop-i.invariant.numbered.numbered;
    }
