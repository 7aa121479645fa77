use Rattle.std.specs.Prelude.{flat_map, filter, not}
use Rattle.std.proofs.Common.{◌++◌, ℕ}
use Rattle.bpl_model.specs.Reach.{among}
use Rattle.bpl_model.specs.Walk.{text_at}
use Rattle.vc_rebuild.proofs.Positions.{contracts_step}
use Rattle.vc_rebuild.proofs.text.push_contracts.Goals as goal

pub loop-d-preserved : goal.loop-d-preserved
loop-d-preserved c =
    let texts = c.args.texts.now in
    let own = c.args.own.now in
    let all = c.args.bytes.now.items ++ flat_map (λ (d : ℕ). (text_at texts d).contract) (filter (λ d. not (among own d)) c.args.reached.now) in
    contracts_step texts own c.args.reached.now c.loop-d.d-index c.loop-d.bytes.items c.push_contract.new.bytes.items all c.loop-d-test.true c.loop-d.invariant c.in_ok-push_contract.ensures
