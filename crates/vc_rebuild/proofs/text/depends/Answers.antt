use Rattle.std.specs.Prelude.{flat_map, filter, not}
use Rattle.std.proofs.Common.{◌≡◌, ◌∙◌, ◌++◌, ap}
use Rattle.bpl_model.specs.Module.{Module}
use Rattle.bpl_model.specs.Reach.{among, own_positions, reached_by}
use Rattle.bpl_model.specs.Walk.{text_at}
use Rattle.vc_rebuild.proofs.text.depends.Goals as goal

pub returns : goal.returns
returns c =
    let m = c.args.links.now in
    let own = own_positions m c.args.proc.now in
    let texts : c.as_slice-texts.result.now ≡ m.texts = c.as_slice-texts.ensures.value ∙ ap (λ (x : Module). x.texts) (c.behind-links.view_is ∙ c.parts.ensures.same) in
    let first : c.as_slice.result.now ≡ own = c.as_slice.ensures.value ∙ c.in_ok-own.ensures in
    let second : c.as_slice-2.result.now ≡ own = c.as_slice-2.ensures.value ∙ c.in_ok-own.ensures in
    let reached : c.as_slice-3.result.now ≡ reached_by m c.args.proc.now = c.as_slice-3.ensures.value ∙ c.in_ok-reached.ensures in
    let before : c.push_texts.new.bytes.items ≡ flat_map (λ d. (text_at m.texts d).text) own
    = c.in_ok-push_texts.ensures ∙ (λ i. c.new-bytes.ensures.items i ++ flat_map (λ d. (text_at (texts i) d).text) (first i)) in
    c.in_ok-push_contracts.ensures
    ∙ (λ i. before i ++ flat_map (λ d. (text_at (texts i) d).contract) (filter (λ d. not (among (second i) d)) (reached i)))
