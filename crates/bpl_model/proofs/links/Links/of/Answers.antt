use Rattle.std.proofs.Common.{◌≡◌, ◌∙◌, [], ap, map, length, arith}
use Rattle.std.specs.List.{range_with_len}
use Rattle.std.proofs.lemmas.Grind.{common_steps}
use Rattle.bpl_model.specs.Module.{DeclText}
use Rattle.std.specs.Prelude.{List}
use Rattle.bpl_model.specs.Names.{with_names}
use Rattle.bpl_model.specs.Reach.{positions}
use Rattle.bpl_model.specs.Walk.{text_at}
use Rattle.bpl_model.specs.Links.{declared, free, mentions, named_rows}
use Rattle.bpl_model.proofs.links.Links.of.Goals as goal

pub axiom_rows-requires : goal.axiom_rows-requires
axiom_rows-requires c =
    let texts : c.as_slice-texts.result.now ≡ c.parts-parts.result.now.texts = grind (arith, common_steps) in
    c.as_slice-places.ensures.value ∙ (c.in_ok-numbers.ensures ∙ ap (λ (ts : List DeclText). range_with_len 0 (length ts)) texts)

pub invariant_of-result : goal.invariant_of-result
invariant_of-result c =
    let m = c.args.module.now in
    let texts : c.as_slice-texts.result.now ≡ m.texts = grind (arith, common_steps) in
    let places : c.as_slice-places.result.now ≡ positions m = c.as_slice-places.ensures.value ∙ (c.in_ok-numbers.ensures ∙ ap (λ (ts : List DeclText). range_with_len 0 (length ts)) texts) in
    let names : c.in_ok-names.names ≡ declared m = c.in_ok-names.ensures ∙ (λ i. with_names [] (map (λ d. (text_at (texts i) d).name) (places i))) in
    record {
      names_are = names;
      named_are = c.in_ok-named.ensures ∙ (λ i. named_rows (texts i) (names i) (places i));
      rows_are = c.in_ok-axioms.ensures.rows ∙ ap mentions c.parts-parts.ensures.same;
      unbound_are = c.in_ok-axioms.ensures.free ∙ ap free c.parts-parts.ensures.same;
    }
