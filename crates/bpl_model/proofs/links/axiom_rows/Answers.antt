use Rattle.std.proofs.Common.{◌≡◌, ◌∙◌, ap, map, filter, length, arith}
use Rattle.std.specs.List.{range_with_len}
use Rattle.std.proofs.lemmas.Grind.{common_steps}
use Rattle.bpl_model.specs.Names.{with_names}
use Rattle.bpl_model.specs.Reach.{axiom_name}
use Rattle.bpl_model.specs.Walk.{is_free, mention_rows}
use Rattle.bpl_model.specs.Links.{axioms, symbols}
use Rattle.bpl_model.proofs.links.axiom_rows.Goals as goal

pub returns : goal.returns
returns c =
    let m = c.args.parts.now in
    let texts : c.as_slice-texts.result.now ≡ m.texts = grind (arith, common_steps) in
    let count : c.len.result ≡ length m.axioms = grind (arith, common_steps) in
    let names : c.as_slice.result.now ≡ map axiom_name (range_with_len 1 (length m.axioms)) = c.as_slice.ensures.value ∙ (c.in_ok-names.ensures ∙ ap (λ k. map axiom_name (range_with_len 1 k)) count) in
    let S : c.in_ok-symbols.symbols ≡ symbols m = c.in_ok-symbols.ensures in
    let A : c.put_names.new.names ≡ axioms m = c.in_ok-put_names.ensures ∙ (λ i. with_names (c.new-axioms.ensures i) (names i)) in
    record {
      rows = c.in_ok-rows.ensures ∙ (λ i. mention_rows (texts i) (S i) (A i) (c.requires i));
      free = c.in_ok-free.ensures ∙ (λ i. filter (is_free (texts i) (S i) (A i)) (c.requires i));
    }
