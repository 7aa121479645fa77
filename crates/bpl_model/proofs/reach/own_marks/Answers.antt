use Rattle.std.proofs.Common.{◌≡◌, ◌∙◌, ◌++◌, ap, sym, codes, length, arith}
use Rattle.std.specs.Prelude.{filter}
use Rattle.std.specs.List.{flat_map}
use Rattle.std.proofs.lemmas.Grind.{common_steps}
use Rattle.bpl_model.specs.Reach.{is_named, positions}
use Rattle.bpl_model.specs.Marking.{mark_all, unmarked}
use Rattle.bpl_model.specs.Walk.{text_at, leads_of}
use Rattle.bpl_model.proofs.Marks.{mark_append}
use Rattle.bpl_model.proofs.reach.own_marks.Goals as goal

pub returns : goal.returns
returns c =
    let m = c.args.links.now in
    let n = c.args.name.now in
    let own : c.as_slice.result.now ≡ codes "implementation " ++ n = c.as_slice.ensures.value ∙ c.in_ok-implementation.ensures in
    let texts : c.as_slice-texts.result.now ≡ m.texts = grind (arith, common_steps) in
    let none : c.new-marking.result ≡ unmarked (length m.texts) = c.new-marking.ensures ∙ ap (λ ts. unmarked (length ts)) texts in
    let first = c.in_ok-mark_leads.ensures ∙ (λ i. mark_all (none i) (flat_map (λ d. (text_at (texts i) d).leads) (c.named.ensures i))) in
    let second = c.in_ok-mark_leads-2.ensures ∙ (λ i. mark_all (first i) (flat_map (λ d. (text_at (texts i) d).leads) ((c.named-2.ensures ∙ ap (λ k. filter (is_named m k) (positions m)) own) i))) in
    second ∙ sym (mark_append (unmarked (length m.texts)) (leads_of m.texts (positions m) n) (leads_of m.texts (positions m) (codes "implementation " ++ n)))
