use Rattle.std.proofs.Common.{◌≡◌, ◌==◌, inl, inr, ◌∙◌, sym}
use Rattle.std.specs.Prelude.{count_by}
use Rattle.std.proofs.lemmas.Bool.{iff_false, not-true, not_from_false, false_from_ne_true, cases_eq}
use Rattle.flow_core.proofs.Blocks.{to_place}
use Rattle.flow_core.proofs.branches.is_only_edge.Goals as goal

pub returns-then-edges_to-eq1 : goal.returns-then-edges_to-eq1
returns-then-edges_to-eq1 c = (
  (λ h. record {
    once = to_place (λ k. count_by (λ x. x == c.args.c) k.next ≡ 1) c.args.blocks.now c.args.b c.index-blocks-b.result c.requires c.index-blocks-b.is (sym c.edges_to.ensures ∙ c.if-edges_to-eq1.true);
    alone = λ a e. elim (cases_eq a c.args.b) [ inl same ↦ same | inr apart ↦ absurd (iff_false c.has_other_predecessor.ensures (not-true c.has_other_predecessor.result h) (a, apart, e)) ];
  }),
  (λ only. not_from_false c.has_other_predecessor.result (false_from_ne_true c.has_other_predecessor.result (λ h. let e = c.has_other_predecessor.ensures.0 h in e.1 (only.alone e.0 e.2)))),
)
