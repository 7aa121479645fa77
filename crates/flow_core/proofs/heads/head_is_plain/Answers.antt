use Rattle.std.proofs.Common.{nat_eq, eq-eqb, ◌≢◌, sym, ◌∙◌}
use Rattle.std.proofs.lemmas.Bool.{iff_false, not_from_true, both_ways, ltb-true, lt-ltb, not-true, not_from_false, false_from_ne_true}
use Rattle.flow_core.specs.Plain.{EnteredFrom}
use Rattle.flow_core.proofs.heads.head_is_plain.Goals as goal
use Rattle.flow_core.proofs.heads.head_is_plain.Goals.{then-head-ne0, else-head-ne0}

pub returns-then-head-entry_limit : goal.returns-then-head-entry_limit
returns-then-head-entry_limit c =
    let first : (c.args.head ≢ 0) × EnteredFrom c.args.blocks.now c.args.head c.args.head = elim c.if-head-ne0.branch [
      | then-head-ne0 w ↦ (w.if-head-ne0.true, (w.entry_limit.ensures c.args.head).0 (ltb-true c.args.head w.entry_limit.result (sym w.value-is ∙ c.if-head-entry_limit.true)))
      | else-head-ne0 w ↦ absurd (both_ways c.if-head-ne0.value (w.value-is ∙ not_from_true (nat_eq c.args.head 0) (eq-eqb c.args.head 0 w.if-head-ne0.false)) c.if-head-entry_limit.true)
    ] in (
      (λ h. record { reached_again = first.1; not_first = first.0; unbranched = λ b e several. iff_false c.is_branched_to.ensures (not-true c.is_branched_to.result h) (b, e, several) }),
      (λ plain. not_from_false c.is_branched_to.result (false_from_ne_true c.is_branched_to.result (λ h. let e = c.is_branched_to.ensures.0 h in plain.unbranched e.0 e.1 e.2))),
    )

pub returns-else-head-entry_limit : goal.returns-else-head-entry_limit
returns-else-head-entry_limit c = (
  (λ h. absurd (both_ways c.if-head-ne0.value c.if-head-entry_limit.false h)),
  (λ plain. elim c.if-head-ne0.branch [
    | then-head-ne0 w ↦ w.value-is ∙ lt-ltb c.args.head w.entry_limit.result ((w.entry_limit.ensures c.args.head).1 plain.reached_again)
    | else-head-ne0 w ↦ absurd (plain.not_first w.if-head-ne0.false)
  ]),
)
