use Rattle.std.proofs.Common.{◌≡◌, ◌↔◌, not, sym, ◌∙◌, ap, subst, [], Option}
use Rattle.std.specs.Prelude.{IsTrue}
use Rattle.std.specs.List.{list_any}
use Rattle.std.proofs.lemmas.Bool.{not-true, not_from_false}
use Rattle.logic_core.specs.Subterm.{has}
use Rattle.flow_core.specs.declared.block.LoopHead.{LoopHead}
use Rattle.flow_core.specs.Reading.{is_unset}
use Rattle.flow_core.specs.Plain.{InvariantsAvoid}
use Rattle.flow_core.proofs.SetVariables.{avoided, none_mentions}
use Rattle.flow_core.proofs.calls.invariants_avoid.Goals as goal

pub returns-in-Some : goal.returns-in-Some
returns-in-Some c =
    let r = c.any_invariant_mentions.result in
    let any : r ≡ list_any (λ i. has (is_unset c.args.own []) i.formula) c.in-Some.head.invariants = c.any_invariant_mentions.ensures ∙ ap (list_any (λ i. has (is_unset c.args.own []) i.formula)) c.as_slice.ensures in
    let P : Option LoopHead → Type 0 = λ o. (IsTrue (not r)) ↔ InvariantsAvoid c.args.own o in
    subst P (sym c.in-Some.is) (
      (λ h. avoided c.args.own c.in-Some.head.invariants (sym any ∙ not-true r h)),
      (λ avoids. not_from_false r (any ∙ none_mentions c.args.own c.in-Some.head.invariants avoids)),
    )
