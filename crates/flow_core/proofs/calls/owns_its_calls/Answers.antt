use Rattle.std.proofs.Common.{List, sym, subst}
use Rattle.std.proofs.lemmas.Bool.{both_ways}
use Rattle.flow_core.specs.declared.command.Command.{Command}
use Rattle.flow_core.specs.Plain.{SetsBeforeReading}
use Rattle.flow_core.proofs.calls.owns_its_calls.Goals as goal

pub returns-then-sets_before_reading : goal.returns-then-sets_before_reading
returns-then-sets_before_reading c =
    let P : List Command → Type 0 = λ cs. SetsBeforeReading c.args.own cs in (
      (λ h. record { set_first = subst P c.as_slice.ensures (c.sets_before_reading.ensures.0 c.if-sets_before_reading.true); avoided = c.invariants_avoid.ensures.0 h }),
      (λ owns. c.invariants_avoid.ensures.1 owns.avoided),
    )

pub returns-else-sets_before_reading : goal.returns-else-sets_before_reading
returns-else-sets_before_reading c =
    let P : List Command → Type 0 = λ cs. SetsBeforeReading c.args.own cs in (
      (λ h. absurd (both_ways c.sets_before_reading.result c.if-sets_before_reading.false h)),
      (λ owns. c.sets_before_reading.ensures.1 (subst P (sym c.as_slice.ensures) owns.set_first)),
    )
