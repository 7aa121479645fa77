use Rattle.std.proofs.Common.{◌∙◌, sym, subst}
use Rattle.logic_core.specs.WellSorted.{IsWellSorted}
use Rattle.obligation_text.specs.Numbering.{definition_order, variable_order, IsCanonical}
use Rattle.obligation_text.proofs.CanonicalSorted.{canonical_is_sorted}
use Rattle.obligation_text.proofs.CanonicalNumbers.{canonical_is_canonical}
use Rattle.obligation_text.proofs.obligation.Obligation.numbered.Goals as goal

pub renumbered-requires-clause-order : goal.renumbered-requires-clause-order
renumbered-requires-clause-order c = c.in_ok-order.ensures c.args.signature.now.vars
    ∙ (λ i. definition_order (record { vars = c.args.signature.now.vars; defs = c.defs.ensures i; axioms = c.args.axioms.now; goal = c.args.goal.now }))

pub renumbered-requires-clause-named : goal.renumbered-requires-clause-named
renumbered-requires-clause-named c = c.in_ok-named.ensures c.args.signature.now.vars
    ∙ (λ i. variable_order (record { vars = c.args.signature.now.vars; defs = c.defs-2.ensures i; axioms = c.args.axioms.now; goal = c.args.goal.now }) (c.numbers.ensures i))

pub into_obligation-requires-clause-sorted : goal.into_obligation-requires-clause-sorted
into_obligation-requires-clause-sorted c = subst IsWellSorted (sym c.in_ok-parts.ensures)
    (canonical_is_sorted (record { vars = c.args.signature.now.vars; defs = c.args.signature.now.defs; axioms = c.args.axioms.now; goal = c.args.goal.now }) c.requires)

pub into_obligation-requires-clause-numbered : goal.into_obligation-requires-clause-numbered
into_obligation-requires-clause-numbered c = subst IsCanonical (sym c.in_ok-parts.ensures)
    (canonical_is_canonical (record { vars = c.args.signature.now.vars; defs = c.args.signature.now.defs; axioms = c.args.axioms.now; goal = c.args.goal.now }) c.requires)
