-- Codes of contexts and of what is added to them, by which proofs tell them apart: those of their fields.
use Rattle.std.specs.Prelude.{List, refl}
use Rattle.std.specs.Coded.{Coded, code_by, coded×, coded_list}
use Rattle.logic_core.specs.Tree.{Kind, Tree}
use Rattle.logic_core.specs.Codes.{coded_kind, coded_tree}
use Rattle.proof_core.specs.Context.{Context}
use Rattle.proof_check.specs.Added.{Added}

abbrev pub coded_context : Coded Context
coded_context = code_by (List Kind × List Tree) (coded× (coded_list coded_kind) (coded_list coded_tree)) (λ c. (c.vars, c.facts)) (λ p. record { vars = p.0; facts = p.1 }) (λ _. refl)

abbrev pub coded_added : Coded Added
coded_added = code_by (List Kind × List Tree) (coded× (coded_list coded_kind) (coded_list coded_tree)) (λ a. (a.vars, a.facts)) (λ p. record { vars = p.0; facts = p.1 }) (λ _. refl)
