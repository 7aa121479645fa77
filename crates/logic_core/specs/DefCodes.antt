-- Codes of definitions and signatures, by which proofs tell them apart: those of their fields.
use Rattle.std.specs.Prelude.{Bool, List, refl}
use Rattle.std.specs.Coded.{Coded, code_by, coded×, coded_bool, coded_list}
use Rattle.logic_terms.specs.Tree.{Kind, Tree}
use Rattle.logic_terms.specs.Codes.{coded_kind, coded_tree}
use Rattle.logic_terms.specs.Def.{Def, Signature}

abbrev pub coded_def : Coded Def
coded_def = code_by (List Kind × (Kind × (Bool × Tree))) (coded× (coded_list coded_kind) (coded× coded_kind (coded× coded_bool coded_tree))) (λ d. (d.params, (d.sort, (d.logical, d.body)))) (λ p. record { params = p.0; sort = p.1.0; logical = p.1.1.0; body = p.1.1.1 }) (λ _. refl)

abbrev pub coded_signature : Coded Signature
coded_signature = code_by (List Kind × List Def) (coded× (coded_list coded_kind) (coded_list coded_def)) (λ s. (s.vars, s.defs)) (λ p. record { vars = p.0; defs = p.1 }) (λ _. refl)
