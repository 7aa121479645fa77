-- The code of a store, by which proofs tell stores apart: those of its fields.
use Rattle.std.specs.Prelude.{List, refl}
use Rattle.std.specs.Coded.{Coded, code_by, coded×, coded_list}
use Rattle.logic_core.specs.Tree.{Kind, Tree}
use Rattle.logic_core.specs.Codes.{coded_kind, coded_tree}
use Rattle.logic_core.specs.Def.{Def}
use Rattle.logic_core.specs.DefCodes.{coded_def}
use Rattle.numbered_terms.specs.Stored.{Numbered}

abbrev pub coded_numbered : Coded Numbered
coded_numbered = code_by (List Tree × (List Kind × List Def)) (coded× (coded_list coded_tree) (coded× (coded_list coded_kind) (coded_list coded_def)))
    (λ n. (n.terms, (n.vars, n.defs))) (λ p. record { terms = p.0; vars = p.1.0; defs = p.1.1 }) (λ _. refl)
