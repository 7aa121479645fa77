-- The code of a ForAll's tuple.
use Rattle.std.specs.Prelude.{List, refl}
use Rattle.std.specs.Coded.{Coded, code_by, coded×, coded_list}
use Rattle.logic_core.specs.Tree.{Tree}
use Rattle.logic_core.specs.Codes.{coded_tree}
use Rattle.tableau_branch.specs.Branch.{Fact}
use Rattle.tableau_branch.specs.Codes.{coded_fact}
use Rattle.logic_rules.specs.Instantiating.{Candidate}

abbrev pub coded_candidate : Coded Candidate
coded_candidate = code_by (Fact × (Tree × List Tree)) (coded× coded_fact (coded× coded_tree (coded_list coded_tree))) (λ c. (c.fact, (c.body, c.tuple))) (λ p. record { fact = p.0; body = (p.1).0; tuple = (p.1).1 }) (λ _. refl)
