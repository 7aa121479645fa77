-- The terms of a table by number, and those that stand at its places.
use Rattle.std.specs.Prelude.{List, refl}
use Rattle.std.specs.Coded.{Coded, code_by, coded×, coded_list}
use Rattle.logic_core.specs.Tree.{Tree}
use Rattle.logic_core.specs.Codes.{coded_tree}

pub record Tabled : Type 0 where
  pub terms : List Tree
  pub standing : List Tree

abbrev pub coded_tabled : Coded Tabled
coded_tabled =
    code_by (List Tree × List Tree) (coded× (coded_list coded_tree) (coded_list coded_tree)) (λ e. (e.terms, e.standing)) (λ p. record { terms = p.0; standing = p.1 }) (λ _. refl)
