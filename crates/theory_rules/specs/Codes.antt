-- The codes of Ifs and of linear facts.
use Rattle.std.specs.Prelude.{ℕ, Bool, refl}
use Rattle.std.specs.Coded.{Coded, code_by, coded×, coded_ℕ, coded_bool}
use Rattle.logic_core.specs.Tree.{Tree}
use Rattle.logic_core.specs.Codes.{coded_tree}
use Rattle.logic_core.specs.Sum.{Linear}
use Rattle.logic_core.specs.SumCodes.{coded_linear}
use Rattle.theory_rules.specs.Condition.{Choice}
use Rattle.theory_rules.specs.Combining.{Entry}

abbrev pub coded_choice : Coded Choice
coded_choice = code_by (Tree × (Tree × (Tree × Tree))) (coded× coded_tree (coded× coded_tree (coded× coded_tree coded_tree))) (λ c. (c.whole, (c.condition, (c.yes, c.no)))) (λ p. record { whole = p.0; condition = (p.1).0; yes = ((p.1).1).0; no = ((p.1).1).1 }) (λ _. refl)

abbrev pub coded_entry : Coded Entry
coded_entry = code_by (ℕ × (Linear × Bool)) (coded× coded_ℕ (coded× coded_linear coded_bool)) (λ e. (e.number, (e.form, e.turned))) (λ p. record { number = p.0; form = (p.1).0; turned = (p.1).1 }) (λ _. refl)
