-- The code of a sum under way, by which proofs tell two apart: that of its parts and its constant.
use Rattle.std.specs.Prelude.{ℤ, refl}
use Rattle.std.specs.Coded.{Coded, code_by, coded×, coded_ℤ}
use Rattle.logic_terms.specs.Tree.{Parts}
use Rattle.logic_terms.specs.Codes.{parts_code, parts_inj}
use Rattle.logic_core.specs.Sum.{Linear}

abbrev pub coded_parts : Coded Parts
coded_parts = record { code = parts_code; inj = parts_inj }

abbrev pub coded_linear : Coded Linear
coded_linear = code_by (Parts × ℤ) (coded× coded_parts coded_ℤ) (λ s. (s.parts, s.rest)) (λ p. record { parts = p.0; rest = p.1 }) (λ _. refl)
