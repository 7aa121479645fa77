-- Codes of variables, by which proofs tell them apart.
use Rattle.std.specs.Prelude.{◌≡◌, ℕ, zero, suc, List, Option, refl}
use Rattle.std.specs.Coded.{Coded, code_by, coded×, coded_ℕ, coded_list, coded_option}
use Rattle.logic_terms.specs.Tree.{Kind}
use Rattle.logic_terms.specs.Codes.{coded_kind}
use Rattle.bpl_scopes.specs.declared.part.Role.{Role}
use Rattle.bpl_scopes.specs.declared.part.Role.TheVariants.{In, Out, Local}
use Rattle.bpl_scopes.specs.Scopes.{Var}

abbrev pub role_number : Role → ℕ
role_number In = 0
role_number Out = 1
role_number Local = 2

abbrev pub role_at : ℕ → Role
role_at zero = In
role_at (suc zero) = Out
role_at (suc (suc n)) = Local

pub role_back : (r : Role) → role_at (role_number r) ≡ r
role_back In = refl
role_back Out = refl
role_back Local = refl

abbrev pub coded_role : Coded Role
coded_role = code_by ℕ coded_ℕ role_number role_at role_back

abbrev pub coded_var : Coded Var
coded_var = code_by (List ℕ × (Role × (ℕ × Option Kind))) (coded× (coded_list coded_ℕ) (coded× coded_role (coded× coded_ℕ (coded_option coded_kind)))) (λ v. (v.name, (v.role, (v.number, v.sort)))) (λ p. record { name = p.0; role = p.1.0; number = p.1.1.0; sort = p.1.1.1 }) (λ _. refl)

abbrev pub coded_vars : Coded (List Var)
coded_vars = coded_list coded_var
