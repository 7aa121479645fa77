-- Where no place is told, the second reading has no fault.
use Rattle.std.specs.Prelude.{◌≡◌, refl, ℕ, Option, Some, None, option_map}
use Rattle.bv_base.specs.declared.place.Place.{Place}
use Rattle.bpl_scopes.specs.declared.fault.Fault.{Fault}

pub no_fault : (o : Option (ℕ × Fault)) → option_map {U = ℕ × Place} (λ (p : ℕ × Fault). (p.0, p.1.at)) o ≡ None → o ≡ None
no_fault None e = refl
no_fault (Some p) e = absurd (cc)
