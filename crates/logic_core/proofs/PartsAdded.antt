-- Parts join a sum one after another.
use Rattle.std.proofs.Common.{◌≡◌, refl, ℤ, Some, None, option_map}
use Rattle.logic_terms.specs.Tree.{Tree, Parts, part}
use Rattle.logic_terms.specs.Wide.{checked_mul, ◌>>=◌}
use Rattle.logic_core.specs.Sum.{Linear, add_atom, add_part, add_parts}

-- the first part, and then the rest
pub add_parts_first : (k j : ℤ) (t : Tree) (ps : Parts) (s : Linear) → add_parts k (part j t ps) s ≡ (add_part k j t s >>= λ r. add_parts k ps r)
add_parts_first k j t ps s = elim (checked_mul k j) as (λ o. (o >>= λ n. add_atom n t s.parts >>= λ qs. add_parts k ps (record { parts = qs; rest = s.rest })) ≡ ((o >>= λ n. option_map (λ qs. record { parts = qs; rest = s.rest }) (add_atom n t s.parts)) >>= λ r. add_parts k ps r)) [
  | None ↦ refl
  | Some n ↦ elim (add_atom n t s.parts) as (λ o. (o >>= λ qs. add_parts k ps (record { parts = qs; rest = s.rest })) ≡ (option_map (λ qs. record { parts = qs; rest = s.rest }) o >>= λ r. add_parts k ps r)) [
    | None ↦ refl
    | Some qs ↦ refl
  ]
]
