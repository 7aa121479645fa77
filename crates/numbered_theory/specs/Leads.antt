-- Linear facts whose lead atoms are among numbers.
use Rattle.std.specs.Prelude.{◌≡◌, ℕ, ◌<◌, ℤ, nat_eq, Bool, true, false, not, ◌&&◌, ◌||◌, Option, Some, None, List, length, option_map, IfSome, if◌then◌else◌, ⊤}
use Rattle.std.specs.List.{list_any, AllZip}
use Rattle.logic_core.specs.Tree.{Tree}
use Rattle.logic_core.specs.Combine.{lead, sum_of}
use Rattle.term_bank.specs.Numbered.{at}
use Rattle.theory_rules.specs.Combining.{is_positive, is_negative}
use Rattle.theory_rules.specs.Counting.{counted_number}
use Rattle.numbered_theory.specs.declared.entries.Entry.{Entry}

-- the lead atom is among the first numbers where its coefficient counts as positive, and among the second where it counts as negative
abbrev pub IsPut : List ℕ → List ℕ → Bool → Option (ℤ × ℕ) → Type 0
IsPut above below turned None = ⊤
IsPut above below turned (Some p) = (is_positive (counted_number turned p.0) ≡ true → list_any (nat_eq p.1) above ≡ true) × (is_negative (counted_number turned p.0) ≡ true → list_any (nat_eq p.1) below ≡ true)

-- the lead atom is among those of the opposite sign
abbrev pub meets : List ℕ → List ℕ → Bool → Option (ℤ × ℕ) → Bool
meets above below turned None = false
meets above below turned (Some p) = (is_negative (counted_number turned p.0) && list_any (nat_eq p.1) above) || (is_positive (counted_number turned p.0) && list_any (nat_eq p.1) below)

-- there is no lead, or its coefficient is neither positive nor negative
abbrev pub has_no_sign : Option (ℤ × ℕ) → Bool
has_no_sign None = true
has_no_sign (Some p) = not (is_positive p.0) && not (is_negative p.0)

-- a linear fact has its lead among these numbers
pub record IsNoted (ts : List Tree) (above below : List ℕ) (e : Entry) : Type 0 where
  pub first : Option (ℤ × ℕ)
  pub is : option_map (λ (p : ℤ × ℕ). (p.0, at ts p.1)) first ≡ lead (sum_of (at ts e.sum))
  pub within : IfSome first (λ p. p.1 < length ts)
  pub put : IsPut above below e.turned first

-- the side of a fact Le(0, d) as the fact counts
abbrev pub side_entry : ℕ → Entry
side_entry s = record { number = 0; sum = s; turned = false }

-- the number of the lead atom of a term as a sum, where it has a lead
pub record IsLed (ts : List Tree) (sum : ℕ) (atom : Option ℕ) : Type 0 where
  pub first : Option (ℤ × ℕ)
  pub is : option_map (λ (p : ℤ × ℕ). (p.0, at ts p.1)) first ≡ lead (sum_of (at ts sum))
  pub within : IfSome first (λ p. p.1 < length ts)
  pub atom_is : option_map (λ (p : ℤ × ℕ). p.1) first ≡ atom

-- those of linear facts
abbrev pub AreLed : List Tree → List Entry → List (Option ℕ) → Type 0
AreLed ts es atoms = AllZip (λ (e : Entry) (o : Option ℕ). IsLed ts e.sum o) es atoms

-- both are there and one
abbrev pub is_one_atom : Option ℕ → Option ℕ → Bool
is_one_atom None o = false
is_one_atom (Some i) None = false
is_one_atom (Some i) (Some j) = nat_eq i j

-- those of the terms as sums
abbrev pub AreSidesLed : List Tree → List ℕ → List (Option ℕ) → Type 0
AreSidesLed ts sides atoms = AllZip (IsLed ts) sides atoms

-- the number of the atom of a lead whose coefficient has a sign
abbrev pub signed_atom : Option (ℤ × ℕ) → Option ℕ
signed_atom None = None
signed_atom (Some p) = if not (is_positive p.0) && not (is_negative p.0) then None else Some p.1

-- that of this lead
pub record IsSignedAtom (ts : List Tree) (found : Option (ℤ × Tree)) (atom : Option ℕ) : Type 0 where
  pub first : Option (ℤ × ℕ)
  pub is : option_map (λ (p : ℤ × ℕ). (p.0, at ts p.1)) first ≡ found
  pub within : IfSome first (λ p. p.1 < length ts)
  pub atom_is : signed_atom first ≡ atom

-- the first is there only where it is the second
abbrev pub may_be_one : Option ℕ → Option ℕ → Bool
may_be_one None o = true
may_be_one (Some i) o = is_one_atom o (Some i)
