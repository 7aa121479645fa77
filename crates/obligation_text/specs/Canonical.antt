-- An obligation with canonical numbers; what isn't reached is left out.
use Rattle.std.specs.Prelude.{◌≡◌, ℕ, List, map, filter_map, slice_get}
use Rattle.logic_core.specs.Def.{Obligation}
use Rattle.logic_core.specs.Renamed.{both_renamed, def_renamed}
use Rattle.logic_core.specs.Variables.{place_in}
use Rattle.logic_core.specs.Valid.{Valid}
use Rattle.logic_core.specs.WellSorted.{IsWellSorted}
use Rattle.obligation_text.specs.Numbering.{definition_order, variable_order, IsCanonical}

-- the items with these numbers, in their order
abbrev pub picked : {A : Type 0} → List A → List ℕ → List A
picked as' ns = filter_map (λ n. slice_get as' n) ns

-- these definitions and variables alone, in this order, by new numbers
abbrev pub renumbered : (ℕ → ℕ) → (ℕ → ℕ) → List ℕ → List ℕ → Obligation → Obligation
renumbered new_def new_var fs vs o = record {
  vars = picked o.vars vs;
  defs = map (def_renamed new_def new_var) (picked o.defs fs);
  axioms = map (both_renamed new_def new_var) o.axioms;
  goal = both_renamed new_def new_var o.goal;
}

-- definitions and variables by their places in their orders
abbrev pub canonical : Obligation → Obligation
canonical o = let fs = definition_order o in let vs = variable_order o fs in renumbered (place_in fs) (place_in vs) fs vs o

-- it stays well sorted, and is valid exactly where the obligation is
abbrev pub CanonicalKeeps : Type 0
CanonicalKeeps = (o : Obligation) → IsWellSorted o → IsWellSorted (canonical o) × (Valid o → Valid (canonical o)) × (Valid (canonical o) → Valid o)

-- its numbers are canonical
abbrev pub CanonicalIsCanonical : Type 0
CanonicalIsCanonical = (o : Obligation) → IsWellSorted o → IsCanonical (canonical o)

-- where they are canonical already, nothing changes
abbrev pub CanonicalStays : Type 0
CanonicalStays = (o : Obligation) → IsWellSorted o → IsCanonical o → canonical o ≡ o
