-- The exchange of two carriers of a user type: on its carriers it exchanges the two, on a map it acts on what the map gives at each index, elsewhere it does nothing.
use Rattle.std.specs.Prelude.{ℕ, nat_eq, ℤ, cond, List, [], ◌∷◌}
use Rattle.std.specs.Ordering.{int_eq}
use Rattle.logic_core.specs.Value.{Value, whole, table, Entries, no_entries, entry}
use Rattle.bpl_sorts.specs.Types.{Ty, integers, truths, carriers, maps}

abbrev pub each_entry : (Value → Value) → Entries → Entries
each_entry f no_entries = no_entries
each_entry f (entry i v es) = entry i (f v) (each_entry f es)

-- a map with f of what it gives
abbrev pub each_held : (Value → Value) → Value → Value
each_held f (table d es) = table (f d) (each_entry f es)
each_held f v = v

-- of two numbers each becomes the other
abbrev pub other_of : ℤ → ℤ → ℤ → ℤ
other_of a c n = cond (int_eq n a) c (cond (int_eq n c) a n)

abbrev pub swapped : ℤ → ℤ → Value → Value
swapped a c (whole n) = whole (other_of a c n)
swapped a c v = v

module _ (user : ℕ) (a c : ℤ) where
  abbrev pub exchange : Ty → Value → Value
  exchange integers v = v
  exchange truths v = v
  exchange (carriers n) v = cond (nat_eq n user) (swapped a c v) v
  exchange (maps t) v = each_held (exchange t) v

  -- each value by its type
  abbrev pub exchanged : List Ty → List Value → List Value
  exchanged [] vs = vs
  exchanged (t ∷ ts) [] = []
  exchanged (t ∷ ts) (v ∷ vs) = exchange t v ∷ exchanged ts vs
