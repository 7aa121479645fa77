-- Values: integers, truth values, and finite tables over a default.
use Rattle.std.specs.Prelude.{ℕ, nat_eq, ◌-◌, ℤ, pos, int_lt, Bool, true, false, ◌&&◌, not, cond, List, [], ◌∷◌}
use Rattle.std.specs.Ordering.{int_eq}
use Rattle.logic_terms.specs.Tree.{Kind, int, boolean, map}

mutual
  pub data Value : Type 0 where
    whole : ℤ → Value
    flag : Bool → Value
    table : Value → Entries → Value

  pub data Entries : Type 0 where
    no_entries : Entries
    entry : ℤ → Value → Entries → Entries

abbrev pub int_of : Value → ℤ
int_of (whole n) = n
int_of (flag b) = pos 0
int_of (table d es) = pos 0

abbrev pub holds : Value → Bool
holds (whole n) = false
holds (flag b) = b
holds (table d es) = false

abbrev pub bool_eq : Bool → Bool → Bool
bool_eq true b = b
bool_eq false b = not b

-- the same value, entry by entry
abbrev mutual
  pub same : Value → Value → Bool
  same (whole m) (whole n) = int_eq m n
  same (flag b) (flag c) = bool_eq b c
  same (table d es) (table e fs) = same d e && same_entries es fs
  same v w = false

  pub same_entries : Entries → Entries → Bool
  same_entries no_entries no_entries = true
  same_entries (entry i v es) (entry j w fs) = int_eq i j && (same v w && same_entries es fs)
  same_entries es fs = false

-- the entry at an index, or the default
abbrev pub look_in : Value → Entries → ℤ → Value
look_in d no_entries i = d
look_in d (entry j v es) i = cond (int_eq i j) v (look_in d es i)

abbrev pub look : Value → ℤ → Value
look (whole n) i = whole (pos 0)
look (flag b) i = whole (pos 0)
look (table d es) i = look_in d es i

-- an entry in front, unless it has the default
abbrev pub kept : Value → ℤ → Value → Entries → Entries
kept d i v es = cond (same v d) es (entry i v es)

-- the entries, with v at i
abbrev pub put_in : Value → Entries → ℤ → Value → Entries
put_in d no_entries i v = kept d i v no_entries
put_in d (entry j w es) i v = cond (int_eq i j) (kept d i v es) (cond (int_lt i j) (kept d i v (entry j w es)) (entry j w (put_in d es i v)))

abbrev pub put : Value → ℤ → Value → Value
put (whole n) i v = whole n
put (flag b) i v = flag b
put (table d es) i v = table d (put_in d es i v)

-- every index is above this one
abbrev pub above : ℤ → Entries → Bool
above i no_entries = true
above i (entry j v es) = int_lt i j

-- a value of a sort: in a table the indices rise, and no entry has the default
abbrev mutual
  pub is_of : Kind → Value → Bool
  is_of int (whole n) = true
  is_of boolean (flag b) = true
  is_of (map k) (table d es) = is_of k d && are_entries k d es
  is_of k v = false

  pub are_entries : Kind → Value → Entries → Bool
  are_entries k d no_entries = true
  are_entries k d (entry i v es) = is_of k v && (not (same v d) && (above i es && are_entries k d es))

abbrev pub are_of : List Kind → List Value → Bool
are_of [] [] = true
are_of (k ∷ ks) (v ∷ vs) = is_of k v && are_of ks vs
are_of ks vs = false

-- the value at a number
abbrev pub at : List Value → ℕ → Value
at [] n = whole (pos 0)
at (v ∷ vs) n = cond (nat_eq n 0) v (at vs (n - 1))
