-- Reading and writing tables.
use Rattle.std.specs.Prelude.{◌≡◌, ℤ, IsTrue}
use Rattle.logic_core.specs.Tree.{Kind, map}
use Rattle.logic_core.specs.Value.{Value, look, put, is_of}

-- at the index that was written stands what was written
abbrev pub WritesAreRead : Type 0
WritesAreRead = (k : Kind) (m : Value) (i : ℤ) (x : Value) → IsTrue (is_of (map k) m) → look (put m i x) i ≡ x

-- elsewhere stands what stood there
abbrev pub OthersStay : Type 0
OthersStay = (m : Value) (i : ℤ) (x : Value) (n : ℤ) → ¬ (n ≡ i) → look (put m i x) n ≡ look m n

-- tables of one sort are equal where they agree at every index
abbrev pub ReadsDecideTables : Type 0
ReadsDecideTables = (k : Kind) (v w : Value) → IsTrue (is_of (map k) v) → IsTrue (is_of (map k) w) → ((n : ℤ) → look v n ≡ look w n) → v ≡ w
