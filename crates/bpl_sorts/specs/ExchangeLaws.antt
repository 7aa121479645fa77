-- A program tells the carriers of a user type apart by equality alone.
use Rattle.std.specs.Prelude.{◌↔◌, ℕ, ℤ, IsTrue, List}
use Rattle.logic_core.specs.Tree.{Tree}
use Rattle.logic_core.specs.Def.{Def}
use Rattle.logic_core.specs.Value.{Value, are_of}
use Rattle.logic_laws.specs.Assignment.{IsAssignment, ValueIs}
use Rattle.bpl_sorts.specs.Types.{Ty, kinds_of, Head}
use Rattle.bpl_sorts.specs.Typed.{HasType, AreTypedDefs}
use Rattle.bpl_sorts.specs.Exchange.{exchange, exchanged}

-- where two carriers of a user type are exchanged in an assignment, the value of each term with a type is the exchanged one
abbrev pub ExchangesKeepValues : Type 0
ExchangesKeepValues = (user : ℕ) (a c : ℤ) (vars : List Ty) (heads : List Head) (defs : List Def) (frees : List Value) (bound : List Ty) (b : List Value) (t : Tree) (s : Ty)
    → IsAssignment (kinds_of vars) defs frees → AreTypedDefs vars heads defs → IsTrue (are_of (kinds_of bound) b) → HasType vars heads bound t s
    → (w : Value) → ValueIs frees defs t b w ↔ ValueIs (exchanged user a c vars frees) defs t (exchanged user a c bound b) (exchange user a c s w)
