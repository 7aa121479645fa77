-- The generator: a program of as many procedures as its size, with numbers drawn from the seed.
use Rattle.std.specs.Prelude.{ℕ, zero, suc, ◌+◌, ◌*◌, ◌/◌, ◌%◌, List, [], ◌++◌, codes, decimal}

-- a draw sets the state
abbrev pub next_state : ℕ → ℕ
next_state s = (s * 1_103_515_245 + 12_345) % 2_147_483_648

-- the state after n draws; at first it is the seed
abbrev pub state_after : ℕ → ℕ → ℕ
state_after seed zero = seed
state_after seed (suc n) = next_state (state_after seed n)

-- and the number that the last of them gives
abbrev pub drawn : ℕ → ℕ
drawn s = s / 65_536 % 100

-- P and its number
abbrev pub name_text : ℕ → List ℕ
name_text k = codes "procedure P" ++ decimal k ++ codes "(x: int) returns (r: int)\n"

-- it promises this much where it is given a
abbrev pub contract_text : ℕ → ℕ → List ℕ
contract_text a promised = codes "  requires " ++ decimal a ++ codes " <= x;\n  ensures r >= " ++ decimal promised ++ codes ";\n"

-- it counts to b
abbrev pub loop_text : ℕ → List ℕ
loop_text b =
    codes "{\n  var i: int;\n  i := 0;\n  r := x;\n  while (i < " ++ decimal b
    ++ codes ")\n    invariant 0 <= i && i <= " ++ decimal b
    ++ codes ";\n    invariant r == x + i;\n  {\n    i := i + 1;\n    r := r + 1;\n  }\n  assert r == x + " ++ decimal b ++ codes ";\n}\n"

abbrev pub procedure_text : ℕ → ℕ → ℕ → List ℕ
procedure_text k a b = name_text k ++ contract_text a (a + b) ++ loop_text b

-- the k-th procedure, from 0, has two draws after those of the procedures before it
abbrev pub generate : ℕ → ℕ → List ℕ
generate seed zero = []
generate seed (suc k) =
    let s = state_after seed (2 * k) in
    generate seed k ++ procedure_text k (drawn (next_state s)) (drawn (next_state (next_state s)))
