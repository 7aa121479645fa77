-- A generated text is short.
use Rattle.std.proofs.Common.{ℕ, zero, suc, ◌+◌, ◌*◌, ◌-◌, ◌^◌, ◌<◌, ◌≤◌, List, ◌++◌, length, arith}
use Rattle.std.specs.Prelude.{codes, decimal}
use Rattle.std.proofs.lemmas.List.{length-append}
use Rattle.std.proofs.lemmas.Fmt.{length-decimal-le}
use Rattle.request_text.specs.Generated.{next_state, state_after, drawn, name_text, contract_text, loop_text, procedure_text, generate}
use Rattle.command_words.specs.Limits.{most_size}

both : (xs ys : List ℕ) (m n : ℕ) → length xs ≤ m → length ys ≤ n → length (xs ++ ys) ≤ m + n
both xs ys m n a b = omega (arith, length-append xs ys, a, b)

number : (n : ℕ) → n < 10 ^ 4 → length (decimal n) ≤ 4
number n h = length-decimal-le 4 n (omega arith) h (omega (arith, h))

small : (s : ℕ) → drawn s < 100
small s = omega arith

name_short : (k : ℕ) → k < 10 ^ 4 → length (name_text k) ≤ 15 + 26
name_short k h =
    let word = codes "procedure P" in
    both (word ++ decimal k) (codes "(x: int) returns (r: int)\n") 15 26 (both word (decimal k) 11 4 (omega arith) (number k h)) (omega arith)

contract_short : (a p : ℕ) → a < 10 ^ 4 → p < 10 ^ 4 → length (contract_text a p) ≤ 41 + 2
contract_short a p h k =
    let word = codes "  requires " in
    let next = codes " <= x;\n  ensures r >= " in
    let one = both word (decimal a) 11 4 (omega arith) (number a h) in
    let two = both (word ++ decimal a) next 15 22 one (omega arith) in
    let three = both (word ++ decimal a ++ next) (decimal p) 37 4 two (number p k) in
    both (word ++ decimal a ++ next ++ decimal p) (codes ";\n") 41 2 three (omega arith)

loop_short : (b : ℕ) → b < 10 ^ 4 → length (loop_text b) ≤ 212 + 4
loop_short b h =
    let word = codes "{\n  var i: int;\n  i := 0;\n  r := x;\n  while (i < " in
    let next = codes ")\n    invariant 0 <= i && i <= " in
    let last = codes ";\n    invariant r == x + i;\n  {\n    i := i + 1;\n    r := r + 1;\n  }\n  assert r == x + " in
    let d = decimal b in
    let one = both word d 60 4 (omega arith) (number b h) in
    let two = both (word ++ d) next 64 40 one (omega arith) in
    let three = both (word ++ d ++ next) d 104 4 two (number b h) in
    let four = both (word ++ d ++ next ++ d) last 108 100 three (omega arith) in
    let five = both (word ++ d ++ next ++ d ++ last) d 208 4 four (number b h) in
    both (word ++ d ++ next ++ d ++ last ++ d) (codes ";\n}\n") 212 4 five (omega arith)

procedure_short : (k a b : ℕ) → k < 10 ^ 4 → a < 100 → b < 100 → length (procedure_text k a b) ≤ 84 + 216
procedure_short k a b h i j =
    let front = both (name_text k) (contract_text a (a + b)) 41 43 (name_short k h) (contract_short a (a + b) (omega (arith, i)) (omega (arith, i, j))) in
    both (name_text k ++ contract_text a (a + b)) (loop_text b) 84 216 front (loop_short b (omega (arith, j)))

grows : (seed n : ℕ) → n ≤ most_size → length (generate seed n) ≤ 300 * n
grows seed zero h = omega arith
grows seed (suc k) h =
    let a = drawn (next_state (state_after seed (2 * k))) in
    let b = drawn (next_state (next_state (state_after seed (2 * k)))) in
    omega (arith, grows seed k (omega (arith, h)), length-append (generate seed k) (procedure_text k a b), procedure_short k a b (omega (arith, h)) (small _) (small _))

pub generated_is_short : (seed size : ℕ) → size ≤ most_size → length (generate seed size) < 2 ^ 32 - 1
generated_is_short seed size h = omega (arith, h, grows seed size h)
