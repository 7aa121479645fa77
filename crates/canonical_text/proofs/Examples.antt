-- Canonical lines, computed.
use Rattle.std.specs.Prelude.{true, ◌≡◌, refl, ℕ, false, List, [], ◌∷◌, codes, Some, None}
use Rattle.std.specs.Fmt.{digits}
use Rattle.bv_base.specs.declared.place.Place.{Place}
use Rattle.bpl_ast.specs.Place.{Name, integer}
use Rattle.bpl_ast.specs.Tree.{eq, lt, le, for_all, Expr, expr, number, variable, apply, choose, quantified, implies, ands, ors, related, sums, products, negation, minus, indexed, Exprs, no_exprs, item, no_terms, plus, less, no_indices, at_index, update, no_triggers, trigger, no_groups, group, no_clause}
use Rattle.bpl_ast.specs.Statement.{stmt, loop, call, havoc, no_branch, assign, branches, branch, otherwise, no_stmts, next, ensures, constant, function, axiom_of, procedure}
use Rattle.canonical_text.specs.Expression.{expression}
use Rattle.canonical_text.specs.Glyph.{spaced, line}
use Rattle.canonical_text.specs.Lines.{statement, lines}
use Prim.Native.String.{String}

abbrev n : String → Name
n s = record { text = codes s; at = record { line = 1; col = 1 } }

abbrev o : Place
o = record { line = 1; col = 1 }

abbrev v : String → Expr
v s = expr o (variable (n s))

abbrev i : ℕ → Expr
i k = expr o (number k)

abbrev two : Expr → Expr → Exprs
two x y = item x (item y no_exprs)

abbrev shown : Expr → List ℕ
shown x = spaced (expression x)

const_line : lines (constant None (n "limit" ∷ []) (integer o)) ≡ codes "const limit: int;" ∷ []
unfolding line
const_line = refl

axiom_line : lines (axiom_of (expr o (related le (i 1) (v "limit")))) ≡ codes "axiom 1 <= limit;" ∷ []
unfolding digits line
axiom_line = refl

function_line : lines (function (n "max") None (record { name = Some (n "a"); type = integer o } ∷ record { name = Some (n "b"); type = integer o } ∷ []) (integer o)
    (Some (expr o (choose (expr o (related lt (v "a") (v "b"))) (v "b") (v "a"))))) ≡ codes "function max(a: int, b: int): int { if a < b then b else a }" ∷ []
unfolding line
function_line = refl

procedure_lines : lines (procedure (n "Larger") None
    (record { ins = group (n "a" ∷ []) (integer o) no_clause (group (n "b" ∷ []) (integer o) no_clause no_groups); outs = group (n "r" ∷ []) (integer o) no_clause no_groups })
    (ensures o false (expr o (related eq (v "r") (expr o (apply (n "max") (two (v "a") (v "b")))))) ∷ [])
    (Some (record {
      locals = [];
      stmts = next (stmt [] o (branches (branch o (Some (expr o (related lt (v "a") (v "b"))))
          (next (stmt [] o (assign (record { name = n "r"; indices = no_exprs } ∷ []) (item (v "b") no_exprs))) no_stmts)
          (otherwise (next (stmt [] o (assign (record { name = n "r"; indices = no_exprs } ∷ []) (item (v "a") no_exprs))) no_stmts))))) no_stmts;
    })))
    ≡ codes "procedure Larger (a: int, b: int) returns (r: int)" ∷ codes "  ensures r == max(a, b);" ∷ codes "{" ∷ codes "  if (a < b)" ∷ codes "  {" ∷ codes "    r := b;" ∷ codes "  }" ∷ codes "  else" ∷ codes "  {" ∷ codes "    r := a;" ∷ codes "  }" ∷ codes "}" ∷ []
unfolding line
procedure_lines = refl

quantifier_shown : shown (expr o (quantified for_all o None (group (n "k" ∷ []) (integer o) no_clause no_groups) (trigger o (item (expr o (indexed (v "m") (at_index (v "k") no_indices))) no_exprs) no_triggers)
    (expr o (implies (two (expr o (ands (two (expr o (related le (i 0) (v "k"))) (expr o (related lt (v "k") (v "n")))))) (expr o (related le (expr o (indexed (v "m") (at_index (v "k") no_indices))) (v "x"))))))))
    ≡ codes "(forall k: int :: { m[k] } 0 <= k && k < n ==> m[k] <= x)"
unfolding digits
quantifier_shown = refl

-- parentheses that the tree needs

nested_ands : shown (expr o (ands (two (expr o (ands (two (v "a") (v "b")))) (v "c")))) ≡ codes "(a && b) && c"
nested_ands = refl

nested_index : shown (expr o (indexed (expr o (indexed (v "a") (at_index (i 1) no_indices))) (update (i 2) (v "b") no_indices))) ≡ codes "(a[1])[2 := b]"
unfolding digits
nested_index = refl

nested_implies : shown (expr o (implies (two (v "a") (expr o (implies (two (v "b") (v "c"))))))) ≡ codes "a ==> (b ==> c)"
nested_implies = refl

sum_of_minus : shown (expr o (products (two (expr o (minus (expr o (minus (v "a"))))) (expr o (sums (v "b") (less (v "c") no_terms)))))) ≡ codes "--a * (b - c)"
sum_of_minus = refl

-- an `if` that would take in what follows

abbrev if_else : Expr → Expr
if_else x = expr o (choose (v "c") (v "a") x)

if_first : shown (expr o (sums (if_else (v "b")) (plus (v "d") no_terms))) ≡ codes "(if c then a else b) + d"
if_first = refl

if_last : shown (expr o (sums (v "d") (plus (if_else (v "b")) no_terms))) ≡ codes "d + if c then a else b"
if_last = refl

-- the operand after `else` is compared already, so it can't take in another comparison
if_compared : shown (expr o (related lt (if_else (expr o (related lt (v "b") (v "d")))) (v "e"))) ≡ codes "if c then a else b < d < e"
if_compared = refl

if_chain : shown (expr o (ors (two (if_else (expr o (ands (two (v "b") (v "d"))))) (v "e")))) ≡ codes "if c then a else b && d || e"
if_chain = refl

-- two end there: the outermost is put in parentheses
if_in_if : shown (expr o (ands (two (if_else (if_else (v "b"))) (v "d")))) ≡ codes "(if c then a else if c then a else b) && d"
if_in_if = refl

if_below : shown (expr o (related lt (expr o (negation (if_else (v "b")))) (v "d"))) ≡ codes "!(if c then a else b) < d"
if_below = refl

loop_lines : statement 2 (stmt (n "L" ∷ []) o (loop (Some (expr o (related lt (v "i") (v "n")))) (record { at = o; free = true; formula = expr o (ands (two (expr o (related le (v "k") (v "i"))) (expr o (related le (v "i") (v "n"))))) } ∷ [])
    (next (stmt [] o (call (n "x" ∷ []) (n "Larger") (two (v "x") (expr o (indexed (v "m") (at_index (v "i") no_indices)))))) (next (stmt [] o (havoc (n "x" ∷ n "i" ∷ []))) no_stmts))))
    ≡ codes "  L: while (i < n)" ∷ codes "    free invariant k <= i && i <= n;" ∷ codes "  {" ∷ codes "    call x := Larger(x, m[i]);" ∷ codes "    havoc x, i;" ∷ codes "  }" ∷ []
unfolding line
loop_lines = refl

else_if_lines : statement 0 (stmt [] o (branches (branch o None no_stmts (branch o (Some (v "a")) no_stmts no_branch)))) ≡ codes "if (*)" ∷ codes "{" ∷ codes "}" ∷ codes "else" ∷ codes "if (a)" ∷ codes "{" ∷ codes "}" ∷ []
unfolding line
else_if_lines = refl
