-- Parts of small programs, for the examples.
use Rattle.std.specs.Prelude.{ℕ, [], codes}
use Rattle.bv_base.specs.declared.place.Place.{Place}
use Rattle.bpl_ast.specs.Place.{Name}
use Rattle.bpl_ast.specs.Tree.{Expr, expr, Node, Groups}
use Rattle.bpl_ast.specs.Statement.{Signature, DeclBody, Decl}
use Prim.Native.String.{String}

abbrev pub place : ℕ → ℕ → Place
place l c = record { line = l; col = c }

abbrev pub name : ℕ → ℕ → String → Name
name l c s = record { text = codes s; at = place l c }

abbrev pub expression : ℕ → ℕ → Node → Expr
expression l c k = expr (place l c) k

abbrev pub signature : Groups → Groups → Signature
signature i o = record { ins = i; outs = o }

abbrev pub declaration : String → DeclBody → Decl
declaration s b = record { name = codes s; start = 0; finish = 0; source = []; body = b }
