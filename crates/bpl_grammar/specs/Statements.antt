-- Which tokens spell which statements, production by production.
use Rattle.std.specs.Prelude.{List, [], ◌∷◌, true, false, Some, None}
use Rattle.bv_base.specs.declared.place.Place.{Place}
use Rattle.bpl_ast.specs.Place.{Name}
use Rattle.bpl_ast.specs.Tree.{Expr, Exprs, no_exprs, item, Groups}
use Rattle.bpl_ast.specs.Statement.{Target, Guard, Invariant, Stmt, stmt, Action, assert, assume, havoc, assign, call, branches, loop, «break», «return», goto, Branches, branch, otherwise, no_branch, Stmts, no_stmts, next, Body}
use Rattle.bpl_grammar.specs.Lexeme.{Lexeme}
use Rattle.bpl_grammar.specs.Grammar.{attrs}
use Rattle.bpl_grammar.specs.Spelling.{Takes}
use Rattle.bpl_grammar.specs.Types.{Lexemes, Is, IsId, name, Ids}
use Rattle.bpl_grammar.specs.Expressions.{E, Es, Args, Groups'}

module _ (place : Lexeme → Place) where
  -- {"[" E "]"}
  pub data Entry : Lexemes → Lexemes → Exprs → Type 0 where
    none : {ts : Lexemes} → Entry ts ts no_exprs
    more : {t u : Lexeme} {ts us vs : Lexemes} {x : Expr} {xs : Exprs} → Is "[" t → E place ts (u ∷ us) x → Is "]" u → Entry us vs xs → Entry (t ∷ ts) vs (item x xs)

  -- Lhs {"," Lhs}, Lhs = Id {"[" E "]"}
  pub data Targets : Lexemes → Lexemes → List Target → Type 0 where
    last : {t : Lexeme} {ts us : Lexemes} {xs : Exprs} → IsId t → Entry ts us xs → Targets (t ∷ ts) us (record { name = name place t; indices = xs } ∷ [])
    more : {t u : Lexeme} {ts us vs : Lexemes} {xs : Exprs} {ys : List Target} → IsId t → Entry ts (u ∷ us) xs → Is "," u → Targets us vs ys
        → Targets (t ∷ ts) vs (record { name = name place t; indices = xs } ∷ ys)

  -- "(" Guard ")", Guard = "*" | E
  pub data Guard' : Lexemes → Lexemes → Guard → Type 0 where
    any : {t u v : Lexeme} {ts : Lexemes} → Is "(" t → Is "*" u → Is ")" v → Guard' (t ∷ u ∷ v ∷ ts) ts None
    formula : {t u : Lexeme} {ts us : Lexemes} {x : Expr} → Is "(" t → E place ts (u ∷ us) x → Is ")" u → Guard' (t ∷ ts) us (Some x)

  -- a word, attributes, which are not kept, an expression and ";"
  pub data Formula : Lexemes → Lexemes → Expr → Type 0 where
    formula : {t : Lexeme} {ts us vs : Lexemes} {x : Expr} → Takes attrs ts us → E place us (t ∷ vs) x → Is ";" t → Formula ts vs x

  -- {Inv}, Inv = ["free"] "invariant" {Attr} E ";"
  pub data Invs : Lexemes → Lexemes → List Invariant → Type 0 where
    none : {ts : Lexemes} → Invs ts ts []
    checked : {t : Lexeme} {ts us vs : Lexemes} {x : Expr} {is : List Invariant} → Is "invariant" t → Formula ts us x → Invs us vs is
        → Invs (t ∷ ts) vs (record { at = place t; free = false; formula = x } ∷ is)
    free : {t u : Lexeme} {ts us vs : Lexemes} {x : Expr} {is : List Invariant} → Is "free" t → Is "invariant" u → Formula ts us x → Invs us vs is
        → Invs (t ∷ u ∷ ts) vs (record { at = place u; free = true; formula = x } ∷ is)

  mutual
    -- a run of labels before a statement is one list
    pub data Stmt' : Lexemes → Lexemes → Stmt → Type 0 where
      labelled : {t u : Lexeme} {ts us : Lexemes} {ls : List Name} {p : Place} {a : Action} → IsId t → Is ":" u → Stmt' ts us (stmt ls p a) → Stmt' (t ∷ u ∷ ts) us (stmt (name place t ∷ ls) p a)
      plain : {t : Lexeme} {ts us : Lexemes} {a : Action} → Action' (t ∷ ts) us a → Stmt' (t ∷ ts) us (stmt [] (place t) a)

    pub data Action' : Lexemes → Lexemes → Action → Type 0 where
      of_assert : {t : Lexeme} {ts us : Lexemes} {x : Expr} → Is "assert" t → Formula ts us x → Action' (t ∷ ts) us (assert x)
      of_assume : {t : Lexeme} {ts us : Lexemes} {x : Expr} → Is "assume" t → Formula ts us x → Action' (t ∷ ts) us (assume x)
      of_havoc : {t u : Lexeme} {ts us : Lexemes} {ns : List Name} → Is "havoc" t → Ids place ts (u ∷ us) ns → Is ";" u → Action' (t ∷ ts) us (havoc ns)
      of_assign : {t u : Lexeme} {ts us vs : Lexemes} {ys : List Target} {xs : Exprs} → Targets ts (t ∷ us) ys → Is ":=" t → Es place us (u ∷ vs) xs → Is ";" u → Action' ts vs (assign ys xs)
      of_call : {t u v : Lexeme} {ts us vs : Lexemes} {xs : Exprs} → Is "call" t → Takes attrs ts (u ∷ us) → IsId u → Args place us (v ∷ vs) xs → Is ";" v
          → Action' (t ∷ ts) vs (call [] (name place u) xs)
      of_call_with_outs : {t u v w : Lexeme} {ts us vs ws : Lexemes} {ns : List Name} {xs : Exprs} → Is "call" t → Takes attrs ts us → Ids place us (u ∷ v ∷ vs) ns → Is ":=" u → IsId v → Args place vs (w ∷ ws) xs → Is ";" w
          → Action' (t ∷ ts) ws (call ns (name place v) xs)
      of_if : {ts us : Lexemes} {bs : Branches} → If ts us bs → Action' ts us (branches bs)
      of_while : {t : Lexeme} {ts us vs ws : Lexemes} {g : Guard} {is : List Invariant} {ss : Stmts} → Is "while" t → Guard' ts us g → Invs us vs is → Block vs ws ss → Action' (t ∷ ts) ws (loop g is ss)
      of_break : {t u : Lexeme} {ts : Lexemes} → Is "break" t → Is ";" u → Action' (t ∷ u ∷ ts) ts («break» None)
      of_break_to : {t u v : Lexeme} {ts : Lexemes} → Is "break" t → IsId u → Is ";" v → Action' (t ∷ u ∷ v ∷ ts) ts («break» (Some (name place u)))
      of_return : {t u : Lexeme} {ts : Lexemes} → Is "return" t → Is ";" u → Action' (t ∷ u ∷ ts) ts «return»
      of_goto : {t u : Lexeme} {ts us : Lexemes} {ns : List Name} → Is "goto" t → Ids place ts (u ∷ us) ns → Is ";" u → Action' (t ∷ ts) us (goto ns)

    -- If = "if" "(" Guard ")" Block ["else" (If | Block)]
    pub data If : Lexemes → Lexemes → Branches → Type 0 where
      alone : {t : Lexeme} {ts us vs : Lexemes} {g : Guard} {ss : Stmts} → Is "if" t → Guard' ts us g → Block us vs ss → If (t ∷ ts) vs (branch (place t) g ss no_branch)
      else_if : {t u : Lexeme} {ts us vs ws : Lexemes} {g : Guard} {ss : Stmts} {bs : Branches} → Is "if" t → Guard' ts us g → Block us (u ∷ vs) ss → Is "else" u → If vs ws bs → If (t ∷ ts) ws (branch (place t) g ss bs)
      else_block : {t u : Lexeme} {ts us vs ws : Lexemes} {g : Guard} {ss rs : Stmts} → Is "if" t → Guard' ts us g → Block us (u ∷ vs) ss → Is "else" u → Block vs ws rs → If (t ∷ ts) ws (branch (place t) g ss (otherwise rs))

    -- Block = "{" {Stmt} "}"
    pub data Block : Lexemes → Lexemes → Stmts → Type 0 where
      block : {t u : Lexeme} {ts us : Lexemes} {ss : Stmts} → Is "{" t → List' ts (u ∷ us) ss → Is "}" u → Block (t ∷ ts) us ss

    pub data List' : Lexemes → Lexemes → Stmts → Type 0 where
      done : {ts : Lexemes} → List' ts ts no_stmts
      more : {ts us vs : Lexemes} {x : Stmt} {ss : Stmts} → Stmt' ts us x → List' us vs ss → List' ts vs (next x ss)

  -- {Var}, Var = "var" {Attr} Groups ";"
  pub data Vars : Lexemes → Lexemes → List Groups → Type 0 where
    none : {ts : Lexemes} → Vars ts ts []
    more : {t u : Lexeme} {ts us vs ws : Lexemes} {g : Groups} {gs : List Groups} → Is "var" t → Takes attrs ts us → Groups' place us (u ∷ vs) g → Is ";" u → Vars vs ws gs → Vars (t ∷ ts) ws (g ∷ gs)

  -- Body = "{" {Var} {Stmt} "}"
  pub data Body' : Lexemes → Lexemes → Body → Type 0 where
    body : {t u : Lexeme} {ts us vs : Lexemes} {gs : List Groups} {ss : Stmts} → Is "{" t → Vars ts us gs → List' us (u ∷ vs) ss → Is "}" u
        → Body' (t ∷ ts) vs (record { locals = gs; stmts = ss })
