-- The replacement of calls: each by its callee's contract, over variables of its own.
use Rattle.std.specs.Prelude.{ℕ, ◌+◌, ◌-◌, nat_eq, nat_lt, true, cond, List, [], ◌∷◌, ◌++◌, map, length, slice_get, position, Option, Some, None, zip, unwrap_or, option_map}
use Rattle.std.specs.List.{range_with_len}
use Rattle.logic_core.specs.Tree.{int, Tree, free}
use Rattle.logic_core.specs.Variables.{renamed}
use Rattle.bv_base.specs.declared.place.Place.{Place}
use Rattle.flow_core.specs.Clause.{Clause, checked, assumed}
use Rattle.bpl_model.specs.Module.{Name, Stmt, assert, assume, havoc, assign, call, if_else, while, break, return, goto, labelled, Stmts, no_stmts, stmt, Global, Local, Proc, Module}
pub use Rattle.bpl_model.specs.Module.{append, one}
use Rattle.bpl_model.specs.StmtView.{stmts_of}
use Rattle.bpl_model.specs.Numbering.{first_global, first_entry, first_in, first_out, first_local}
use Rattle.bpl_model.specs.Contract.{postconditions, call_checks, modified}

-- what stands for a statement, and the variables that its calls own
abbrev pub Cut : Type 0
Cut = Stmts × List Local

-- a call's own variable for an argument, and for an old global
abbrev pub owned : Local → Local
owned l = record l { own = true; clause = None }

abbrev pub owned_global : Option Global → Local
owned_global None = record { name = []; sort = int; own = true; clause = None }
owned_global (Some g) = record { name = g.name; sort = g.sort; own = true; clause = None }

-- of a call of q whose own variables begin at n: the arguments, then the old globals, then the outs
module _ (m : Module) (q : Proc) (n : ℕ) where
  abbrev pub arguments : List ℕ
  arguments = range_with_len n (length q.ins)

  abbrev pub old_globals : List ℕ
  old_globals = range_with_len (n + length q.ins) (length (modified m q))

  abbrev pub results : List ℕ
  results = range_with_len (n + length q.ins + length (modified m q)) (length q.outs)

  -- old of a modified global is the variable that kept it, and of any other global that global as it stands
  abbrev pub old_global : ℕ → ℕ
  old_global g = unwrap_or (option_map (λ i. n + length q.ins + i) (position (nat_eq g) (modified m q))) g

  -- the contract's variables, for the caller
  abbrev pub over : ℕ → ℕ
  over v =
      cond (nat_lt v (first_entry m)) v
      (cond (nat_lt v (first_in m)) (old_global (v - length m.globals))
      (cond (nat_lt v (first_out m q)) (n + (v - first_in m)) (n + length q.ins + length (modified m q) + (v - first_out m q))))

  -- a result has the clause of its out
  abbrev pub result : Local → Local
  result l = record l { own = true; clause = option_map (renamed over) l.clause }

  abbrev pub own_variables : List Local
  own_variables = map owned q.ins ++ (map (λ g. owned_global (slice_get m.globals (g - first_global m))) (modified m q) ++ map result q.outs)

abbrev pub check : (ℕ → ℕ) → Place → Clause → Stmt
check new at (checked mark E) = assert mark (renamed new E)
check new at (assumed E) = assume at (renamed new E)

abbrev pub list : List Stmt → Stmts
list ss = stmts_of ss

-- assign the arguments; assert each checked requires; keep the modified globals; havoc them and the results; assume each ensures; assign the results
abbrev pub contract_of : Module → ℕ → Place → Proc → List Tree → List ℕ → List Stmt
contract_of m n at q es xs =
    assign at (zip (arguments m q n) es)
    ∷ map (check (over m q n) at) (call_checks at 0 q.specs)
    ++ (assign at (zip (old_globals m q n) (map free (modified m q)))
    ∷ havoc at (modified m q ++ results m q n)
    ∷ map (λ E. assume at (renamed (over m q n) E)) (postconditions q.specs)
    ++ assign at (zip xs (map free (results m q n))) ∷ [])

abbrev pub cut_call : Module → ℕ → Place → Option Proc → List Tree → List ℕ → Cut
cut_call m n at None es xs = (no_stmts, [])
cut_call m n at (Some q) es xs = (list (contract_of m n at q es xs), own_variables m q n)

-- labels stay on a statement that is still one
abbrev pub with_labels : List Name → Stmts → Stmts
with_labels ls no_stmts = no_stmts
with_labels ls (stmt s no_stmts) = one (labelled ls s)
with_labels ls (stmt s (stmt t ss)) = stmt s (stmt t ss)

module _ (m : Module) where
  abbrev mutual
    -- n is the number of the next own variable
    pub cut_stmt : ℕ → Stmt → Cut
    cut_stmt n (assert mark E) = (one (assert mark E), [])
    cut_stmt n (assume at E) = (one (assume at E), [])
    cut_stmt n (havoc at xs) = (one (havoc at xs), [])
    cut_stmt n (assign at ps) = (one (assign at ps), [])
    cut_stmt n (call at q es xs) = cut_call m n at (slice_get m.procs q) es xs
    cut_stmt n (if_else at has_else g ss ts) = let r = cut_list n ss in let q = cut_list (n + length r.1) ts in (one (if_else at has_else g r.0 q.0), r.1 ++ q.1)
    cut_stmt n (while at g is ss) = let r = cut_list n ss in (one (while at g is r.0), r.1)
    cut_stmt n (break at l) = (one (break at l), [])
    cut_stmt n (return at) = (one (return at), [])
    cut_stmt n (goto at ls) = (one (goto at ls), [])
    cut_stmt n (labelled ls s) = let r = cut_stmt n s in (with_labels ls r.0, r.1)

    pub cut_list : ℕ → Stmts → Cut
    cut_list n no_stmts = (no_stmts, [])
    cut_list n (stmt s ss) = let r = cut_stmt n s in let q = cut_list (n + length r.1) ss in (append r.0 q.0, r.1 ++ q.1)

abbrev pub cut_body : Module → ℕ → Option Stmts → Option Stmts × List Local
cut_body m n None = (None, [])
cut_body m n (Some ss) = let r = cut_list m n ss in (Some r.0, r.1)

-- the procedure without calls; their variables are the last of its locals
abbrev pub cut_calls : Module → Proc → Proc
cut_calls m p =
    let r = cut_body m (first_local m p + length p.locals) p.body in
    record p { locals = p.locals ++ r.1; body = r.0 }
