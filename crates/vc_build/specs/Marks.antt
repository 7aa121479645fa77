-- The marks of a procedure's goals by its text: of each assertion, of what a called procedure requires, of a loop's invariants before the loop and behind its body, and of what it ensures.
use Rattle.std.specs.Prelude.{ℕ, List, [], ◌∷◌, ◌++◌, map, slice_get, Option, Some, None}
use Rattle.bv_base.specs.declared.place.Place.{Place}
use Rattle.flow_core.specs.declared.mark.GoalKind.{GoalKind}
use Rattle.flow_core.specs.declared.mark.GoalKind.TheVariants.{InvariantEntry, InvariantKept}
use Rattle.flow_core.specs.declared.mark.Mark.{Mark}
use Rattle.flow_core.specs.declared.block.Invariant.{Invariant}
use Rattle.flow_core.specs.Clause.{Clause, checked, assumed, read_invariant}
use Rattle.bpl_model.specs.Module.{Stmt, assert, assume, havoc, assign, call, if_else, while, break, return, goto, labelled, Stmts, no_stmts, stmt, Proc, Module}
use Rattle.bpl_model.specs.Contract.{call_checks, end_checks}

-- of formulas that are read: of those that are checked
abbrev pub marks_read : List Clause → List Mark
marks_read [] = []
marks_read (checked m E ∷ cs) = m ∷ marks_read cs
marks_read (assumed E ∷ cs) = marks_read cs

-- of the invariants of a loop, where it is reached first, or again
abbrev pub invariant_marks : GoalKind → List Invariant → List Mark
invariant_marks kind is = marks_read (map (read_invariant kind) is)

-- in the order of the text, over the marks of calls
module _ (called : Place → ℕ → List Mark) where
  abbrev mutual
    pub stmt_marks : Stmt → List Mark
    stmt_marks (assert mark E) = mark ∷ []
    stmt_marks (assume at E) = []
    stmt_marks (havoc at xs) = []
    stmt_marks (assign at ps) = []
    stmt_marks (call at q es xs) = called at q
    stmt_marks (if_else at has_else g ss ts) = list_marks ss ++ list_marks ts
    stmt_marks (while at g is ss) = invariant_marks InvariantEntry is ++ (list_marks ss ++ invariant_marks InvariantKept is)
    stmt_marks (break at l) = []
    stmt_marks (return at) = []
    stmt_marks (goto at ls) = []
    stmt_marks (labelled ls s) = stmt_marks s

    pub list_marks : Stmts → List Mark
    list_marks no_stmts = []
    list_marks (stmt s ss) = stmt_marks s ++ list_marks ss

-- of a call at this place
abbrev pub contract_marks : Place → Option Proc → List Mark
contract_marks at None = []
contract_marks at (Some q) = marks_read (call_checks at 0 q.specs)

abbrev pub call_marks : Module → Place → ℕ → List Mark
call_marks m at q = contract_marks at (slice_get m.procs q)

abbrev pub body_marks : Module → Proc → Option Stmts → List Mark
body_marks m p None = []
body_marks m p (Some ss) = list_marks (call_marks m) ss ++ marks_read (end_checks p.specs)

abbrev pub proc_marks : Module → Proc → List Mark
proc_marks m p = body_marks m p p.body
