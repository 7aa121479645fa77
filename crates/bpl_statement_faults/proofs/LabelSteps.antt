-- Labels of statements in turn: those of a body, those that gotos name, and those on a stack.
use Rattle.std.proofs.Common.{◌≡◌, refl, sym, ap, ◌∙◌, ℕ, zero, suc, ◌-◌, ◌<◌, Bool, true, false, cond, List, [], ◌∷◌, ◌++◌, length, drop, filter, Option, Some, None, arith}
use Rattle.std.proofs.lemmas.List.{append_assoc}
use Rattle.bv_base.specs.declared.place.Place.{Place}
use Rattle.bpl_ast.specs.Place.{Name}
use Rattle.bpl_ast.specs.Tree.{Expr}
use Rattle.bpl_ast.specs.Statement.{Stmt, stmt, Branches, no_branch}
use Rattle.bpl_ast.specs.StmtView.{stmts_of, each_branch, branches_from, branches_of}
use Rattle.bpl_ast.specs.declared.stmt.Branch.{Branch}
use Rattle.bpl_scopes.specs.Scopes.{Text, texts_of}
use Rattle.bpl_statement_faults.specs.StmtFaults.{labels_of, labels_in, branch_labels, goto_labels, goto_labels_in, branch_goto_labels, labels_of_list, first_label_faults}
use Rattle.bpl_statement_faults.specs.StackView.{own_labels, let_through}
use Rattle.bpl_scopes.specs.declared.fault.TypeKind.TheVariants.{Labels as many_labels}
use Rattle.bpl_scopes.specs.Fault.{fault}

pub labels_next : (before : List Name) (s : Stmt) (ss : List Stmt) → before ++ labels_of (stmts_of (s ∷ ss)) ≡ (before ++ labels_in s) ++ labels_of (stmts_of ss)
labels_next before s ss = sym (append_assoc before (labels_in s) (labels_of (stmts_of ss)))

pub branch_labels_next : (before : List Name) (x : Branch) (xs : List Branch) → before ++ branch_labels (branches_of (x ∷ xs) no_branch) ≡ (before ++ labels_of (stmts_of x.body.items)) ++ branch_labels (branches_of xs no_branch)
branch_labels_next before x xs = sym (append_assoc before (labels_of (stmts_of x.body.items)) (branch_labels (branches_of xs no_branch)))

last_labels : (xs : List (Place × (Option Expr × List Stmt))) (last : Branches) → branch_labels (branches_from xs last) ≡ branch_labels (branches_from xs no_branch) ++ branch_labels last
last_labels [] last = refl
last_labels (x ∷ xs) last = ap (λ l. labels_of (stmts_of x.1.1) ++ l) (last_labels xs last) ∙ sym (append_assoc (labels_of (stmts_of x.1.1)) (branch_labels (branches_from xs no_branch)) (branch_labels last))

-- labels of a statement, of the branches of its `if`, and of the block of the last `else`
pub if_labels : (before own : List Name) (xs : List Branch) (last : Branches) → before ++ (own ++ branch_labels (branches_of xs last)) ≡ ((before ++ own) ++ branch_labels (branches_of xs no_branch)) ++ branch_labels last
if_labels before own xs last = ap (λ l. before ++ (own ++ l)) (last_labels (each_branch xs) last) ∙ sym (append_assoc (before ++ own) (branch_labels (branches_of xs no_branch)) (branch_labels last) ∙ append_assoc before own (branch_labels (branches_of xs no_branch) ++ branch_labels last))

pub gotos_next : (before : List Text) (s : Stmt) (ss : List Stmt) → before ++ goto_labels (stmts_of (s ∷ ss)) ≡ (before ++ goto_labels_in s) ++ goto_labels (stmts_of ss)
gotos_next before s ss = sym (append_assoc before (goto_labels_in s) (goto_labels (stmts_of ss)))

pub branch_gotos_next : (before : List Text) (x : Branch) (xs : List Branch) → before ++ branch_goto_labels (branches_of (x ∷ xs) no_branch) ≡ (before ++ goto_labels (stmts_of x.body.items)) ++ branch_goto_labels (branches_of xs no_branch)
branch_gotos_next before x xs = sym (append_assoc before (goto_labels (stmts_of x.body.items)) (branch_goto_labels (branches_of xs no_branch)))

last_gotos : (xs : List (Place × (Option Expr × List Stmt))) (last : Branches) → branch_goto_labels (branches_from xs last) ≡ branch_goto_labels (branches_from xs no_branch) ++ branch_goto_labels last
last_gotos [] last = refl
last_gotos (x ∷ xs) last = ap (λ l. goto_labels (stmts_of x.1.1) ++ l) (last_gotos xs last) ∙ sym (append_assoc (goto_labels (stmts_of x.1.1)) (branch_goto_labels (branches_from xs no_branch)) (branch_goto_labels last))

pub if_gotos : (before : List Text) (xs : List Branch) (last : Branches) → before ++ branch_goto_labels (branches_of xs last) ≡ (before ++ branch_goto_labels (branches_of xs no_branch)) ++ branch_goto_labels last
if_gotos before xs last = ap (λ l. before ++ l) (last_gotos (each_branch xs) last) ∙ sym (append_assoc before (branch_goto_labels (branches_of xs no_branch)) (branch_goto_labels last))

-- labels on a stack: those of a list's statements, then those of the statements behind the first
pub list_labels : (s : Stmt) (ss : List Stmt) (h : List Text) → labels_of_list (stmts_of (s ∷ ss)) ++ h ≡ texts_of (own_labels s) ++ (labels_of_list (stmts_of ss) ++ h)
list_labels (stmt ls p a) ss h = append_assoc (texts_of ls) (labels_of_list (stmts_of ss)) h

pub texts_dropped : (ns : List Name) (h : List Text) → drop (length ns) (texts_of ns ++ h) ≡ h
texts_dropped [] h = refl
texts_dropped (n ∷ ns) h = texts_dropped ns h

pub passed : (s : Stmt) (ss : List Stmt) (h : List Text) → drop (length (own_labels s)) (labels_of_list (stmts_of (s ∷ ss)) ++ h) ≡ labels_of_list (stmts_of ss) ++ h
passed s ss h = ap (drop (length (own_labels s))) (list_labels s ss h) ∙ texts_dropped (own_labels s) (labels_of_list (stmts_of ss) ++ h)

-- labels that are let through, until one is too many
pub through_more : (k : ℕ) → 0 < k → let_through k true ≡ Some (k - 1)
through_more zero h = absurd (omega arith)
through_more (suc k) h = let e : k ≡ suc k - 1 = omega arith in ap Some e

pub through_none : (k : ℕ) → k ≡ 0 → let_through k true ≡ None
through_none k e = ap (λ j. let_through j true) e

pub beyond_next : (left k : ℕ) (test : Name → Bool) (n : Name) (ns : List Name) → let_through left (test n) ≡ Some k → first_label_faults (drop left (filter test (n ∷ ns))) ≡ first_label_faults (drop k (filter test ns))
beyond_next left k test n ns = by left (test n)
  where
    by : (l : ℕ) (b : Bool) → let_through l b ≡ Some k → first_label_faults (drop l (cond b (n ∷ filter test ns) (filter test ns))) ≡ first_label_faults (drop k (filter test ns))
    by l false e = let same : l ≡ k = cc in ap (λ j. first_label_faults (drop j (filter test ns))) same
    by zero true e = absurd (cc)
    by (suc l) true e = let same : l ≡ k = cc in ap (λ j. first_label_faults (drop j (filter test ns))) same

pub beyond_here : (left : ℕ) (test : Name → Bool) (n : Name) (ns : List Name) → let_through left (test n) ≡ None → first_label_faults (drop left (filter test (n ∷ ns))) ≡ fault many_labels n.at
beyond_here left test n ns = by left (test n)
  where
    by : (l : ℕ) (b : Bool) → let_through l b ≡ None → first_label_faults (drop l (cond b (n ∷ filter test ns) (filter test ns))) ≡ fault many_labels n.at
    by l false e = absurd (cc)
    by zero true e = refl
    by (suc l) true e = absurd (cc)
