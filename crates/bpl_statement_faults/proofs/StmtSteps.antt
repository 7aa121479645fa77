-- The faults of lists begin with those of the first item.
use Rattle.std.proofs.Common.{◌≡◌, refl, sym, ap, ◌∙◌, ℕ, ◌+◌, ◌<◌, length, drop, get_or, Bool, false, List, [], ◌∷◌, ◌++◌, flat_map, Option}
use Rattle.std.proofs.lemmas.List.{append_assoc}
use Rattle.logic_terms.specs.Tree.{Kind, int}
use Rattle.logic_terms.specs.Sorts.{read_sort}
use Rattle.bv_base.specs.declared.place.Place.{Place}
use Rattle.std.specs.Borrow.{Bor}
use Rattle.bpl_ast.specs.Place.{Name}
use Rattle.bpl_ast.specs.Tree.{Expr}
use Rattle.bpl_ast.specs.Statement.{Stmt, Branches, no_branch}
use Rattle.bpl_ast.specs.ExprView.{exprs_of}
use Rattle.bpl_ast.specs.StmtView.{stmts_of, each_branch, branches_from, branches_of}
use Rattle.bpl_ast.specs.declared.stmt.Branch.{Branch}
use Rattle.bpl_scopes.specs.declared.fault.Fault.{Fault}
use Rattle.bpl_scopes.specs.Fault.{earlier, first_fault}
use Rattle.bpl_scopes.specs.Scopes.{Text, Scope}
use Rattle.bpl_scopes.specs.Sorts.{sort_in}
use Rattle.bpl_scopes.proofs.FirstFault.{joins}
use Rattle.bpl_faults.specs.Arguments.{names_seen}
use Rattle.bpl_faults.proofs.ListedNames.{next_dropped}
use Rattle.bpl_faults.specs.NameFaults.{map_faults, same_sort_faults}
use Rattle.bpl_faults.specs.ExprFaults.{faults_as}
use Rattle.bpl_statement_faults.specs.StmtFaults.{BodyScope, Position, labels_of_list, guard_faults, stmts_faults, stmt_faults, branches_faults, entry_at, entry_faults, outs_faults}

-- the faults of the items of a list, after one item more
pub walked : {A : Type 0} (f : A → List Fault) (xs : List A) (i : ℕ) (x : A) (found after total : Option Fault) → i < length xs → x ≡ get_or xs i x → after ≡ earlier found (first_fault (f x))
    → earlier found (first_fault (flat_map f (drop i xs))) ≡ total → earlier after (first_fault (flat_map f (drop (i + 1) xs))) ≡ total
walked f xs i x found after total within is step before =
    ap (λ o. earlier o (first_fault (flat_map f (drop (i + 1) xs)))) step ∙ sym (joins found (f x) (flat_map f (drop (i + 1) xs)))
    ∙ ap (λ l. earlier found (first_fault (flat_map f l))) (sym (next_dropped xs i x within is)) ∙ before

-- the same of names by reference
pub seen_walked : (f : Name → List Fault) (xs : List (Bor Name)) (i : ℕ) (x : Bor Name) (found after total : Option Fault) → i < length xs → x ≡ get_or xs i x → after ≡ earlier found (first_fault (f x.now))
    → earlier found (first_fault (flat_map f (names_seen (drop i xs)))) ≡ total → earlier after (first_fault (flat_map f (names_seen (drop (i + 1) xs)))) ≡ total
seen_walked f xs i x found after total within is step before =
    ap (λ o. earlier o (first_fault (flat_map f (names_seen (drop (i + 1) xs))))) step ∙ sym (joins found (f x.now) (flat_map f (names_seen (drop (i + 1) xs))))
    ∙ ap (λ l. earlier found (first_fault (flat_map f (names_seen l)))) (sym (next_dropped xs i x within is)) ∙ before

pub entry_next : (found : Option Fault) (s : Scope) (p : Place) (m : Option Kind) (x : Expr) (xs : List Expr)
    → earlier found (first_fault (entry_faults s p m (exprs_of (x ∷ xs)))) ≡ earlier (earlier (earlier found (first_fault (map_faults m p))) (first_fault (faults_as s false int x))) (first_fault (entry_faults s p (read_sort m (sort_in s x)) (exprs_of xs)))
entry_next found s p m x xs = joins found (map_faults m p) (faults_as s false int x ++ entry_faults s p (read_sort m (sort_in s x)) (exprs_of xs))
    ∙ joins (earlier found (first_fault (map_faults m p))) (faults_as s false int x) (entry_faults s p (read_sort m (sort_in s x)) (exprs_of xs))

pub entry_sort_next : (s : Scope) (m : Option Kind) (x : Expr) (xs : List Expr) → entry_at s m (exprs_of (x ∷ xs)) ≡ entry_at s (read_sort m (sort_in s x)) (exprs_of xs)
entry_sort_next s m x xs = refl

pub outs_next : (found : Option Fault) (k j : Option Kind) (ks js : List (Option Kind)) (p : Place)
    → earlier found (first_fault (outs_faults (k ∷ ks) (j ∷ js) p)) ≡ earlier (earlier found (first_fault (same_sort_faults k j p))) (first_fault (outs_faults ks js p))
outs_next found k j ks js p = joins found (same_sort_faults k j p) (outs_faults ks js p)

pub stmts_next : (found : Option Fault) (b : BodyScope) (i : Bool) (around ahead : List Text) (s : Stmt) (ss : List Stmt)
    → earlier found (first_fault (stmts_faults b (record { in_loop = i; around = around; ahead = ahead }) (stmts_of (s ∷ ss)))) ≡ earlier (earlier found (first_fault (stmt_faults b (record { in_loop = i; around = around; ahead = labels_of_list (stmts_of ss) ++ ahead }) s))) (first_fault (stmts_faults b (record { in_loop = i; around = around; ahead = ahead }) (stmts_of ss)))
stmts_next found b i around ahead s ss = joins found (stmt_faults b (record { in_loop = i; around = around; ahead = labels_of_list (stmts_of ss) ++ ahead }) s) (stmts_faults b (record { in_loop = i; around = around; ahead = ahead }) (stmts_of ss))

pub branches_next : (found : Option Fault) (b : BodyScope) (w : Position) (x : Branch) (xs : List Branch)
    → earlier found (first_fault (branches_faults b w (branches_of (x ∷ xs) no_branch))) ≡ earlier (earlier (earlier found (first_fault (guard_faults b.scope x.guard))) (first_fault (stmts_faults b w (stmts_of x.body.items)))) (first_fault (branches_faults b w (branches_of xs no_branch)))
branches_next found b w x xs = joins found (guard_faults b.scope x.guard) (stmts_faults b w (stmts_of x.body.items) ++ branches_faults b w (branches_of xs no_branch))
    ∙ joins (earlier found (first_fault (guard_faults b.scope x.guard))) (stmts_faults b w (stmts_of x.body.items)) (branches_faults b w (branches_of xs no_branch))

last_joined : (b : BodyScope) (w : Position) (xs : List (Place × (Option Expr × List Stmt))) (last : Branches) → branches_faults b w (branches_from xs last) ≡ branches_faults b w (branches_from xs no_branch) ++ branches_faults b w last
last_joined b w [] last = refl
last_joined b w (x ∷ xs) last = ap (λ fs. guard_faults b.scope x.1.0 ++ (stmts_faults b w (stmts_of x.1.1) ++ fs)) (last_joined b w xs last)
    ∙ sym (append_assoc (guard_faults b.scope x.1.0) (stmts_faults b w (stmts_of x.1.1) ++ branches_faults b w (branches_from xs no_branch)) (branches_faults b w last)
    ∙ ap (λ fs. guard_faults b.scope x.1.0 ++ fs) (append_assoc (stmts_faults b w (stmts_of x.1.1)) (branches_faults b w (branches_from xs no_branch)) (branches_faults b w last)))

-- the branches of an `if`, and then the block of its last `else`
pub if_joined : (found : Option Fault) (b : BodyScope) (w : Position) (xs : List Branch) (last : Branches)
    → earlier found (first_fault (branches_faults b w (branches_of xs last))) ≡ earlier (earlier found (first_fault (branches_faults b w (branches_of xs no_branch)))) (first_fault (branches_faults b w last))
if_joined found b w xs last = ap (λ fs. earlier found (first_fault fs)) (last_joined b w (each_branch xs) last) ∙ joins found (branches_faults b w (branches_of xs no_branch)) (branches_faults b w last)

pub joins_three : (found : Option Fault) (fs gs hs : List Fault) → earlier found (first_fault (fs ++ (gs ++ hs))) ≡ earlier (earlier (earlier found (first_fault fs)) (first_fault gs)) (first_fault hs)
joins_three found fs gs hs = joins found fs (gs ++ hs) ∙ joins (earlier found (first_fault fs)) gs hs
