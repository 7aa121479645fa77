-- In the module of a program without faults the labels of each body are distinct, and its gotos go forward.
use Rattle.std.proofs.Common.{◌≡◌, refl, ap, sym, ◌∙◌, subst, ℕ, ◌+◌, Bool, true, false, ◌||◌, not, List, [], ◌∷◌, ◌++◌, append-nil, Option, Some, None}
use Rattle.std.specs.Prelude.{⊤, flat_map, bytes_eq}
use Rattle.std.specs.List.{list_any, AllByRecursion}
use Rattle.std.proofs.lemmas.List.{map-append}
use Rattle.std.proofs.lemmas.Slice.Eq.{bytes_eq-Decides}
use Rattle.logic_core.proofs.Booleans.{all_true as both_true, neither as either_false, none_of}
use Rattle.bv_base.specs.declared.place.Place.{Place}
use Rattle.bpl_ast.specs.Place.{Name}
use Rattle.bpl_ast.specs.Statement.{Invariant, Stmt as Statement, stmt as statement, Action, assert, assume, havoc, assign, call, branches, loop, «break», «return», goto, Branches, branch, otherwise, no_branch, Stmts as Statements, no_stmts as no_statements, next, Body, Signature, DeclBody, constant, function, axiom_of, variables, synonym, procedure, implementation, Decl}
use Rattle.bpl_model.specs.Module.{Stmt, labels_of, Proc}
use Rattle.bpl_goto.specs.Labels.{are_distinct, list_labels, labels_in, labels_within}
use Rattle.bpl_goto.specs.Forward.{GoesForward, GoForward, BodyGoesForward, AllGoForward}
use Rattle.bpl_scopes.specs.declared.fault.TypeKind.{TypeKind}
use Rattle.bpl_scopes.specs.declared.fault.TypeKind.TheVariants.{Twice as twice, Unknown as unknown, GotoHere as goto_here}
use Rattle.bpl_scopes.specs.declared.fault.Fault.{Fault}
use Rattle.bv_base.specs.Text.{is_among}
use Rattle.bpl_scopes.specs.Fault.{fault, unless, if_so, again, earlier, first_fault}
use Rattle.bpl_scopes.specs.Scopes.{Text, contract_with, Table, table_of, Counts, no_counts, counts_after, texts_of, entity_of, Scope}
use Rattle.bpl_statement_faults.specs.StmtFaults.{modified_by, labels_of as labels_of_tree, labels_in as labels_in_tree, inner_labels, branch_labels, many_labels_faults, BodyScope, labels_of_list, Position, label_faults, guard_faults, stmts_faults, stmt_faults, action_faults, branches_faults}
use Rattle.bpl_scopes.specs.TypeFaults.{group_where_faults}
use Rattle.bpl_faults.specs.ExprFaults.{formula_faults}
use Rattle.bpl_declaration_faults.specs.Variables.{names_in_body}
use Rattle.bpl_declaration_faults.specs.DeclFaults.{signature_faults, parameter_clause_faults, spec_faults, local_faults, body_faults, implemented_faults, implemented_modifies, decl_faults, Before, before_with, nothing_before, faults_after, in_decl, first_from, fault_of}
use Rattle.bpl_resolve.specs.Elaborate.{labelled_as, stmts_of, stmt_of, action_of, chain_of, others_of, Implemented, or_else, implements, implementation_of, proc_body, procs_in, module_of}
use Rattle.bpl_resolve.proofs.HasSort.{first_empty, second_empty, unless_empty}

-- labels of a list are those of its statements
action_has_none : (s : Scope) (p : Place) (a : Action) → labels_of (action_of s p a) ≡ []
action_has_none s p (assert x) = refl
action_has_none s p (assume x) = refl
action_has_none s p (havoc ns) = refl
action_has_none s p (assign ts xs) = refl
action_has_none s p (call ns f xs) = refl
action_has_none s p (branches (branch q g ss bs)) = refl
action_has_none s p (branches (otherwise ss)) = refl
action_has_none s p (branches no_branch) = refl
action_has_none s p (loop g is ss) = refl
action_has_none s p («break» l) = refl
action_has_none s p «return» = refl
action_has_none s p (goto ns) = refl

labels_same : (s : Scope) (ls : List Name) (p : Place) (a : Action) → labels_of (labelled_as ls (action_of s p a)) ≡ texts_of ls
labels_same s [] p a = action_has_none s p a
labels_same s (n ∷ ns) p a = ap (λ w. texts_of (n ∷ ns) ++ w) (action_has_none s p a) ∙ append-nil (texts_of (n ∷ ns))

list_labels_same : (s : Scope) (ss : Statements) → list_labels (stmts_of s ss) ≡ labels_of_list ss
list_labels_same s no_statements = refl
list_labels_same s (next (statement ls p a) ss) = λ i. labels_same s ls p a i ++ list_labels_same s ss i

-- gotos
forward_labelled : (later : List Text) (ls : List Name) (s : Stmt) → GoesForward later s → GoesForward later (labelled_as ls s)
forward_labelled later [] s h = h
forward_labelled later (n ∷ ns) s h = h

ahead_if : (r a : Bool) (p : Place) → ◌≡◌ {A = List Fault} (elim r [ true ↦ unless a goto_here p | false ↦ fault unknown p ]) [] → a ≡ true
ahead_if true a p e = unless_empty a goto_here p e
ahead_if false a p e = cc

all_ahead : (b : BodyScope) (w : Position) (ns : List Name) → flat_map (label_faults b w) ns ≡ [] → AllByRecursion (λ l. list_any (bytes_eq l) w.ahead ≡ true) (texts_of ns)
all_ahead b w [] e = tt
all_ahead b w (n ∷ ns) e = (ahead_if (is_among b.labels n.text) (is_among w.ahead n.text) n.at (first_empty _ _ e), all_ahead b w ns (second_empty (label_faults b w n) _ e))

mutual
  list_forward : (b : BodyScope) (w : Position) (s : Scope) (ss : Statements) → stmts_faults b w ss ≡ [] → GoForward w.ahead (stmts_of s ss)
  list_forward b w s no_statements e = tt
  list_forward b w s (next x ss) e =
      let v : Position = record w { ahead = labels_of_list ss ++ w.ahead } in
      (subst (λ l. GoesForward (l ++ w.ahead) (stmt_of s x)) (sym (list_labels_same s ss)) (one_forward b v s x (first_empty _ _ e)), list_forward b w s ss (second_empty (stmt_faults b v x) _ e))

  one_forward : (b : BodyScope) (w : Position) (s : Scope) (x : Statement) → stmt_faults b w x ≡ [] → GoesForward w.ahead (stmt_of s x)
  one_forward b w s (statement ls p a) e = forward_labelled w.ahead ls (action_of s p a) (action_forward b w s (texts_of ls) p a e)

  action_forward : (b : BodyScope) (w : Position) (s : Scope) (ls : List Text) (p : Place) (a : Action) → action_faults b w ls p a ≡ [] → GoesForward w.ahead (action_of s p a)
  action_forward b w s ls p (assert x) e = tt
  action_forward b w s ls p (assume x) e = tt
  action_forward b w s ls p (havoc ns) e = tt
  action_forward b w s ls p (assign ts xs) e = tt
  action_forward b w s ls p (call ns f xs) e = tt
  action_forward b w s ls p (branches bs) e = chain_forward b (record w { around = ls ++ w.around }) s p bs e
  action_forward b w s ls p (loop g is ss) e = list_forward b (record w { in_loop = true; around = ls ++ w.around }) s ss
      (second_empty (flat_map (λ (i : Invariant). formula_faults b.scope i.formula) is) _ (second_empty (guard_faults b.scope g) _ e))
  action_forward b w s ls p («break» l) e = tt
  action_forward b w s ls p «return» e = tt
  action_forward b w s ls p (goto ns) e = all_ahead b w ns e

  chain_forward : (b : BodyScope) (w : Position) (s : Scope) (q : Place) (bs : Branches) → branches_faults b w bs ≡ [] → GoesForward w.ahead (chain_of s q bs)
  chain_forward b w s q (branch p g ss bs) e =
      let r = second_empty (guard_faults b.scope g) _ e in
      (list_forward b w s ss (first_empty _ _ r), others_forward b w s bs (second_empty (stmts_faults b w ss) _ r))
  chain_forward b w s q (otherwise ss) e = (tt, list_forward b w s ss e)
  chain_forward b w s q no_branch e = (tt, tt)

  others_forward : (b : BodyScope) (w : Position) (s : Scope) (bs : Branches) → branches_faults b w bs ≡ [] → GoForward w.ahead (others_of s bs)
  others_forward b w s (branch p g ss bs) e =
      let r = second_empty (guard_faults b.scope g) _ e in
      ((list_forward b w s ss (first_empty _ _ r), others_forward b w s bs (second_empty (stmts_faults b w ss) _ r)), tt)
  others_forward b w s (otherwise ss) e = list_forward b w s ss e
  others_forward b w s no_branch e = tt

-- all labels of a body
texts_append : (ms ns : List Name) → texts_of (ms ++ ns) ≡ texts_of ms ++ texts_of ns
texts_append ms ns = map-append (λ (n : Name). n.text) ms ns

labelled_labels : (ls : List Name) (s : Stmt) → labels_in (labelled_as ls s) ≡ texts_of ls ++ labels_in s
labelled_labels [] s = refl
labelled_labels (n ∷ ns) s = refl

mutual
  within_same : (s : Scope) (ss : Statements) → labels_within (stmts_of s ss) ≡ texts_of (labels_of_tree ss)
  within_same s no_statements = refl
  within_same s (next x ss) = (λ i. in_same s x i ++ within_same s ss i) ∙ sym (texts_append (labels_in_tree x) (labels_of_tree ss))

  in_same : (s : Scope) (x : Statement) → labels_in (stmt_of s x) ≡ texts_of (labels_in_tree x)
  in_same s (statement ls p a) = labelled_labels ls (action_of s p a) ∙ ap (λ w. texts_of ls ++ w) (action_same s p a) ∙ sym (texts_append ls (inner_labels a))

  action_same : (s : Scope) (p : Place) (a : Action) → labels_in (action_of s p a) ≡ texts_of (inner_labels a)
  action_same s p (assert x) = refl
  action_same s p (assume x) = refl
  action_same s p (havoc ns) = refl
  action_same s p (assign ts xs) = refl
  action_same s p (call ns f xs) = refl
  action_same s p (branches bs) = chain_same s p bs
  action_same s p (loop g is ss) = within_same s ss
  action_same s p («break» l) = refl
  action_same s p «return» = refl
  action_same s p (goto ns) = refl

  chain_same : (s : Scope) (q : Place) (bs : Branches) → labels_in (chain_of s q bs) ≡ texts_of (branch_labels bs)
  chain_same s q (branch p g ss bs) = (λ i. within_same s ss i ++ others_same s bs i) ∙ sym (texts_append (labels_of_tree ss) (branch_labels bs))
  chain_same s q (otherwise ss) = within_same s ss
  chain_same s q no_branch = refl

  others_same : (s : Scope) (bs : Branches) → labels_within (others_of s bs) ≡ texts_of (branch_labels bs)
  others_same s (branch p g ss bs) = append-nil _ ∙ ((λ i. within_same s ss i ++ others_same s bs i) ∙ sym (texts_append (labels_of_tree ss) (branch_labels bs)))
  others_same s (otherwise ss) = within_same s ss
  others_same s no_branch = refl

-- names without one that stands before are distinct
pub if_so_empty : (c : Bool) (k : TypeKind) (p : Place) → if_so c k p ≡ [] → c ≡ false
if_so_empty true k p e = cc
if_so_empty false k p e = refl

abbrev pub NoneAmong : List Text → List Name → Type 0
NoneAmong before [] = ⊤
NoneAmong before (n ∷ ns) = (is_among before n.text ≡ false) × NoneAmong before ns

others_none : (t : Text) (before : List Text) (ns : List Name) → NoneAmong (t ∷ before) ns → NoneAmong before ns
others_none t before [] h = tt
others_none t before (n ∷ ns) h = ((either_false (bytes_eq n.text t) (is_among before n.text) h.0).1, others_none t before ns h.1)

different : (r q : Bool) → (r ≡ true → q ≡ true) → q ≡ false → r ≡ false
different true q f h = cc (f refl, h)
different false q f h = refl

pub not_equal : (m n : Text) → bytes_eq n m ≡ false → bytes_eq m n ≡ false
not_equal m n h = different (bytes_eq m n) (bytes_eq n m) (λ e. (bytes_eq-Decides n m).1 (sym ((bytes_eq-Decides m n).0 e))) h

not_among : (t : Text) (before : List Text) (ns : List Name) → NoneAmong (t ∷ before) ns → is_among (texts_of ns) t ≡ false
not_among t before [] h = refl
not_among t before (n ∷ ns) h = none_of (bytes_eq t n.text) (is_among (texts_of ns) t)
    (not_equal t n.text (either_false (bytes_eq n.text t) (is_among before n.text) h.0).0) (not_among t before ns h.1)

pub distinct : (k : TypeKind) (before : List Text) (ns : List Name) → again k before ns ≡ [] → NoneAmong before ns × (are_distinct (texts_of ns) ≡ true)
distinct k before [] e = (tt, refl)
distinct k before (n ∷ ns) e =
    let r = distinct k (n.text ∷ before) ns (second_empty (if_so (is_among before n.text) k n.at) _ e) in
    ((if_so_empty (is_among before n.text) k n.at (first_empty _ _ e), others_none n.text before ns r.0), both_true (not (is_among (texts_of ns) n.text)) (are_distinct (texts_of ns)) (ap not (not_among n.text before ns r.0)) r.1)

-- the bodies of declarations without faults
abbrev BodyFine : Body → Type 0
BodyFine b = (s : Scope) → BodyGoesForward (Some (stmts_of s b.stmts))

body_fine : (t : Table) (c : Counts) (g : Signature) (ms : Option (List Text)) (b : Body) → body_faults t c g ms b ≡ [] → BodyFine b
body_fine t c g ms b e s =
    let r = second_empty (flat_map (local_faults t c g b.locals) b.locals) _ e in
    let q = second_empty (again twice [] (labels_of_tree b.stmts)) _ r in (
      subst (λ l. are_distinct l ≡ true) (sym (within_same s b.stmts)) (distinct twice [] (labels_of_tree b.stmts) (first_empty _ _ r)).1,
      list_forward _ _ s b.stmts (second_empty (many_labels_faults b.stmts) _ q),
    )

abbrev DeclFine : DeclBody → Type 0
DeclFine (constant u ns t) = ⊤
DeclFine (function n ps ins r x) = ⊤
DeclFine (axiom_of x) = ⊤
DeclFine (variables gs) = ⊤
DeclFine (synonym n t) = ⊤
DeclFine (procedure n ps g ss None) = ⊤
DeclFine (procedure n ps g ss (Some b)) = BodyFine b
DeclFine (implementation n ps g b) = BodyFine b

decl_fine : (t : Table) (c : Counts) (b : Before) (d : DeclBody) → decl_faults t c b d ≡ [] → DeclFine d
decl_fine t c b (constant u ns s) e = tt
decl_fine t c b (function n ps ins r x) e = tt
decl_fine t c b (axiom_of x) e = tt
decl_fine t c b (variables gs) e = tt
decl_fine t c b (synonym n s) e = tt
decl_fine t c b (procedure n ps g ss None) e = tt
decl_fine t c b (procedure n ps g ss (Some body)) e =
    let r1 = second_empty (again twice b.names (n ∷ [])) _ e in
    let r2 = second_empty (if_so (is_among b.bodies n.text) twice n.at) _ r1 in
    let r3 = second_empty (signature_faults t ps g) _ r2 in
    let r4 = second_empty (parameter_clause_faults t c g) _ r3 in
    let r5 = second_empty (again twice [] (names_in_body g body.locals)) _ r4 in
    body_fine t c g (Some (modified_by t (contract_with g ss))) body (second_empty (flat_map (spec_faults t c g) ss) _ r5)
decl_fine t c b (implementation n ps g body) e =
    let r1 = second_empty (if_so (is_among b.bodies n.text) twice n.at) _ e in
    let r2 = second_empty (implemented_faults t (entity_of t n.text) g n.at) _ r1 in
    let r3 = second_empty (signature_faults t ps g) _ r2 in
    let r4 = second_empty (group_where_faults g.ins) _ r3 in
    let r5 = second_empty (group_where_faults g.outs) _ r4 in
    body_fine t c g (implemented_modifies t (entity_of t n.text)) body (second_empty (again twice [] (names_in_body g body.locals)) _ r5)

-- no first fault, no fault
some_earlier : (f : Fault) (o : Option Fault) → earlier (Some f) o ≡ None → ⊥
some_earlier f None e = cc
some_earlier f (Some g) e = cc

pub no_first : (fs : List Fault) → first_fault fs ≡ None → fs ≡ []
no_first [] e = refl
no_first (f ∷ fs) e = absurd (some_earlier f (first_fault fs) e)

pub in_decl_none : (d : ℕ) (o : Option Fault) (later : Option (ℕ × Fault)) → in_decl d o later ≡ None → (o ≡ None) × (later ≡ None)
in_decl_none d None later e = (refl, e)
in_decl_none d (Some f) later e = cc

abbrev EachFine : List Decl → Type 0
EachFine [] = ⊤
EachFine (d ∷ ds) = DeclFine d.body × EachFine ds

each_fine : (t : Table) (c : Counts) (b : Before) (k : ℕ) (ds : List Decl) → first_from k (faults_after t c b ds) ≡ None → EachFine ds
each_fine t c b k [] e = tt
each_fine t c b k (d ∷ ds) e =
    let r = in_decl_none k (first_fault (decl_faults t c b d.body)) (first_from (k + 1) (faults_after t c (before_with b d.body) ds)) e in
    (decl_fine t c b d.body (no_first _ r.0), each_fine t c (before_with b d.body) (k + 1) ds r.1)

-- the body that a procedure has
abbrev OptionFine : Option Implemented → Type 0
OptionFine None = ⊤
OptionFine (Some i) = BodyFine i.1

one_or_else : (a b : Option Implemented) → OptionFine a → OptionFine b → OptionFine (or_else a b)
one_or_else None b h k = k
one_or_else (Some i) b h k = h

if_fine : (r : Bool) (i : Implemented) → BodyFine i.1 → OptionFine (elim r [ true ↦ Some i | false ↦ None ])
if_fine true i h = h
if_fine false i h = tt

implements_fine : (n : Text) (d : DeclBody) → DeclFine d → OptionFine (implements n d)
implements_fine n (constant u ns t) h = tt
implements_fine n (function m ps ins r x) h = tt
implements_fine n (axiom_of x) h = tt
implements_fine n (variables gs) h = tt
implements_fine n (synonym m t) h = tt
implements_fine n (procedure m ps g ss b) h = tt
implements_fine n (implementation m ps g b) h = if_fine (bytes_eq m.text n) (g, b) h

implementation_fine : (ds : List Decl) (n : Text) → EachFine ds → OptionFine (implementation_of ds n)
implementation_fine [] n h = tt
implementation_fine (d ∷ ds) n h = one_or_else (implements n d.body) (implementation_of ds n) (implements_fine n d.body h.0) (implementation_fine ds n h.1)

proc_forward : (t : Table) (c : Counts) (i : Option Implemented) → OptionFine i → BodyGoesForward (proc_body t c i)
proc_forward t c None h = tt
proc_forward t c (Some i) h = h _

module _ (ds : List Decl) (t : Table) (c : Counts) (fine : EachFine ds) where
  procs_forward : (d : DeclBody) → DeclFine d → AllByRecursion (λ (p : Proc). BodyGoesForward p.body) (procs_in ds t c d)
  procs_forward (constant u ns s) h = tt
  procs_forward (function n ps ins r x) h = tt
  procs_forward (axiom_of x) h = tt
  procs_forward (variables gs) h = tt
  procs_forward (synonym n s) h = tt
  procs_forward (procedure n ps g ss None) h = (proc_forward t c _ (implementation_fine ds n.text fine), tt)
  procs_forward (procedure n ps g ss (Some b)) h = (proc_forward t c (Some (g, b)) h, tt)
  procs_forward (implementation n ps g b) h = tt

  all_joined : (ps qs : List Proc) → AllByRecursion (λ (p : Proc). BodyGoesForward p.body) ps → AllByRecursion (λ (p : Proc). BodyGoesForward p.body) qs → AllByRecursion (λ (p : Proc). BodyGoesForward p.body) (ps ++ qs)
  all_joined [] qs h k = k
  all_joined (p ∷ ps) qs h k = (h.0, all_joined ps qs h.1 k)

  all_forward : (xs : List Decl) → EachFine xs → AllByRecursion (λ (p : Proc). BodyGoesForward p.body) (flat_map (λ (d : Decl). procs_in ds t c d.body) xs)
  all_forward [] h = tt
  all_forward (x ∷ xs) h = all_joined (procs_in ds t c x.body) _ (procs_forward x.body h.0) (all_forward xs h.1)

pub goes_forward : (ds : List Decl) → fault_of ds ≡ None → AllGoForward (module_of ds)
goes_forward ds e =
    let fine = each_fine (table_of ds) (counts_after no_counts ds) nothing_before 0 ds e in
    all_forward ds (table_of ds) (counts_after no_counts ds) fine ds fine
