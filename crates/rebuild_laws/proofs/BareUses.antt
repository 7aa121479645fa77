-- Trees that are the same but for places use the same names, and declare the same.
use Rattle.std.specs.Prelude.{◌≡◌, List, [], ◌∷◌, ◌++◌, map, flat_map, Option, Some, None, option_map}
use Rattle.std.proofs.Common.{refl, ap, sym, ◌∙◌}
use Rattle.bpl_ast.specs.Place.{Name, Ty, integer, boolean, named, map_type, Tys, no_tys, ty}
use Rattle.bpl_ast.specs.Tree.{Expr, expr, Node, number, truth, variable, apply, old, choose, quantified, iffs, implies, ands, ors, related, sums, products, negation, minus, indexed, Exprs, no_exprs, item, Terms, no_terms, plus, less, Indices, no_indices, at_index, update, Triggers, no_triggers, trigger, Groups, no_groups, group, Clause, no_clause, clause}
use Rattle.bpl_ast.specs.Statement.{Target, Guard, Invariant, Stmt, stmt, Action, assert, assume, havoc, assign, call, branches, loop, «break», «return», goto, Branches, branch, otherwise, no_branch, Stmts, no_stmts, next, Spec, requires, ensures, modifies, Body, Signature, Argument, DeclBody, constant, function, axiom_of, variables, synonym, procedure, implementation}
use Rattle.bpl_scopes.specs.Scopes.{Text, names_of, only_names, typed_names, texts_of, signature_names, declared_names}
use Rattle.bpl_scopes.specs.Functions.{names_in_type, names_in_types, argument_names}
use Rattle.bpl_texts.specs.Uses.{use_of, uses_of, type_uses, hiding, expr_uses, node_uses, exprs_uses, terms_uses, indices_uses, triggers_uses, groups_uses, clause_uses, guard_uses, target_uses, invariant_uses, stmts_uses, stmt_uses, action_uses, branches_uses, spec_uses, local_texts, locals_uses, body_uses, optional_body_uses, optional_type_uses, signature_uses, arguments_uses, contract_uses, last_uses, decl_uses}
use Rattle.canonical_text.specs.Same.{bare_name, bare_names, bare_type, bare_types, bare, bare_node, bare_exprs, bare_terms, bare_indices, bare_triggers, bare_groups, bare_clause}
use Rattle.canonical_text.specs.SameStatement.{bare_target, bare_invariant, bare_stmt, bare_action, bare_branches, bare_stmts, bare_spec, bare_body, bare_signature, bare_argument, bare_decl}
use Rattle.canonical_text.specs.Heads.{head_of, bare_head}

abbrev texts_in : List (Name × Ty) → List Text
texts_in ps = texts_of (only_names ps)

texts_joined : (ps qs : List (Name × Ty)) → texts_in (ps ++ qs) ≡ texts_in ps ++ texts_in qs
texts_joined [] qs = refl
texts_joined (p ∷ ps) qs = ap (λ w. (p.0).text ∷ w) (texts_joined ps qs)

pub same_texts : (ns : List Name) → texts_of (bare_names ns) ≡ texts_of ns
same_texts [] = refl
same_texts (n ∷ ns) = ap (λ w. n.text ∷ w) (same_texts ns)

same_typed : (ns : List Name) (s r : Ty) → texts_in (typed_names (bare_names ns) s) ≡ texts_in (typed_names ns r)
same_typed [] s r = refl
same_typed (n ∷ ns) s r = ap (λ w. n.text ∷ w) (same_typed ns s r)

pub group_texts : (gs : Groups) → texts_in (names_of (bare_groups gs)) ≡ texts_in (names_of gs)
group_texts no_groups = refl
group_texts (group ns t c gs) =
    texts_joined (typed_names (bare_names ns) (bare_type t)) (names_of (bare_groups gs))
    ∙ (λ i. same_typed ns (bare_type t) t i ++ group_texts gs i)
    ∙ sym (texts_joined (typed_names ns t) (names_of gs))

pub hides_same : (h : List Text) (gs : Groups) → hiding (bare_groups gs) h ≡ hiding gs h
hides_same h gs = ap (λ w. w ++ h) (group_texts gs)

uses_same : (h : List Text) (ns : List Name) → uses_of h (bare_names ns) ≡ uses_of h ns
uses_same h [] = refl
uses_same h (n ∷ ns) = ap (λ w. use_of h n.text ++ w) (uses_same h ns)

mutual
  pub type_same : (t : Ty) → names_in_type (bare_type t) ≡ names_in_type t
  type_same (integer p) = refl
  type_same (boolean p) = refl
  type_same (named p n) = refl
  type_same (map_type p ps ds r) = λ i. types_same ds i ++ type_same r i

  types_same : (ts : Tys) → names_in_types (bare_types ts) ≡ names_in_types ts
  types_same no_tys = refl
  types_same (ty t ts) = λ i. type_same t i ++ types_same ts i

type_uses_same : (h : List Text) (t : Ty) → type_uses h (bare_type t) ≡ type_uses h t
type_uses_same h t = ap (flat_map (use_of h)) (type_same t)

mutual
  pub expr_same : (h : List Text) (x : Expr) → expr_uses h (bare x) ≡ expr_uses h x
  expr_same h (expr p n) = node_same h n

  node_same : (h : List Text) (n : Node) → node_uses h (bare_node n) ≡ node_uses h n
  node_same h (number n) = refl
  node_same h (truth b) = refl
  node_same h (variable n) = refl
  node_same h (apply n xs) = ap (λ w. use_of h n.text ++ w) (exprs_same h xs)
  node_same h (old p x) = expr_same h x
  node_same h (choose c x y) = λ i. expr_same h c i ++ (expr_same h x i ++ expr_same h y i)
  node_same h (quantified q p ps gs rs x) =
      λ i. groups_same h gs i ++ ((ap (λ w. triggers_uses w (bare_triggers rs)) (hides_same h gs) ∙ triggers_same (hiding gs h) rs) i ++ (ap (λ w. expr_uses w (bare x)) (hides_same h gs) ∙ expr_same (hiding gs h) x) i)
  node_same h (iffs xs) = exprs_same h xs
  node_same h (implies xs) = exprs_same h xs
  node_same h (ands xs) = exprs_same h xs
  node_same h (ors xs) = exprs_same h xs
  node_same h (related o x y) = λ i. expr_same h x i ++ expr_same h y i
  node_same h (sums x ts) = λ i. expr_same h x i ++ terms_same h ts i
  node_same h (products xs) = exprs_same h xs
  node_same h (negation x) = expr_same h x
  node_same h (minus x) = expr_same h x
  node_same h (indexed x js) = λ i. expr_same h x i ++ indices_same h js i

  exprs_same : (h : List Text) (xs : Exprs) → exprs_uses h (bare_exprs xs) ≡ exprs_uses h xs
  exprs_same h no_exprs = refl
  exprs_same h (item x xs) = λ i. expr_same h x i ++ exprs_same h xs i

  terms_same : (h : List Text) (ts : Terms) → terms_uses h (bare_terms ts) ≡ terms_uses h ts
  terms_same h no_terms = refl
  terms_same h (plus x ts) = λ i. expr_same h x i ++ terms_same h ts i
  terms_same h (less x ts) = λ i. expr_same h x i ++ terms_same h ts i

  indices_same : (h : List Text) (js : Indices) → indices_uses h (bare_indices js) ≡ indices_uses h js
  indices_same h no_indices = refl
  indices_same h (at_index x js) = λ i. expr_same h x i ++ indices_same h js i
  indices_same h (update x y js) = λ i. expr_same h x i ++ (expr_same h y i ++ indices_same h js i)

  triggers_same : (h : List Text) (rs : Triggers) → triggers_uses h (bare_triggers rs) ≡ triggers_uses h rs
  triggers_same h no_triggers = refl
  triggers_same h (trigger p xs rs) = λ i. exprs_same h xs i ++ triggers_same h rs i

  groups_same : (h : List Text) (gs : Groups) → groups_uses h (bare_groups gs) ≡ groups_uses h gs
  groups_same h no_groups = refl
  groups_same h (group ns t c gs) = λ i. type_uses_same h t i ++ (clause_same h c i ++ groups_same h gs i)

  clause_same : (h : List Text) (c : Clause) → clause_uses h (bare_clause c) ≡ clause_uses h c
  clause_same h no_clause = refl
  clause_same h (clause p x) = expr_same h x

guard_same : (h : List Text) (g : Guard) → guard_uses h (option_map bare g) ≡ guard_uses h g
guard_same h None = refl
guard_same h (Some x) = expr_same h x

targets_same : (h : List Text) (ts : List Target) → flat_map (target_uses h) (map bare_target ts) ≡ flat_map (target_uses h) ts
targets_same h [] = refl
targets_same h (t ∷ ts) = λ i. (use_of h t.name.text ++ exprs_same h t.indices i) ++ targets_same h ts i

invariants_same : (h : List Text) (js : List Invariant) → flat_map (invariant_uses h) (map bare_invariant js) ≡ flat_map (invariant_uses h) js
invariants_same h [] = refl
invariants_same h (j ∷ js) = λ i. expr_same h j.formula i ++ invariants_same h js i

mutual
  stmts_same : (h : List Text) (ss : Stmts) → stmts_uses h (bare_stmts ss) ≡ stmts_uses h ss
  stmts_same h no_stmts = refl
  stmts_same h (next s ss) = λ i. stmt_same h s i ++ stmts_same h ss i

  stmt_same : (h : List Text) (s : Stmt) → stmt_uses h (bare_stmt s) ≡ stmt_uses h s
  stmt_same h (stmt ls p a) = action_same h a

  action_same : (h : List Text) (a : Action) → action_uses h (bare_action a) ≡ action_uses h a
  action_same h (assert x) = expr_same h x
  action_same h (assume x) = expr_same h x
  action_same h (havoc ns) = uses_same h ns
  action_same h (assign ts xs) = λ i. targets_same h ts i ++ exprs_same h xs i
  action_same h (call ns f xs) = λ i. uses_same h ns i ++ (use_of h f.text ++ exprs_same h xs i)
  action_same h (branches bs) = branches_same h bs
  action_same h (loop g js ss) = λ i. guard_same h g i ++ (invariants_same h js i ++ stmts_same h ss i)
  action_same h («break» l) = refl
  action_same h «return» = refl
  action_same h (goto ns) = refl

  branches_same : (h : List Text) (bs : Branches) → branches_uses h (bare_branches bs) ≡ branches_uses h bs
  branches_same h (branch p g ss bs) = λ i. guard_same h g i ++ (stmts_same h ss i ++ branches_same h bs i)
  branches_same h (otherwise ss) = stmts_same h ss
  branches_same h no_branch = refl

specs_same : (h : List Text) (ss : List Spec) → flat_map (spec_uses h) (map bare_spec ss) ≡ flat_map (spec_uses h) ss
specs_same h [] = refl
specs_same h (requires p f x ∷ ss) = λ i. expr_same h x i ++ specs_same h ss i
specs_same h (ensures p f x ∷ ss) = λ i. expr_same h x i ++ specs_same h ss i
specs_same h (modifies p ns ∷ ss) = λ i. uses_same h ns i ++ specs_same h ss i

parameter_texts : (g : Signature) → texts_of (signature_names (bare_signature g)) ≡ texts_of (signature_names g)
parameter_texts g =
    texts_joined (names_of (bare_groups g.ins)) (names_of (bare_groups g.outs))
    ∙ (λ i. group_texts g.ins i ++ group_texts g.outs i)
    ∙ sym (texts_joined (names_of g.ins) (names_of g.outs))

signature_same : (g : Signature) → signature_uses (bare_signature g) ≡ signature_uses g
signature_same g = λ i. (ap (λ w. groups_uses w (bare_groups g.ins)) (parameter_texts g) ∙ groups_same (texts_of (signature_names g)) g.ins) i
    ++ (ap (λ w. groups_uses w (bare_groups g.outs)) (parameter_texts g) ∙ groups_same (texts_of (signature_names g)) g.outs) i

arguments_same : (ins : List Argument) → arguments_uses (map bare_argument ins) ≡ arguments_uses ins
arguments_same [] = refl
arguments_same (a ∷ ins) = λ i. type_uses_same [] a.type i ++ arguments_same ins i

pub argument_texts : (ins : List Argument) → texts_of (argument_names (map bare_argument ins)) ≡ texts_of (argument_names ins)
argument_texts [] = refl
argument_texts (a ∷ ins) = by a.name (argument_texts ins)
  where
    by : (o : Option Name) → texts_of (argument_names (map bare_argument ins)) ≡ texts_of (argument_names ins)
        → texts_of (elim (option_map bare_name o) [ None ↦ [] | Some n ↦ n ∷ [] ] ++ argument_names (map bare_argument ins)) ≡ texts_of (elim o [ None ↦ [] | Some n ↦ n ∷ [] ] ++ argument_names ins)
    by None e = e
    by (Some n) e = ap (λ w. n.text ∷ w) e

locals_same : (h : List Text) (vs : List Groups) → locals_uses h (map bare_groups vs) ≡ locals_uses h vs
locals_same h [] = refl
locals_same h (v ∷ vs) = λ i. groups_same h v i ++ locals_same h vs i

local_same : (vs : List Groups) → texts_in (flat_map names_of (map bare_groups vs)) ≡ texts_in (flat_map names_of vs)
local_same [] = refl
local_same (v ∷ vs) =
    texts_joined (names_of (bare_groups v)) (flat_map names_of (map bare_groups vs))
    ∙ (λ i. group_texts v i ++ local_same vs i)
    ∙ sym (texts_joined (names_of v) (flat_map names_of vs))

body_same : (g : Signature) (b : Body) → body_uses (bare_signature g) (bare_body b) ≡ body_uses g b
body_same g b =
    let hides : local_texts (bare_body b) ++ texts_of (signature_names (bare_signature g)) ≡ local_texts b ++ texts_of (signature_names g) = λ i. local_same b.locals i ++ parameter_texts g i in
    λ i. (ap (λ w. locals_uses w (map bare_groups b.locals)) hides ∙ locals_same (local_texts b ++ texts_of (signature_names g)) b.locals) i
    ++ (ap (λ w. stmts_uses w (bare_stmts b.stmts)) hides ∙ stmts_same (local_texts b ++ texts_of (signature_names g)) b.stmts) i

contract_same : (x : DeclBody) → contract_uses (bare_decl x) ≡ contract_uses x
contract_same (constant u ns t) = type_uses_same [] t
contract_same (function n ps ins t x) = λ i. arguments_same ins i ++ (type_uses_same [] t i ++ (ap (λ w. guard_uses w (option_map bare x)) (argument_texts ins) ∙ guard_same (texts_of (argument_names ins)) x) i)
contract_same (axiom_of x) = expr_same [] x
contract_same (variables gs) = groups_same [] gs
contract_same (synonym n None) = refl
contract_same (synonym n (Some t)) = type_uses_same [] t
contract_same (procedure n ps g ss b) = λ i. signature_same g i ++ (ap (λ w. flat_map (spec_uses w) (map bare_spec ss)) (parameter_texts g) ∙ specs_same (texts_of (signature_names g)) ss) i
contract_same (implementation n ps g b) = ap (λ w. n.text ∷ w) (signature_same g)

last_same : (x : DeclBody) → last_uses (bare_decl x) ≡ last_uses x
last_same (constant u ns t) = refl
last_same (function n ps ins t x) = refl
last_same (axiom_of x) = refl
last_same (variables gs) = refl
last_same (synonym n t) = refl
last_same (procedure n ps g ss None) = refl
last_same (procedure n ps g ss (Some b)) = body_same g b
last_same (implementation n ps g b) = body_same g b

head_uses : (x : DeclBody) → contract_uses (head_of x) ≡ contract_uses x
head_uses (constant u ns t) = refl
head_uses (function n ps ins t x) = refl
head_uses (axiom_of x) = refl
head_uses (variables gs) = refl
head_uses (synonym n t) = refl
head_uses (procedure n ps g ss b) = refl
head_uses (implementation n ps g b) = refl

-- declarations that are the same but for places use the same names
pub same_uses : (x y : DeclBody) → bare_decl x ≡ bare_decl y → decl_uses x ≡ decl_uses y
same_uses x y e =
    sym (λ i. contract_same x i ++ last_same x i) ∙ (ap decl_uses e ∙ (λ i. contract_same y i ++ last_same y i))

-- so do those of which the bodies of procedures are left out
pub same_contract_uses : (x y : DeclBody) → bare_head x ≡ bare_head y → contract_uses x ≡ contract_uses y
same_contract_uses x y e =
    sym (contract_same (head_of x) ∙ head_uses x) ∙ (ap contract_uses e ∙ (contract_same (head_of y) ∙ head_uses y))

declared_same : (x : DeclBody) → texts_of (declared_names (bare_decl x)) ≡ texts_of (declared_names x)
declared_same (constant u ns t) = same_texts ns
declared_same (function n ps ins t x) = refl
declared_same (axiom_of x) = refl
declared_same (variables gs) = group_texts gs
declared_same (synonym n t) = refl
declared_same (procedure n ps g ss b) = refl
declared_same (implementation n ps g b) = refl

head_declares : (x : DeclBody) → declared_names (head_of x) ≡ declared_names x
head_declares (constant u ns t) = refl
head_declares (function n ps ins t x) = refl
head_declares (axiom_of x) = refl
head_declares (variables gs) = refl
head_declares (synonym n t) = refl
head_declares (procedure n ps g ss b) = refl
head_declares (implementation n ps g b) = refl

-- they declare the same names
pub same_declared : (x y : DeclBody) → bare_head x ≡ bare_head y → texts_of (declared_names x) ≡ texts_of (declared_names y)
same_declared x y e =
    sym (declared_same (head_of x) ∙ ap texts_of (head_declares x)) ∙ (ap (λ d. texts_of (declared_names d)) e ∙ (declared_same (head_of y) ∙ ap texts_of (head_declares y)))

bare_of_head : (x : DeclBody) → bare_head x ≡ head_of (bare_decl x)
bare_of_head (constant u ns t) = refl
bare_of_head (function n ps ins t x) = refl
bare_of_head (axiom_of x) = refl
bare_of_head (variables gs) = refl
bare_of_head (synonym n t) = refl
bare_of_head (procedure n ps g ss None) = refl
bare_of_head (procedure n ps g ss (Some b)) = refl
bare_of_head (implementation n ps g b) = refl

-- declarations that are the same but for places are without their bodies too
pub heads_same : (x y : DeclBody) → bare_decl x ≡ bare_decl y → bare_head x ≡ bare_head y
heads_same x y e = bare_of_head x ∙ (ap head_of e ∙ sym (bare_of_head y))
