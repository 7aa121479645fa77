-- Codes of statements and declarations, by which proofs tell them apart.
use Rattle.std.specs.Prelude.{◌≡◌, ℕ, Bool, List, Option, refl}
use Rattle.std.specs.Coded.{Coded, code_by, coded×, coded_ℕ, coded_bool, coded_list, coded_option}
use Rattle.std.proofs.Common.{ap, arith}
use base.Stored.{Gv, gnil, gnum, gcons}
use Rattle.bv_base.specs.declared.place.Place.{Place}
use Rattle.bpl_ast.specs.Place.{Name, Ty}
use Rattle.bpl_ast.specs.Tree.{Expr, Exprs, Groups}
use Rattle.bpl_ast.specs.Codes.{tag, coded_place, coded_name, coded_names, coded_params, coded_ty, coded_expr, coded_exprs, coded_groups}
use Rattle.bpl_ast.specs.Statement.{Target, Invariant, Stmt, stmt, Action, assert, assume, havoc, assign, call, branches, loop, «break», «return», goto, Branches, branch, otherwise, no_branch, Stmts, no_stmts, next, Spec, requires, ensures, modifies, Body, Signature, Argument, DeclBody, constant, function, axiom_of, variables, synonym, procedure, implementation, Decl}

abbrev pub coded_target : Coded Target
coded_target = code_by (Name × Exprs) (coded× coded_name coded_exprs) (λ t. (t.name, t.indices)) (λ p. record { name = p.0; indices = p.1 }) (λ _. refl)

abbrev pub coded_invariant : Coded Invariant
coded_invariant = code_by (Place × (Bool × Expr)) (coded× coded_place (coded× coded_bool coded_expr)) (λ i. (i.at, (i.free, i.formula))) (λ p. record { at = p.0; free = p.1.0; formula = p.1.1 }) (λ _. refl)

abbrev mutual
  pub stmt_code : Stmt → Gv
  stmt_code (stmt a b c) = gcons (gnum 0) (gcons (coded_names.code a) (gcons (coded_place.code b) (action_code c)))

  pub action_code : Action → Gv
  action_code (assert a) = gcons (gnum 0) (coded_expr.code a)
  action_code (assume a) = gcons (gnum 1) (coded_expr.code a)
  action_code (havoc a) = gcons (gnum 2) (coded_names.code a)
  action_code (assign a b) = gcons (gnum 3) (gcons ((coded_list coded_target).code a) (coded_exprs.code b))
  action_code (call a b c) = gcons (gnum 4) (gcons (coded_names.code a) (gcons (coded_name.code b) (coded_exprs.code c)))
  action_code (branches a) = gcons (gnum 5) (branches_code a)
  action_code (loop a b c) = gcons (gnum 6) (gcons ((coded_option coded_expr).code a) (gcons ((coded_list coded_invariant).code b) (stmts_code c)))
  action_code («break» a) = gcons (gnum 7) ((coded_option coded_name).code a)
  action_code «return» = gcons (gnum 8) gnil
  action_code (goto a) = gcons (gnum 9) (coded_names.code a)

  pub branches_code : Branches → Gv
  branches_code (branch a b c d) = gcons (gnum 0) (gcons (coded_place.code a) (gcons ((coded_option coded_expr).code b) (gcons (stmts_code c) (branches_code d))))
  branches_code (otherwise a) = gcons (gnum 1) (stmts_code a)
  branches_code no_branch = gcons (gnum 2) gnil

  pub stmts_code : Stmts → Gv
  stmts_code no_stmts = gcons (gnum 0) gnil
  stmts_code (next a b) = gcons (gnum 1) (gcons (stmt_code a) (stmts_code b))

mutual
  pub stmt_inj : (x y : Stmt) → stmt_code x ≡ stmt_code y → x ≡ y
  stmt_inj (stmt a b c) (stmt k l m) p = cc (coded_names.inj a k (cc), coded_place.inj b l (cc), action_inj c m (cc))

  pub action_inj : (x y : Action) → action_code x ≡ action_code y → x ≡ y
  action_inj (assert a) (assert k) p = cc (coded_expr.inj a k (cc))
  action_inj (assume a) (assume k) p = cc (coded_expr.inj a k (cc))
  action_inj (havoc a) (havoc k) p = cc (coded_names.inj a k (cc))
  action_inj (assign a b) (assign k l) p = cc ((coded_list coded_target).inj a k (cc), coded_exprs.inj b l (cc))
  action_inj (call a b c) (call k l m) p = cc (coded_names.inj a k (cc), coded_name.inj b l (cc), coded_exprs.inj c m (cc))
  action_inj (branches a) (branches k) p = cc (branches_inj a k (cc))
  action_inj (loop a b c) (loop k l m) p = cc ((coded_option coded_expr).inj a k (cc), (coded_list coded_invariant).inj b l (cc), stmts_inj c m (cc))
  action_inj («break» a) («break» k) p = cc ((coded_option coded_name).inj a k (cc))
  action_inj «return» «return» p = refl
  action_inj (goto a) (goto k) p = cc (coded_names.inj a k (cc))
  action_inj x y p = let e : tag (action_code x) ≡ tag (action_code y) = ap tag p in absurd (omega arith)

  pub branches_inj : (x y : Branches) → branches_code x ≡ branches_code y → x ≡ y
  branches_inj (branch a b c d) (branch k l m n) p = cc (coded_place.inj a k (cc), (coded_option coded_expr).inj b l (cc), stmts_inj c m (cc), branches_inj d n (cc))
  branches_inj (otherwise a) (otherwise k) p = cc (stmts_inj a k (cc))
  branches_inj no_branch no_branch p = refl
  branches_inj x y p = let e : tag (branches_code x) ≡ tag (branches_code y) = ap tag p in absurd (omega arith)

  pub stmts_inj : (x y : Stmts) → stmts_code x ≡ stmts_code y → x ≡ y
  stmts_inj no_stmts no_stmts p = refl
  stmts_inj (next a b) (next k l) p = cc (stmt_inj a k (cc), stmts_inj b l (cc))
  stmts_inj x y p = let e : tag (stmts_code x) ≡ tag (stmts_code y) = ap tag p in absurd (omega arith)

abbrev pub coded_stmt : Coded Stmt
coded_stmt = record { code = stmt_code; inj = stmt_inj }

abbrev pub coded_action : Coded Action
coded_action = record { code = action_code; inj = action_inj }

abbrev pub coded_branches : Coded Branches
coded_branches = record { code = branches_code; inj = branches_inj }

abbrev pub coded_stmts : Coded Stmts
coded_stmts = record { code = stmts_code; inj = stmts_inj }

abbrev pub spec_code : Spec → Gv
spec_code (requires a b c) = gcons (gnum 0) (gcons (coded_place.code a) (gcons (coded_bool.code b) (coded_expr.code c)))
spec_code (ensures a b c) = gcons (gnum 1) (gcons (coded_place.code a) (gcons (coded_bool.code b) (coded_expr.code c)))
spec_code (modifies a b) = gcons (gnum 2) (gcons (coded_place.code a) (coded_names.code b))

pub spec_inj : (x y : Spec) → spec_code x ≡ spec_code y → x ≡ y
spec_inj (requires a b c) (requires k l m) p = cc (coded_place.inj a k (cc), coded_bool.inj b l (cc), coded_expr.inj c m (cc))
spec_inj (ensures a b c) (ensures k l m) p = cc (coded_place.inj a k (cc), coded_bool.inj b l (cc), coded_expr.inj c m (cc))
spec_inj (modifies a b) (modifies k l) p = cc (coded_place.inj a k (cc), coded_names.inj b l (cc))
spec_inj x y p = let e : tag (spec_code x) ≡ tag (spec_code y) = ap tag p in absurd (omega arith)

abbrev pub coded_spec : Coded Spec
coded_spec = record { code = spec_code; inj = spec_inj }

abbrev pub coded_body : Coded Body
coded_body = code_by (List Groups × Stmts) (coded× (coded_list coded_groups) coded_stmts) (λ b. (b.locals, b.stmts)) (λ p. record { locals = p.0; stmts = p.1 }) (λ _. refl)

abbrev pub coded_signature : Coded Signature
coded_signature = code_by (Groups × Groups) (coded× coded_groups coded_groups) (λ s. (s.ins, s.outs)) (λ p. record { ins = p.0; outs = p.1 }) (λ _. refl)

abbrev pub coded_argument : Coded Argument
coded_argument = code_by (Option Name × Ty) (coded× (coded_option coded_name) coded_ty) (λ a. (a.name, a.type)) (λ p. record { name = p.0; type = p.1 }) (λ _. refl)

abbrev pub decl_body_code : DeclBody → Gv
decl_body_code (constant a b c) = gcons (gnum 0) (gcons ((coded_option coded_place).code a) (gcons (coded_names.code b) (coded_ty.code c)))
decl_body_code (function a b c d e) = gcons (gnum 1) (gcons (coded_name.code a) (gcons ((coded_option coded_params).code b) (gcons ((coded_list coded_argument).code c) (gcons (coded_ty.code d) ((coded_option coded_expr).code e)))))
decl_body_code (axiom_of a) = gcons (gnum 2) (coded_expr.code a)
decl_body_code (variables a) = gcons (gnum 3) (coded_groups.code a)
decl_body_code (synonym a b) = gcons (gnum 4) (gcons (coded_name.code a) ((coded_option coded_ty).code b))
decl_body_code (procedure a b c d e) = gcons (gnum 5) (gcons (coded_name.code a) (gcons ((coded_option coded_params).code b) (gcons (coded_signature.code c) (gcons ((coded_list coded_spec).code d) ((coded_option coded_body).code e)))))
decl_body_code (implementation a b c d) = gcons (gnum 6) (gcons (coded_name.code a) (gcons ((coded_option coded_params).code b) (gcons (coded_signature.code c) (coded_body.code d))))

pub decl_body_inj : (x y : DeclBody) → decl_body_code x ≡ decl_body_code y → x ≡ y
decl_body_inj (constant a b c) (constant k l m) p = cc ((coded_option coded_place).inj a k (cc), coded_names.inj b l (cc), coded_ty.inj c m (cc))
decl_body_inj (function a b c d e) (function k l m n o) p = cc (coded_name.inj a k (cc), (coded_option coded_params).inj b l (cc), (coded_list coded_argument).inj c m (cc), coded_ty.inj d n (cc), (coded_option coded_expr).inj e o (cc))
decl_body_inj (axiom_of a) (axiom_of k) p = cc (coded_expr.inj a k (cc))
decl_body_inj (variables a) (variables k) p = cc (coded_groups.inj a k (cc))
decl_body_inj (synonym a b) (synonym k l) p = cc (coded_name.inj a k (cc), (coded_option coded_ty).inj b l (cc))
decl_body_inj (procedure a b c d e) (procedure k l m n o) p = cc (coded_name.inj a k (cc), (coded_option coded_params).inj b l (cc), coded_signature.inj c m (cc), (coded_list coded_spec).inj d n (cc), (coded_option coded_body).inj e o (cc))
decl_body_inj (implementation a b c d) (implementation k l m n) p = cc (coded_name.inj a k (cc), (coded_option coded_params).inj b l (cc), coded_signature.inj c m (cc), coded_body.inj d n (cc))
decl_body_inj x y p = let e : tag (decl_body_code x) ≡ tag (decl_body_code y) = ap tag p in absurd (omega arith)

abbrev pub coded_decl_body : Coded DeclBody
coded_decl_body = record { code = decl_body_code; inj = decl_body_inj }

abbrev pub coded_decl : Coded Decl
coded_decl = code_by (List ℕ × (ℕ × (ℕ × (List ℕ × DeclBody)))) (coded× (coded_list coded_ℕ) (coded× coded_ℕ (coded× coded_ℕ (coded× (coded_list coded_ℕ) coded_decl_body)))) (λ d. (d.name, (d.start, (d.finish, (d.source, d.body))))) (λ p. record { name = p.0; start = p.1.0; finish = p.1.1.0; source = p.1.1.1.0; body = p.1.1.1.1 }) (λ _. refl)
