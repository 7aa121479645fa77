-- Codes of the parts of modules, by which proofs tell them apart.
use Rattle.std.specs.Prelude.{◌≡◌, ℕ, Bool, List, Option, refl}
use Rattle.std.specs.Coded.{Coded, code_by, coded×, coded_ℕ, coded_bool, coded_list, coded_option}
use Rattle.std.proofs.Common.{ap, arith}
use base.Stored.{Gv, gnil, gnum, gcons}
use Rattle.bv_base.specs.declared.place.Place.{Place}
use Rattle.logic_core.specs.Tree.{Kind, Tree}
use Rattle.logic_core.specs.Codes.{tag, coded_kind, coded_tree}
use Rattle.logic_core.specs.Def.{Def}
use Rattle.logic_core.specs.DefCodes.{coded_def}
use Rattle.flow_core.specs.declared.mark.GoalKind.{GoalKind}
use Rattle.flow_core.specs.declared.mark.GoalKind.TheVariants.{Assert, InvariantEntry, InvariantKept, Requires, Ensures, Point}
use Rattle.flow_core.specs.declared.mark.Mark.{Mark}
use Rattle.flow_core.specs.declared.block.Invariant.{Invariant}
use Rattle.bpl_model.specs.Module.{Name, Const, Function, Global, Local, Spec, requires, ensures, modifies, Stmt, assert, assume, havoc, assign, call, if_else, while, break, return, goto, labelled, Stmts, no_stmts, stmt, Proc, DeclText, Module}

abbrev pub coded_name : Coded Name
coded_name = coded_list coded_ℕ

abbrev pub coded_names : Coded (List Name)
coded_names = coded_list coded_name

abbrev pub coded_clause : Coded (Option Tree)
coded_clause = coded_option coded_tree

abbrev pub coded_place : Coded Place
coded_place = code_by (ℕ × ℕ) (coded× coded_ℕ coded_ℕ) (λ p. (p.line, p.col)) (λ p. record { line = p.0; col = p.1 }) (λ _. refl)

abbrev pub goal_kind_code : GoalKind → Gv
goal_kind_code Assert = gcons (gnum 0) gnil
goal_kind_code InvariantEntry = gcons (gnum 1) gnil
goal_kind_code InvariantKept = gcons (gnum 2) gnil
goal_kind_code (Requires k) = gcons (gnum 3) (gnum k)
goal_kind_code Ensures = gcons (gnum 4) gnil
goal_kind_code (Point k) = gcons (gnum 5) (gnum k)

pub goal_kind_inj : (x y : GoalKind) → goal_kind_code x ≡ goal_kind_code y → x ≡ y
goal_kind_inj Assert Assert p = refl
goal_kind_inj InvariantEntry InvariantEntry p = refl
goal_kind_inj InvariantKept InvariantKept p = refl
goal_kind_inj (Requires j) (Requires k) p = cc
goal_kind_inj Ensures Ensures p = refl
goal_kind_inj (Point j) (Point k) p = cc
goal_kind_inj x y p = let e : tag (goal_kind_code x) ≡ tag (goal_kind_code y) = ap tag p in absurd (omega arith)

abbrev pub coded_goal_kind : Coded GoalKind
coded_goal_kind = record { code = goal_kind_code; inj = goal_kind_inj }

abbrev pub coded_mark : Coded Mark
coded_mark = code_by (Place × GoalKind) (coded× coded_place coded_goal_kind) (λ m. (m.place, m.kind)) (λ p. record { place = p.0; kind = p.1 }) (λ _. refl)

abbrev pub coded_invariant : Coded Invariant
coded_invariant = code_by (Bool × (Place × Tree)) (coded× coded_bool (coded× coded_place coded_tree)) (λ i. (i.free, (i.place, i.formula))) (λ p. record { free = p.0; place = p.1.0; formula = p.1.1 }) (λ _. refl)

abbrev pub coded_const : Coded Const
coded_const = code_by (Name × Kind) (coded× coded_name coded_kind) (λ c. (c.name, c.sort)) (λ p. record { name = p.0; sort = p.1 }) (λ _. refl)

abbrev pub coded_function : Coded Function
coded_function = code_by (Name × Def) (coded× coded_name coded_def) (λ f. (f.name, f.def)) (λ p. record { name = p.0; def = p.1 }) (λ _. refl)

abbrev pub coded_global : Coded Global
coded_global = code_by (Name × (Kind × Option Tree)) (coded× coded_name (coded× coded_kind coded_clause)) (λ g. (g.name, (g.sort, g.clause))) (λ p. record { name = p.0; sort = p.1.0; clause = p.1.1 }) (λ _. refl)

abbrev pub coded_local : Coded Local
coded_local = code_by (Name × (Kind × (Bool × Option Tree))) (coded× coded_name (coded× coded_kind (coded× coded_bool coded_clause))) (λ l. (l.name, (l.sort, (l.own, l.clause)))) (λ p. record { name = p.0; sort = p.1.0; own = p.1.1.0; clause = p.1.1.1 }) (λ _. refl)

abbrev pub spec_code : Spec → Gv
spec_code (requires a b c) = gcons (gnum 0) (gcons (coded_bool.code a) (gcons (coded_place.code b) (coded_tree.code c)))
spec_code (ensures a b c) = gcons (gnum 1) (gcons (coded_bool.code a) (gcons (coded_place.code b) (coded_tree.code c)))
spec_code (modifies a) = gcons (gnum 2) ((coded_list coded_ℕ).code a)

pub spec_inj : (x y : Spec) → spec_code x ≡ spec_code y → x ≡ y
spec_inj (requires a b c) (requires k l m) p = cc (coded_bool.inj a k (cc), coded_place.inj b l (cc), coded_tree.inj c m (cc))
spec_inj (ensures a b c) (ensures k l m) p = cc (coded_bool.inj a k (cc), coded_place.inj b l (cc), coded_tree.inj c m (cc))
spec_inj (modifies a) (modifies k) p = cc ((coded_list coded_ℕ).inj a k (cc))
spec_inj x y p = let e : tag (spec_code x) ≡ tag (spec_code y) = ap tag p in absurd (omega arith)

abbrev pub coded_spec : Coded Spec
coded_spec = record { code = spec_code; inj = spec_inj }

abbrev pub coded_assigned : Coded (List (ℕ × Tree))
coded_assigned = coded_list (coded× coded_ℕ coded_tree)

abbrev pub coded_numbers : Coded (List ℕ)
coded_numbers = coded_list coded_ℕ

abbrev mutual
  pub stmt_code : Stmt → Gv
  stmt_code (assert a b) = gcons (gnum 0) (gcons (coded_mark.code a) (coded_tree.code b))
  stmt_code (assume a b) = gcons (gnum 1) (gcons (coded_place.code a) (coded_tree.code b))
  stmt_code (havoc a b) = gcons (gnum 2) (gcons (coded_place.code a) (coded_numbers.code b))
  stmt_code (assign a b) = gcons (gnum 3) (gcons (coded_place.code a) (coded_assigned.code b))
  stmt_code (call a b c d) = gcons (gnum 4) (gcons (coded_place.code a) (gcons (gnum b) (gcons ((coded_list coded_tree).code c) (coded_numbers.code d))))
  stmt_code (if_else a b c d e) = gcons (gnum 5) (gcons (coded_place.code a) (gcons (coded_bool.code b) (gcons (coded_clause.code c) (gcons (stmts_code d) (stmts_code e)))))
  stmt_code (while a b c d) = gcons (gnum 6) (gcons (coded_place.code a) (gcons (coded_clause.code b) (gcons ((coded_list coded_invariant).code c) (stmts_code d))))
  stmt_code (break a b) = gcons (gnum 7) (gcons (coded_place.code a) ((coded_option coded_name).code b))
  stmt_code (return a) = gcons (gnum 8) (coded_place.code a)
  stmt_code (goto a b) = gcons (gnum 9) (gcons (coded_place.code a) (coded_names.code b))
  stmt_code (labelled a b) = gcons (gnum 10) (gcons (coded_names.code a) (stmt_code b))

  pub stmts_code : Stmts → Gv
  stmts_code no_stmts = gcons (gnum 0) gnil
  stmts_code (stmt a b) = gcons (gnum 1) (gcons (stmt_code a) (stmts_code b))

mutual
  pub stmt_inj : (x y : Stmt) → stmt_code x ≡ stmt_code y → x ≡ y
  stmt_inj (assert a b) (assert k l) p = cc (coded_mark.inj a k (cc), coded_tree.inj b l (cc))
  stmt_inj (assume a b) (assume k l) p = cc (coded_place.inj a k (cc), coded_tree.inj b l (cc))
  stmt_inj (havoc a b) (havoc k l) p = cc (coded_place.inj a k (cc), coded_numbers.inj b l (cc))
  stmt_inj (assign a b) (assign k l) p = cc (coded_place.inj a k (cc), coded_assigned.inj b l (cc))
  stmt_inj (call a b c d) (call k l m n) p = cc (coded_place.inj a k (cc), (coded_list coded_tree).inj c m (cc), coded_numbers.inj d n (cc))
  stmt_inj (if_else a b c d e) (if_else k l m n o) p = cc (coded_place.inj a k (cc), coded_bool.inj b l (cc), coded_clause.inj c m (cc), stmts_inj d n (cc), stmts_inj e o (cc))
  stmt_inj (while a b c d) (while k l m n) p = cc (coded_place.inj a k (cc), coded_clause.inj b l (cc), (coded_list coded_invariant).inj c m (cc), stmts_inj d n (cc))
  stmt_inj (break a b) (break k l) p = cc (coded_place.inj a k (cc), (coded_option coded_name).inj b l (cc))
  stmt_inj (return a) (return k) p = cc (coded_place.inj a k (cc))
  stmt_inj (goto a b) (goto k l) p = cc (coded_place.inj a k (cc), coded_names.inj b l (cc))
  stmt_inj (labelled a b) (labelled k l) p = cc (coded_names.inj a k (cc), stmt_inj b l (cc))
  stmt_inj x y p = let e : tag (stmt_code x) ≡ tag (stmt_code y) = ap tag p in absurd (omega arith)

  pub stmts_inj : (x y : Stmts) → stmts_code x ≡ stmts_code y → x ≡ y
  stmts_inj no_stmts no_stmts p = refl
  stmts_inj (stmt a b) (stmt k l) p = cc (stmt_inj a k (cc), stmts_inj b l (cc))
  stmts_inj x y p = let e : tag (stmts_code x) ≡ tag (stmts_code y) = ap tag p in absurd (omega arith)

abbrev pub coded_stmt : Coded Stmt
coded_stmt = record { code = stmt_code; inj = stmt_inj }

abbrev pub coded_stmts : Coded Stmts
coded_stmts = record { code = stmts_code; inj = stmts_inj }

abbrev coded_locals : Coded (List Local)
coded_locals = coded_list coded_local

abbrev pub coded_proc : Coded Proc
coded_proc = code_by (Name × (List Local × (List Local × (List Local × (List Spec × Option Stmts))))) (coded× coded_name (coded× coded_locals (coded× coded_locals (coded× coded_locals (coded× (coded_list coded_spec) (coded_option coded_stmts)))))) (λ p. (p.name, (p.ins, (p.outs, (p.locals, (p.specs, p.body)))))) (λ p. record { name = p.0; ins = p.1.0; outs = p.1.1.0; locals = p.1.1.1.0; specs = p.1.1.1.1.0; body = p.1.1.1.1.1 }) (λ _. refl)

abbrev pub coded_decl_text : Coded DeclText
coded_decl_text = code_by (Name × (List ℕ × (List ℕ × (List ℕ × List ℕ)))) (coded× coded_name (coded× coded_numbers (coded× coded_numbers (coded× coded_numbers coded_numbers)))) (λ d. (d.name, (d.text, (d.contract, (d.leads, d.contract_leads))))) (λ p. record { name = p.0; text = p.1.0; contract = p.1.1.0; leads = p.1.1.1.0; contract_leads = p.1.1.1.1 }) (λ _. refl)

abbrev pub coded_module : Coded Module
coded_module = code_by (List Const × (List Tree × (List Function × (List Global × (List Proc × List DeclText))))) (coded× (coded_list coded_const) (coded× (coded_list coded_tree) (coded× (coded_list coded_function) (coded× (coded_list coded_global) (coded× (coded_list coded_proc) (coded_list coded_decl_text)))))) (λ m. (m.consts, (m.axioms, (m.functions, (m.globals, (m.procs, m.texts)))))) (λ p. record { consts = p.0; axioms = p.1.0; functions = p.1.1.0; globals = p.1.1.1.0; procs = p.1.1.1.1.0; texts = p.1.1.1.1.1 }) (λ _. refl)
