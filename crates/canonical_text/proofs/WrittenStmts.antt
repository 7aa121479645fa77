-- The same of statements, declarations and programs.
use Rattle.std.specs.Prelude.{Bool, List, [], ◌∷◌, IsTrue, Option}
use Rattle.std.proofs.Common.{refl}
use Rattle.bv_base.specs.declared.place.Place.{Place}
use Rattle.bpl_ast.specs.Place.{Name, Ty}
use Rattle.bpl_ast.specs.Tree.{Expr, Exprs, Groups}
use Rattle.bpl_ast.specs.Statement.{Target, Guard, Invariant, Stmt, Action, Branches, Stmts, Spec, Body, Signature, Argument, DeclBody}
use Rattle.bpl_grammar.specs.Lexeme.{Lexeme}
use Rattle.bpl_grammar.specs.Types.{Lexemes}
use Rattle.bpl_grammar.specs.Statements as statements
use Rattle.bpl_grammar.specs.Statements.{Entry, Targets, Guard', Formula, Invs, Stmt', labelled, Action', of_assert, of_assume, of_havoc, of_assign, of_call, of_call_with_outs, of_if, of_while, of_break, of_break_to, of_return, of_goto, If, else_if, else_block, Block, block, List', done, Vars, Body', body}
use Rattle.bpl_grammar.specs.Programs as programs
use Rattle.bpl_grammar.specs.Programs.{FArg, FArgs, Inputs, Output, Value, Params', Sig, Clause', Spec', Specs, DeclBody', of_const, of_unique_const, of_function, of_axiom, of_var, of_type, of_synonym, of_procedure, of_procedure_with_body, of_implementation, Decls}
use Rattle.canonical_text.specs.WrittenExpression.{AreNames, SomeNames, IsWrittenType, IsWritten, AreWritten, AreWrittenGroups}
use Rattle.canonical_text.specs.WrittenStatement.{AreTargets, SomeTargets, IsGuard, AreInvariants, is_branch, IsWrittenStmt, IsWrittenAction, AreWrittenBranches, AreWrittenStmts, AreLocals, IsWrittenBody, IsWrittenSpec, AreWrittenSpecs, IsWrittenSignature, IsWrittenArgument, AreWrittenArguments, IsOptional, IsWrittenDecl}
use Rattle.canonical_text.proofs.WrittenExprs.{AreKnown, takes_known, name_known, ids_written, params_written, type_written, e_written, es_written, args_written, groups_written}

all_names : (ns : List Name) → SomeNames ns → AreNames ns
all_names [] w = tt
all_names (n ∷ ns) w = w

all_targets : (ts : List Target) → SomeTargets ts → AreTargets ts
all_targets [] w = tt
all_targets (t ∷ ts) w = w

module _ (place : Lexeme → Place) where
  entry_written : {ts us : Lexemes} {xs : Exprs} → Entry place ts us xs → AreKnown ts → AreWritten xs × AreKnown us
  entry_written statements.Entry.none k = (tt, k)
  entry_written (statements.Entry.more h d c e) k =
      let r = e_written place d k.1 in
      let q = entry_written e r.1.1 in
      ((r.0, q.0), q.1)

  targets_written : {ts us : Lexemes} {xs : List Target} → Targets place ts us xs → AreKnown ts → SomeTargets xs × AreKnown us
  targets_written (statements.Targets.last {t = t} h d) k =
      let r = entry_written d k.1 in
      ((name_known t h k.0, r.0, tt), r.1)
  targets_written (statements.Targets.more {t = t} {ys = ys} h d c e) k =
      let r = entry_written d k.1 in
      let q = targets_written e r.1.1 in
      ((name_known t h k.0, r.0, all_targets ys q.0), q.1)

  guard_written : {ts us : Lexemes} {g : Guard} → Guard' place ts us g → AreKnown ts → IsGuard g × AreKnown us
  guard_written (statements.any h s c) k = (tt, k.1.1.1)
  guard_written (statements.Guard'.formula h d c) k =
      let r = e_written place d k.1 in
      (r.0, r.1.1)

  formula_written : {ts us : Lexemes} {x : Expr} → Formula place ts us x → AreKnown ts → IsWritten x × AreKnown us
  formula_written (statements.Formula.formula d e s) k =
      let r = e_written place e (takes_known d k) in
      (r.0, r.1.1)

  invs_written : {ts us : Lexemes} {is : List Invariant} → Invs place ts us is → AreKnown ts → AreInvariants is × AreKnown us
  invs_written statements.Invs.none k = (tt, k)
  invs_written (statements.checked h d e) k =
      let r = formula_written d k.1 in
      let q = invs_written e r.1 in
      ((r.0, q.0), q.1)
  invs_written (statements.Invs.free h s d e) k =
      let r = formula_written d k.1.1 in
      let q = invs_written e r.1 in
      ((r.0, q.0), q.1)

  mutual
    stmt_written : {ts us : Lexemes} {s : Stmt} → Stmt' place ts us s → AreKnown ts → IsWrittenStmt s × AreKnown us
    stmt_written (labelled {t = t} h c d) k =
        let r = stmt_written d k.1.1 in
        (((name_known t h k.0, r.0.0), r.0.1), r.1)
    stmt_written (statements.plain d) k =
        let r = action_written d k in
        ((tt, r.0), r.1)

    action_written : {ts us : Lexemes} {a : Action} → Action' place ts us a → AreKnown ts → IsWrittenAction a × AreKnown us
    action_written (of_assert h d) k = formula_written d k.1
    action_written (of_assume h d) k = formula_written d k.1
    action_written (of_havoc h d s) k =
        let r = ids_written place d k.1 in
        (r.0, r.1.1)
    action_written (of_assign d s e c) k =
        let r = targets_written d k in
        let q = es_written place e r.1.1 in
        ((r.0, q.0, q.1), q.2.1)
    action_written (of_call {u = u} h d i e s) k =
        let l = takes_known d k.1 in
        let r = args_written place e l.1 in
        ((tt, name_known u i l.0, r.0), r.1.1)
    action_written (of_call_with_outs {v = v} {ns = ns} h d e c i f s) k =
        let r = ids_written place e (takes_known d k.1) in
        let q = args_written place f r.1.1.1 in
        ((all_names ns r.0, name_known v i r.1.1.0, q.0), q.1.1)
    action_written (of_if d) k =
        let r = if_written d k in
        ((r.0, r.1), r.2)
    action_written (of_while h d e f) k =
        let r = guard_written d k.1 in
        let q = invs_written e r.1 in
        let p = block_written f q.1 in
        ((r.0, q.0, p.0), p.1)
    action_written (of_break h s) k = (tt, k.1.1)
    action_written (of_break_to {u = u} h i s) k = (name_known u i k.1.0, k.1.1.1)
    action_written (of_return h s) k = (tt, k.1.1)
    action_written (of_goto h d s) k =
        let r = ids_written place d k.1 in
        (r.0, r.1.1)

    if_written : {ts us : Lexemes} {bs : Branches} → If place ts us bs → AreKnown ts → IsTrue (is_branch bs) × AreWrittenBranches bs × AreKnown us
    if_written (statements.alone h d e) k =
        let r = guard_written d k.1 in
        let q = block_written e r.1 in
        (refl, (r.0, q.0, tt), q.1)
    if_written (else_if h d e s f) k =
        let r = guard_written d k.1 in
        let q = block_written e r.1 in
        let p = if_written f q.1.1 in
        (refl, (r.0, q.0, p.1), p.2)
    if_written (else_block h d e s f) k =
        let r = guard_written d k.1 in
        let q = block_written e r.1 in
        let p = block_written f q.1.1 in
        (refl, (r.0, q.0, p.0), p.1)

    block_written : {ts us : Lexemes} {ss : Stmts} → Block place ts us ss → AreKnown ts → AreWrittenStmts ss × AreKnown us
    block_written (block h d s) k =
        let r = list_written d k.1 in
        (r.0, r.1.1)

    list_written : {ts us : Lexemes} {ss : Stmts} → List' place ts us ss → AreKnown ts → AreWrittenStmts ss × AreKnown us
    list_written done k = (tt, k)
    list_written (statements.List'.more d e) k =
        let r = stmt_written d k in
        let q = list_written e r.1 in
        ((r.0, q.0), q.1)

  vars_written : {ts us : Lexemes} {gs : List Groups} → Vars place ts us gs → AreKnown ts → AreLocals gs × AreKnown us
  vars_written statements.Vars.none k = (tt, k)
  vars_written (statements.Vars.more h d e s f) k =
      let r = groups_written place e (takes_known d k.1) in
      let q = vars_written f r.2.1 in
      (((r.0, r.1), q.0), q.1)

  body_written : {ts us : Lexemes} {b : Body} → Body' place ts us b → AreKnown ts → IsWrittenBody b × AreKnown us
  body_written (body h d e s) k =
      let r = vars_written d k.1 in
      let q = list_written e r.1 in
      ((r.0, q.0), q.1.1)

  -- declarations

  argument_written : {ts us : Lexemes} {a : Argument} → FArg place ts us a → AreKnown ts → IsWrittenArgument a × AreKnown us
  argument_written (programs.typed d) k =
      let r = type_written place d k in
      ((tt, r.0), r.1)
  argument_written (programs.FArg.named {t = t} h c d) k =
      let r = type_written place d k.1.1 in
      ((name_known t h k.0, r.0), r.1)

  arguments_written : {ts us : Lexemes} {xs : List Argument} → FArgs place ts us xs → AreKnown ts → AreWrittenArguments xs × AreKnown us
  arguments_written (programs.FArgs.last d) k =
      let r = argument_written d k in
      ((r.0, tt), r.1)
  arguments_written (programs.FArgs.more d c e) k =
      let r = argument_written d k in
      let q = arguments_written e r.1.1 in
      ((r.0, q.0), q.1)

  inputs_written : {ts us : Lexemes} {xs : List Argument} → Inputs place ts us xs → AreKnown ts → AreWrittenArguments xs × AreKnown us
  inputs_written (programs.Inputs.none h c) k = (tt, k.1.1)
  inputs_written (programs.Inputs.some h d c) k =
      let r = arguments_written d k.1 in
      (r.0, r.1.1)

  output_written : {ts us : Lexemes} {t : Ty} → Output place ts us t → AreKnown ts → IsWrittenType t × AreKnown us
  output_written (programs.returns h s d c) k =
      let r = argument_written d k.1.1 in
      (r.0.1, r.1.1)
  output_written (programs.colon h d) k = type_written place d k.1

  value_written : {ts us : Lexemes} {b : Option Expr} → Value place ts us b → AreKnown ts → IsOptional IsWritten b × AreKnown us
  value_written (programs.given h d c) k =
      let r = e_written place d k.1 in
      (r.0, r.1.1)
  value_written (programs.missing h) k = (tt, k.1)

  parameters_written : {ts us : Lexemes} {gs : Groups} → Params' place ts us gs → AreKnown ts → AreWrittenGroups gs × AreKnown us
  parameters_written (programs.Params'.none h c) k = (tt, k.1.1)
  parameters_written (programs.Params'.some h d c) k =
      let r = groups_written place d k.1 in
      (r.1, r.2.1)

  signature_written : {ts us : Lexemes} {s : Signature} → Sig place ts us s → AreKnown ts → IsWrittenSignature s × AreKnown us
  signature_written (programs.ins_alone d) k =
      let r = parameters_written d k in
      ((r.0, tt), r.1)
  signature_written (programs.ins_and_outs d h e) k =
      let r = parameters_written d k in
      let q = parameters_written e r.1.1 in
      ((r.0, q.0), q.1)

  clause_written : {f : Bool} {ts us : Lexemes} {s : Spec} → Clause' place f ts us s → AreKnown ts → IsWrittenSpec s × AreKnown us
  clause_written (programs.of_requires h d) k = formula_written d k.1
  clause_written (programs.of_ensures h d) k = formula_written d k.1

  spec_written : {ts us : Lexemes} {s : Spec} → Spec' place ts us s → AreKnown ts → IsWrittenSpec s × AreKnown us
  spec_written (programs.Spec'.checked d) k = clause_written d k
  spec_written (programs.Spec'.free h d) k = clause_written d k.1
  spec_written (programs.of_modifies {ns = ns} h d s) k =
      let r = ids_written place d k.1 in
      (all_names ns r.0, r.1.1)
  spec_written (programs.of_modifies_none h s) k = (tt, k.1.1)

  specs_written : {ts us : Lexemes} {ss : List Spec} → Specs place ts us ss → AreKnown ts → AreWrittenSpecs ss × AreKnown us
  specs_written programs.Specs.none k = (tt, k)
  specs_written (programs.Specs.more d e) k =
      let r = spec_written d k in
      let q = specs_written e r.1 in
      ((r.0, q.0), q.1)

  pub decl_written : {ts us : Lexemes} {d : DeclBody} → DeclBody' place ts us d → AreKnown ts → IsWrittenDecl d
  decl_written (of_const h d e c f s) k =
      let r = ids_written place e (takes_known d k.1) in
      (r.0, (type_written place f r.1.1).0)
  decl_written (of_unique_const h d u e c f s) k =
      let r = ids_written place e (takes_known d k.1).1 in
      (r.0, (type_written place f r.1.1).0)
  decl_written (of_function {u = u} h d i p e f g) k =
      let l = takes_known d k.1 in
      let a = params_written place p l.1 in
      let r = inputs_written e a.1 in
      let q = output_written f r.1 in
      (name_known u i l.0, a.0, r.0, q.0, (value_written g q.1).0)
  decl_written (of_axiom h d) k = (formula_written d k.1).0
  decl_written (of_var h d e s) k =
      let r = groups_written place e (takes_known d k.1) in
      (r.0, r.1)
  decl_written (of_type {u = u} h d i s) k = (name_known u i (takes_known d k.1).0, tt)
  decl_written (of_synonym {u = u} h d i c e s) k =
      let l = takes_known d k.1 in
      (name_known u i l.0, (type_written place e l.1.1).0)
  decl_written (of_procedure {u = u} h d i p e c f) k =
      let l = takes_known d k.1 in
      let a = params_written place p l.1 in
      let r = signature_written e a.1 in
      (name_known u i l.0, a.0, r.0, (specs_written f r.1.1).0, tt)
  decl_written (of_procedure_with_body {u = u} h d i p e f g) k =
      let l = takes_known d k.1 in
      let a = params_written place p l.1 in
      let r = signature_written e a.1 in
      let q = specs_written f r.1 in
      (name_known u i l.0, a.0, r.0, q.0, (body_written g q.1).0)
  decl_written (of_implementation {u = u} h d i p e g) k =
      let l = takes_known d k.1 in
      let a = params_written place p l.1 in
      let r = signature_written e a.1 in
      (name_known u i l.0, a.0, r.0, (body_written g r.1).0)
