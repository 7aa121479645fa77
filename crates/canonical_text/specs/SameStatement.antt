-- The same statement, declaration and program but for places and spans.
use Rattle.std.specs.Prelude.{◌≡◌, List, map, option_map}
use Rattle.bpl_ast.specs.Statement.{Target, Invariant, Stmt, stmt, Action, assert, assume, havoc, assign, call, branches, loop, «break», «return», goto, Branches, branch, otherwise, no_branch, Stmts, no_stmts, next, Spec, requires, ensures, modifies, Body, Signature, Argument, DeclBody, constant, function, axiom_of, variables, synonym, procedure, implementation, Decl}
use Rattle.canonical_text.specs.Same.{start, bare_name, bare_names, bare_params, bare_type, bare, bare_exprs, bare_groups}

abbrev pub bare_target : Target → Target
bare_target t = record { name = bare_name t.name; indices = bare_exprs t.indices }

abbrev pub bare_invariant : Invariant → Invariant
bare_invariant i = record { at = start; free = i.free; formula = bare i.formula }

abbrev mutual
  pub bare_stmt : Stmt → Stmt
  bare_stmt (stmt ls p a) = stmt (bare_names ls) start (bare_action a)

  pub bare_action : Action → Action
  bare_action (assert x) = assert (bare x)
  bare_action (assume x) = assume (bare x)
  bare_action (havoc ns) = havoc (bare_names ns)
  bare_action (assign ts xs) = assign (map bare_target ts) (bare_exprs xs)
  bare_action (call ns f xs) = call (bare_names ns) (bare_name f) (bare_exprs xs)
  bare_action (branches bs) = branches (bare_branches bs)
  bare_action (loop g is ss) = loop (option_map bare g) (map bare_invariant is) (bare_stmts ss)
  bare_action («break» l) = «break» (option_map bare_name l)
  bare_action «return» = «return»
  bare_action (goto ns) = goto (bare_names ns)

  pub bare_branches : Branches → Branches
  bare_branches (branch p g ss bs) = branch start (option_map bare g) (bare_stmts ss) (bare_branches bs)
  bare_branches (otherwise ss) = otherwise (bare_stmts ss)
  bare_branches no_branch = no_branch

  pub bare_stmts : Stmts → Stmts
  bare_stmts no_stmts = no_stmts
  bare_stmts (next s ss) = next (bare_stmt s) (bare_stmts ss)

abbrev pub bare_spec : Spec → Spec
bare_spec (requires p f x) = requires start f (bare x)
bare_spec (ensures p f x) = ensures start f (bare x)
bare_spec (modifies p ns) = modifies start (bare_names ns)

abbrev pub bare_body : Body → Body
bare_body b = record { locals = map bare_groups b.locals; stmts = bare_stmts b.stmts }

abbrev pub bare_signature : Signature → Signature
bare_signature s = record { ins = bare_groups s.ins; outs = bare_groups s.outs }

abbrev pub bare_argument : Argument → Argument
bare_argument a = record { name = option_map bare_name a.name; type = bare_type a.type }

abbrev pub bare_decl : DeclBody → DeclBody
bare_decl (constant u ns t) = constant (option_map (λ p. start) u) (bare_names ns) (bare_type t)
bare_decl (function n ps ins t b) = function (bare_name n) (bare_params ps) (map bare_argument ins) (bare_type t) (option_map bare b)
bare_decl (axiom_of x) = axiom_of (bare x)
bare_decl (variables gs) = variables (bare_groups gs)
bare_decl (synonym n t) = synonym (bare_name n) (option_map bare_type t)
bare_decl (procedure n ps s ss b) = procedure (bare_name n) (bare_params ps) (bare_signature s) (map bare_spec ss) (option_map bare_body b)
bare_decl (implementation n ps s b) = implementation (bare_name n) (bare_params ps) (bare_signature s) (bare_body b)

abbrev pub SameDeclBody : DeclBody → DeclBody → Type 0
SameDeclBody d e = bare_decl d ≡ bare_decl e

-- the same names and bodies; the spans and the bytes in them may differ
abbrev pub SameDecls : List Decl → List Decl → Type 0
SameDecls ds es = map (λ d. d.name) ds ≡ map (λ d. d.name) es × map (λ d. bare_decl d.body) ds ≡ map (λ d. bare_decl d.body) es
