-- The tokens of statements and declarations in the canonical text, line after line.
use Rattle.std.specs.Prelude.{List, [], ◌∷◌, ◌++◌, Option, Some, None}
use Rattle.bpl_ast.specs.Tree.{Expr, Groups}
use Rattle.bpl_ast.specs.Statement.{Invariant, Stmt, stmt, Action, assert, assume, havoc, assign, call, branches, loop, «break», «return», goto, Branches, branch, otherwise, no_branch, Stmts, no_stmts, next, Spec, requires, ensures, modifies, Body, DeclBody, constant, function, axiom_of, variables, synonym, procedure, implementation}
use Rattle.canonical_text.specs.Glyph.{Glyph, plain, word, opening, closing, prefix}
use Rattle.canonical_text.specs.Expression.{names, params, type, expression, listed, groups}
use Rattle.canonical_text.specs.Lines.{semicolon, free_word, targets, guard, outs, labels, label, signature, arguments, value, unique_word, synonym_of, ended}

abbrev pub formula_tokens : Expr → List Glyph
formula_tokens x = expression x ++ semicolon

abbrev pub invariants_tokens : List Invariant → List Glyph
invariants_tokens [] = []
invariants_tokens (i ∷ is) = (free_word i.free ++ word "invariant" ∷ formula_tokens i.formula) ++ invariants_tokens is

abbrev mutual
  pub stmt_tokens : Stmt → List Glyph
  stmt_tokens (stmt ls p a) = labels ls ++ action_tokens a

  pub action_tokens : Action → List Glyph
  action_tokens (assert x) = word "assert" ∷ formula_tokens x
  action_tokens (assume x) = word "assume" ∷ formula_tokens x
  action_tokens (havoc ns) = word "havoc" ∷ (names ns ++ semicolon)
  action_tokens (assign ts xs) = targets ts ++ word ":=" ∷ (listed xs ++ semicolon)
  action_tokens (call ns f xs) = word "call" ∷ (outs ns ++ prefix f.text ∷ opening "(" ∷ (listed xs ++ closing ")" ∷ semicolon))
  action_tokens (branches bs) = chain_tokens bs
  action_tokens (loop g is ss) = word "while" ∷ (guard g ++ (invariants_tokens is ++ block_tokens ss))
  action_tokens («break» l) = word "break" ∷ (label l ++ semicolon)
  action_tokens «return» = word "return" ∷ semicolon
  action_tokens (goto ns) = word "goto" ∷ (names ns ++ semicolon)

  pub chain_tokens : Branches → List Glyph
  chain_tokens (branch p g ss bs) = word "if" ∷ (guard g ++ (block_tokens ss ++ others_tokens bs))
  chain_tokens (otherwise ss) = []
  chain_tokens no_branch = []

  pub others_tokens : Branches → List Glyph
  others_tokens (branch p g ss bs) = word "else" ∷ word "if" ∷ (guard g ++ (block_tokens ss ++ others_tokens bs))
  others_tokens (otherwise ss) = word "else" ∷ block_tokens ss
  others_tokens no_branch = []

  pub block_tokens : Stmts → List Glyph
  block_tokens no_stmts = word "{" ∷ word "}" ∷ []
  block_tokens (next s ss) = word "{" ∷ ((stmt_tokens s ++ stmts_tokens ss) ++ word "}" ∷ [])

  pub stmts_tokens : Stmts → List Glyph
  stmts_tokens no_stmts = []
  stmts_tokens (next s ss) = stmt_tokens s ++ stmts_tokens ss

abbrev pub locals_tokens : List Groups → List Glyph
locals_tokens [] = []
locals_tokens (g ∷ gs) = word "var" ∷ (groups g ++ (semicolon ++ locals_tokens gs))

abbrev pub body_tokens : Body → List Glyph
body_tokens b = word "{" ∷ (locals_tokens b.locals ++ (stmts_tokens b.stmts ++ word "}" ∷ []))

abbrev pub spec_tokens : Spec → List Glyph
spec_tokens (requires p f x) = free_word f ++ word "requires" ∷ formula_tokens x
spec_tokens (ensures p f x) = free_word f ++ word "ensures" ∷ formula_tokens x
spec_tokens (modifies p ns) = word "modifies" ∷ (names ns ++ semicolon)

abbrev pub specs_tokens : List Spec → List Glyph
specs_tokens [] = []
specs_tokens (s ∷ ss) = spec_tokens s ++ specs_tokens ss

abbrev pub optional_body_tokens : Option Body → List Glyph
optional_body_tokens None = []
optional_body_tokens (Some b) = body_tokens b

abbrev pub decl_tokens : DeclBody → List Glyph
decl_tokens (constant u ns t) = word "const" ∷ (unique_word u ++ (names ns ++ closing ":" ∷ (type t ++ semicolon)))
decl_tokens (function n ps ins t b) = word "function" ∷ prefix n.text ∷ (params ps ++ opening "(" ∷ (arguments ins ++ closing ")" ∷ closing ":" ∷ (type t ++ value b)))
decl_tokens (axiom_of x) = word "axiom" ∷ formula_tokens x
decl_tokens (variables gs) = word "var" ∷ (groups gs ++ semicolon)
decl_tokens (synonym n t) = word "type" ∷ plain n.text ∷ (synonym_of t ++ semicolon)
decl_tokens (procedure n ps s ss b) = word "procedure" ∷ plain n.text ∷ (signature ps s ++ (ended b ++ (specs_tokens ss ++ optional_body_tokens b)))
decl_tokens (implementation n ps s b) = word "implementation" ∷ plain n.text ∷ (signature ps s ++ body_tokens b)
