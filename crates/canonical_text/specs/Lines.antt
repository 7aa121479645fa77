-- The canonical text: a declaration's lines.
use Rattle.std.specs.Prelude.{ℕ, ◌+◌, Bool, true, false, List, [], ◌∷◌, ◌++◌, map, flat_map, Option, Some, None}
use Rattle.bv_base.specs.declared.place.Place.{Place}
use Rattle.bv_base.specs.Text.{text_of}
use Rattle.bpl_ast.specs.Place.{Name, Params, Ty}
use Rattle.bpl_ast.specs.Tree.{Expr, Exprs, no_exprs, item, Groups, no_groups, group}
use Rattle.bpl_ast.specs.Statement.{Target, Guard, Invariant, Stmt, stmt, Action, assert, assume, havoc, assign, call, branches, loop, «break», «return», goto, Branches, branch, otherwise, no_branch, Stmts, no_stmts, next, Spec, requires, ensures, modifies, Body, Signature, Argument, DeclBody, constant, function, axiom_of, variables, synonym, procedure, implementation, Decl}
use Rattle.canonical_text.specs.Glyph.{Glyph, plain, word, opening, closing, prefix, index, line}
use Rattle.canonical_text.specs.Expression.{names, params, type, expression, listed, groups}

abbrev pub Lines : Type 0
Lines = List (List ℕ)

abbrev pub semicolon : List Glyph
semicolon = closing ";" ∷ []

abbrev pub free_word : Bool → List Glyph
free_word true = word "free" ∷ []
free_word false = []

abbrev pub entries : Exprs → List Glyph
entries no_exprs = []
entries (item x xs) = index ∷ (expression x ++ closing "]" ∷ entries xs)

abbrev pub more_targets : List Target → List Glyph
more_targets [] = []
more_targets (t ∷ ts) = closing "," ∷ plain t.name.text ∷ (entries t.indices ++ more_targets ts)

abbrev pub targets : List Target → List Glyph
targets [] = []
targets (t ∷ ts) = plain t.name.text ∷ (entries t.indices ++ more_targets ts)

abbrev pub guard : Guard → List Glyph
guard None = opening "(" ∷ word "*" ∷ closing ")" ∷ []
guard (Some x) = opening "(" ∷ (expression x ++ closing ")" ∷ [])

abbrev pub outs : List Name → List Glyph
outs [] = []
outs (n ∷ ns) = names (n ∷ ns) ++ word ":=" ∷ []

abbrev pub labels : List Name → List Glyph
labels [] = []
labels (n ∷ ns) = plain n.text ∷ closing ":" ∷ labels ns

abbrev pub label : Option Name → List Glyph
label None = []
label (Some n) = plain n.text ∷ []

abbrev pub invariant_line : ℕ → Invariant → List ℕ
invariant_line indent i = line indent (free_word i.free ++ word "invariant" ∷ (expression i.formula ++ semicolon))

abbrev pub braced : ℕ → Lines → Lines
braced n ls = line n (word "{" ∷ []) ∷ (ls ++ line n (word "}" ∷ []) ∷ [])

-- The lines of a statement behind its labels. The lines of a block have two spaces more.
abbrev mutual
  pub statement : ℕ → Stmt → Lines
  statement indent (stmt ls p a) = action indent (labels ls) a

  pub action : ℕ → List Glyph → Action → Lines
  action n ls (assert x) = line n (ls ++ word "assert" ∷ (expression x ++ semicolon)) ∷ []
  action n ls (assume x) = line n (ls ++ word "assume" ∷ (expression x ++ semicolon)) ∷ []
  action n ls (havoc ns) = line n (ls ++ word "havoc" ∷ (names ns ++ semicolon)) ∷ []
  action n ls (assign ts xs) = line n (ls ++ (targets ts ++ word ":=" ∷ (listed xs ++ semicolon))) ∷ []
  action n ls (call ns f xs) = line n (ls ++ word "call" ∷ (outs ns ++ prefix f.text ∷ opening "(" ∷ (listed xs ++ closing ")" ∷ semicolon))) ∷ []
  action n ls (branches bs) = chain n ls bs
  action n ls (loop g is ss) = line n (ls ++ word "while" ∷ guard g) ∷ (map (invariant_line (n + 2)) is ++ braced n (statements (n + 2) ss))
  action n ls («break» l) = line n (ls ++ word "break" ∷ (label l ++ semicolon)) ∷ []
  action n ls «return» = line n (ls ++ word "return" ∷ semicolon) ∷ []
  action n ls (goto ns) = line n (ls ++ word "goto" ∷ (names ns ++ semicolon)) ∷ []

  -- `else` and the `if` behind it are two lines
  pub chain : ℕ → List Glyph → Branches → Lines
  chain n ls (branch p g ss bs) = line n (ls ++ word "if" ∷ guard g) ∷ (braced n (statements (n + 2) ss) ++ others n bs)
  chain n ls (otherwise ss) = []
  chain n ls no_branch = []

  pub others : ℕ → Branches → Lines
  others n (branch p g ss bs) = line n (word "else" ∷ []) ∷ line n (word "if" ∷ guard g) ∷ (braced n (statements (n + 2) ss) ++ others n bs)
  others n (otherwise ss) = line n (word "else" ∷ []) ∷ braced n (statements (n + 2) ss)
  others n no_branch = []

  pub statements : ℕ → Stmts → Lines
  statements n no_stmts = []
  statements n (next s ss) = statement n s ++ statements n ss

-- the lines of a block, with its braces
abbrev pub block : ℕ → Stmts → Lines
block n ss = braced n (statements (n + 2) ss)

abbrev pub spec_line : Spec → List ℕ
spec_line (requires p f x) = line 2 (free_word f ++ word "requires" ∷ (expression x ++ semicolon))
spec_line (ensures p f x) = line 2 (free_word f ++ word "ensures" ∷ (expression x ++ semicolon))
spec_line (modifies p ns) = line 2 (word "modifies" ∷ (names ns ++ semicolon))

-- a `var` of several groups is one line
abbrev pub local_line : Groups → List ℕ
local_line gs = line 2 (word "var" ∷ (groups gs ++ semicolon))

abbrev pub body_lines : Body → Lines
body_lines b = line 0 (word "{" ∷ []) ∷ (map local_line b.locals ++ (statements 2 b.stmts ++ line 0 (word "}" ∷ []) ∷ []))

abbrev pub returned : Groups → List Glyph
returned no_groups = []
returned (group ns t c gs) = word "returns" ∷ opening "(" ∷ (groups (group ns t c gs) ++ closing ")" ∷ [])

abbrev pub signature : Option Params → Signature → List Glyph
signature ps s = params ps ++ opening "(" ∷ (groups s.ins ++ closing ")" ∷ returned s.outs)

abbrev pub argument : Argument → List Glyph
argument a = elim a.name [ Some n ↦ plain n.text ∷ closing ":" ∷ type a.type | None ↦ type a.type ]

abbrev pub more_arguments : List Argument → List Glyph
more_arguments [] = []
more_arguments (a ∷ rest) = closing "," ∷ (argument a ++ more_arguments rest)

abbrev pub arguments : List Argument → List Glyph
arguments [] = []
arguments (a ∷ rest) = argument a ++ more_arguments rest

abbrev pub value : Option Expr → List Glyph
value None = semicolon
value (Some x) = word "{" ∷ (expression x ++ word "}" ∷ [])

abbrev pub unique_word : Option Place → List Glyph
unique_word None = []
unique_word (Some p) = word "unique" ∷ []

abbrev pub synonym_of : Option Ty → List Glyph
synonym_of None = []
synonym_of (Some t) = word "=" ∷ type t

-- a head ends in `;` where there is no body
abbrev pub ended : Option Body → List Glyph
ended None = semicolon
ended (Some b) = []

abbrev pub optional_body : Option Body → Lines
optional_body None = []
optional_body (Some b) = body_lines b

-- the lines of all but a procedure's body
abbrev pub head_lines : DeclBody → Lines
head_lines (constant u ns t) = line 0 (word "const" ∷ (unique_word u ++ (names ns ++ closing ":" ∷ (type t ++ semicolon)))) ∷ []
head_lines (function n ps ins t b) = line 0 (word "function" ∷ prefix n.text ∷ (params ps ++ opening "(" ∷ (arguments ins ++ closing ")" ∷ closing ":" ∷ (type t ++ value b)))) ∷ []
head_lines (axiom_of x) = line 0 (word "axiom" ∷ (expression x ++ semicolon)) ∷ []
head_lines (variables gs) = line 0 (word "var" ∷ (groups gs ++ semicolon)) ∷ []
head_lines (synonym n t) = line 0 (word "type" ∷ plain n.text ∷ (synonym_of t ++ semicolon)) ∷ []
head_lines (procedure n ps s ss b) = line 0 (word "procedure" ∷ plain n.text ∷ (signature ps s ++ ended b)) ∷ map spec_line ss
head_lines (implementation n ps s b) = line 0 (word "implementation" ∷ plain n.text ∷ signature ps s) ∷ []

abbrev pub last_lines : DeclBody → Lines
last_lines (procedure n ps s ss b) = optional_body b
last_lines (implementation n ps s b) = body_lines b
last_lines d = []

-- a declaration's lines, and the text of its lines and of those without a body, each line ended by a line feed
abbrev pub lines : DeclBody → Lines
lines d = head_lines d ++ last_lines d

abbrev pub text : DeclBody → List ℕ
text d = text_of (lines d)

abbrev pub contract : DeclBody → List ℕ
contract d = text_of (head_lines d)

-- the canonical text of a program
abbrev pub program_text : List Decl → List ℕ
program_text ds = flat_map (λ (d : Decl). text d.body) ds
