-- The canonical text doesn't depend on places and spans.
use Rattle.std.specs.Prelude.{◌≡◌, ℕ, ◌+◌, List, [], ◌∷◌, ◌++◌, map, flat_map, Option, Some, None, option_map}
use Rattle.std.proofs.Common.{refl, ap, sym, ◌∙◌}
use Rattle.bv_base.specs.declared.place.Place.{Place}
use Rattle.bpl_ast.specs.Place.{Name, Params, Ty}
use Rattle.bpl_ast.specs.Tree.{Expr, Exprs, no_exprs, item, Groups, no_groups, group}
use Rattle.bpl_ast.specs.Statement.{Target, Guard, Invariant, Stmt, stmt, Action, assert, assume, havoc, assign, call, branches, loop, «break», «return», goto, Branches, branch, otherwise, no_branch, Stmts, no_stmts, next, Spec, requires, ensures, modifies, Body, Signature, Argument, DeclBody, constant, function, axiom_of, variables, synonym, procedure, implementation, Decl}
use Rattle.canonical_text.specs.declared.level.Level.TheVariants.{Equivalence}
use Rattle.canonical_text.specs.Glyph.{Glyph, plain, word, opening, closing, prefix, index, line}
use Rattle.canonical_text.specs.Expression.{expression}
use Rattle.canonical_text.specs.Lines.{semicolon, free_word, entries, more_targets, targets, guard, outs, labels, label, invariant_line, braced, statement, action, chain, others, statements, spec_line, local_line, body_lines, returned, signature, argument, more_arguments, arguments, value, unique_word, synonym_of, ended, optional_body, lines, text, program_text}
use Rattle.canonical_text.specs.Same.{start, bare_name, bare_names, bare_params, bare_type, bare, bare_exprs, bare_groups}
use Rattle.canonical_text.specs.SameStatement.{bare_target, bare_invariant, bare_stmt, bare_action, bare_branches, bare_stmts, bare_spec, bare_body, bare_signature, bare_argument, bare_decl}
use Rattle.canonical_text.specs.RoundTrip.{SameProgramsHaveOneText}
use Rattle.canonical_text.proofs.SameParens.{names_same, params_same, type_same, operand_same, groups_same, listed_same}

expression_same : (x : Expr) → expression (bare x) ≡ expression x
expression_same x = operand_same x Equivalence None

entries_same : (xs : Exprs) → entries (bare_exprs xs) ≡ entries xs
entries_same no_exprs = refl
entries_same (item x xs) = λ i. index ∷ (expression_same x i ++ closing "]" ∷ entries_same xs i)

more_targets_same : (ts : List Target) → more_targets (map bare_target ts) ≡ more_targets ts
more_targets_same [] = refl
more_targets_same (t ∷ ts) = λ i. closing "," ∷ plain t.name.text ∷ (entries_same t.indices i ++ more_targets_same ts i)

targets_same : (ts : List Target) → targets (map bare_target ts) ≡ targets ts
targets_same [] = refl
targets_same (t ∷ ts) = λ i. plain t.name.text ∷ (entries_same t.indices i ++ more_targets_same ts i)

guard_same : (g : Guard) → guard (option_map bare g) ≡ guard g
guard_same None = refl
guard_same (Some x) = λ i. opening "(" ∷ (expression_same x i ++ closing ")" ∷ [])

outs_same : (ns : List Name) → outs (bare_names ns) ≡ outs ns
outs_same [] = refl
outs_same (n ∷ ns) = λ i. names_same (n ∷ ns) i ++ word ":=" ∷ []

labels_same : (ns : List Name) → labels (bare_names ns) ≡ labels ns
labels_same [] = refl
labels_same (n ∷ ns) = λ i. plain n.text ∷ closing ":" ∷ labels_same ns i

label_same : (l : Option Name) → label (option_map bare_name l) ≡ label l
label_same None = refl
label_same (Some n) = refl

invariants_same : (n : ℕ) (is : List Invariant) → map (invariant_line n) (map bare_invariant is) ≡ map (invariant_line n) is
invariants_same n [] = refl
invariants_same n (j ∷ is) = λ i. line n (free_word j.free ++ word "invariant" ∷ (expression_same j.formula i ++ semicolon)) ∷ invariants_same n is i

mutual
  stmt_same : (s : Stmt) (n : ℕ) → statement n (bare_stmt s) ≡ statement n s
  stmt_same (stmt ls p a) n = (λ i. action n (labels_same ls i) (bare_action a)) ∙ action_same a n (labels ls)

  action_same : (a : Action) (n : ℕ) (ls : List Glyph) → action n ls (bare_action a) ≡ action n ls a
  action_same (assert x) n ls = λ i. line n (ls ++ word "assert" ∷ (expression_same x i ++ semicolon)) ∷ []
  action_same (assume x) n ls = λ i. line n (ls ++ word "assume" ∷ (expression_same x i ++ semicolon)) ∷ []
  action_same (havoc ns) n ls = λ i. line n (ls ++ word "havoc" ∷ (names_same ns i ++ semicolon)) ∷ []
  action_same (assign ts xs) n ls = λ i. line n (ls ++ (targets_same ts i ++ word ":=" ∷ (listed_same xs i ++ semicolon))) ∷ []
  action_same (call ns f xs) n ls = λ i. line n (ls ++ word "call" ∷ (outs_same ns i ++ prefix f.text ∷ opening "(" ∷ (listed_same xs i ++ closing ")" ∷ semicolon))) ∷ []
  action_same (branches bs) n ls = chain_same bs n ls
  action_same (loop g is ss) n ls = λ i. line n (ls ++ word "while" ∷ guard_same g i) ∷ (invariants_same (n + 2) is i ++ braced n (stmts_same ss (n + 2) i))
  action_same («break» l) n ls = λ i. line n (ls ++ word "break" ∷ (label_same l i ++ semicolon)) ∷ []
  action_same «return» n ls = refl
  action_same (goto ns) n ls = λ i. line n (ls ++ word "goto" ∷ (names_same ns i ++ semicolon)) ∷ []

  chain_same : (bs : Branches) (n : ℕ) (ls : List Glyph) → chain n ls (bare_branches bs) ≡ chain n ls bs
  chain_same (branch p g ss bs) n ls = λ i. line n (ls ++ word "if" ∷ guard_same g i) ∷ (braced n (stmts_same ss (n + 2) i) ++ others_same bs n i)
  chain_same (otherwise ss) n ls = refl
  chain_same no_branch n ls = refl

  others_same : (bs : Branches) (n : ℕ) → others n (bare_branches bs) ≡ others n bs
  others_same (branch p g ss bs) n = λ i. line n (word "else" ∷ []) ∷ line n (word "if" ∷ guard_same g i) ∷ (braced n (stmts_same ss (n + 2) i) ++ others_same bs n i)
  others_same (otherwise ss) n = λ i. line n (word "else" ∷ []) ∷ braced n (stmts_same ss (n + 2) i)
  others_same no_branch n = refl

  stmts_same : (ss : Stmts) (n : ℕ) → statements n (bare_stmts ss) ≡ statements n ss
  stmts_same no_stmts n = refl
  stmts_same (next s ss) n = λ i. stmt_same s n i ++ stmts_same ss n i

specs_same : (ss : List Spec) → map spec_line (map bare_spec ss) ≡ map spec_line ss
specs_same [] = refl
specs_same (requires p f x ∷ ss) = λ i. line 2 (free_word f ++ word "requires" ∷ (expression_same x i ++ semicolon)) ∷ specs_same ss i
specs_same (ensures p f x ∷ ss) = λ i. line 2 (free_word f ++ word "ensures" ∷ (expression_same x i ++ semicolon)) ∷ specs_same ss i
specs_same (modifies p ns ∷ ss) = λ i. line 2 (word "modifies" ∷ (names_same ns i ++ semicolon)) ∷ specs_same ss i

locals_same : (gs : List Groups) → map local_line (map bare_groups gs) ≡ map local_line gs
locals_same [] = refl
locals_same (g ∷ gs) = λ i. line 2 (word "var" ∷ (groups_same g i ++ semicolon)) ∷ locals_same gs i

body_same : (b : Body) → body_lines (bare_body b) ≡ body_lines b
body_same b = λ i. line 0 (word "{" ∷ []) ∷ (locals_same b.locals i ++ (stmts_same b.stmts 2 i ++ line 0 (word "}" ∷ []) ∷ []))

optional_body_same : (b : Option Body) → optional_body (option_map bare_body b) ≡ optional_body b
optional_body_same None = refl
optional_body_same (Some b) = body_same b

ended_same : (b : Option Body) → ended (option_map bare_body b) ≡ ended b
ended_same None = refl
ended_same (Some b) = refl

returned_same : (gs : Groups) → returned (bare_groups gs) ≡ returned gs
returned_same no_groups = refl
returned_same (group ns t c gs) = λ i. word "returns" ∷ opening "(" ∷ (groups_same (group ns t c gs) i ++ closing ")" ∷ [])

signature_same : (ps : Option Params) (s : Signature) → signature (bare_params ps) (bare_signature s) ≡ signature ps s
signature_same ps s = λ i. params_same ps i ++ opening "(" ∷ (groups_same s.ins i ++ closing ")" ∷ returned_same s.outs i)

argument_same : (n : Option Name) (t : Ty) → argument (bare_argument (record { name = n; type = t })) ≡ argument (record { name = n; type = t })
argument_same None t = type_same t
argument_same (Some n) t = λ i. plain n.text ∷ closing ":" ∷ type_same t i

more_arguments_same : (xs : List Argument) → more_arguments (map bare_argument xs) ≡ more_arguments xs
more_arguments_same [] = refl
more_arguments_same (a ∷ xs) = λ i. closing "," ∷ (argument_same a.name a.type i ++ more_arguments_same xs i)

arguments_same : (xs : List Argument) → arguments (map bare_argument xs) ≡ arguments xs
arguments_same [] = refl
arguments_same (a ∷ xs) = λ i. argument_same a.name a.type i ++ more_arguments_same xs i

value_same : (b : Option Expr) → value (option_map bare b) ≡ value b
value_same None = refl
value_same (Some x) = λ i. word "{" ∷ (expression_same x i ++ word "}" ∷ [])

unique_same : (u : Option Place) → unique_word (option_map (λ p. start) u) ≡ unique_word u
unique_same None = refl
unique_same (Some p) = refl

synonym_same : (t : Option Ty) → synonym_of (option_map bare_type t) ≡ synonym_of t
synonym_same None = refl
synonym_same (Some t) = λ i. word "=" ∷ type_same t i

lines_same : (d : DeclBody) → lines (bare_decl d) ≡ lines d
lines_same (constant u ns t) = λ i. line 0 (word "const" ∷ (unique_same u i ++ (names_same ns i ++ closing ":" ∷ (type_same t i ++ semicolon)))) ∷ []
lines_same (function n ps ins t b) = λ i. line 0 (word "function" ∷ prefix n.text ∷ (params_same ps i ++ opening "(" ∷ (arguments_same ins i ++ closing ")" ∷ closing ":" ∷ (type_same t i ++ value_same b i)))) ∷ []
lines_same (axiom_of x) = λ i. line 0 (word "axiom" ∷ (expression_same x i ++ semicolon)) ∷ []
lines_same (variables gs) = λ i. line 0 (word "var" ∷ (groups_same gs i ++ semicolon)) ∷ []
lines_same (synonym n t) = λ i. line 0 (word "type" ∷ plain n.text ∷ (synonym_same t i ++ semicolon)) ∷ []
lines_same (procedure n ps s ss b) = λ i. (line 0 (word "procedure" ∷ plain n.text ∷ (signature_same ps s i ++ ended_same b i)) ∷ specs_same ss i) ++ optional_body_same b i
lines_same (implementation n ps s b) = λ i. (line 0 (word "implementation" ∷ plain n.text ∷ signature_same ps s i) ∷ []) ++ body_same b i

-- programs

text_same : (d : DeclBody) → text (bare_decl d) ≡ text d
text_same d = λ i. flat_map (λ l. l ++ 10 ∷ []) (lines_same d i)

bare_texts : (ds : List Decl) → flat_map text (map (λ d. bare_decl d.body) ds) ≡ program_text ds
bare_texts [] = refl
bare_texts (d ∷ ds) = λ i. text_same d.body i ++ bare_texts ds i

pub one_text : SameProgramsHaveOneText
one_text = λ ds es h. sym (bare_texts ds) ∙ (ap (flat_map text) h.1 ∙ bare_texts es)
