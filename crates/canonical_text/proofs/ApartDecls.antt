-- The lines of declarations are lines of their tokens, which stand apart.
use Rattle.std.specs.Prelude.{◌≡◌, List, [], ◌∷◌, ◌++◌, map, Option, Some, None}
use Rattle.std.proofs.Common.{refl, ◌∙◌, subst, append_assoc}
use Rattle.bv_base.specs.declared.place.Place.{Place}
use Rattle.bpl_ast.specs.Place.{Name, Params, Ty}
use Rattle.bpl_ast.specs.Tree.{Expr, Groups, no_groups, group}
use Rattle.bpl_ast.specs.Statement.{Stmts, Spec, requires, ensures, modifies, Body, Signature, Argument, DeclBody, constant, function, axiom_of, variables, synonym, procedure, implementation}
use Rattle.canonical_text.specs.declared.level.Level.TheVariants.{Equivalence}
use Rattle.canonical_text.specs.Glyph.{Glyph, plain, word, opening, closing, prefix, line}
use Rattle.canonical_text.specs.Expression.{names, params, type, expression, groups}
use Rattle.canonical_text.specs.Lines.{Lines, semicolon, free_word, statements, spec_line, local_line, body_lines, returned, signature, argument, more_arguments, arguments, value, unique_word, synonym_of, ended, optional_body, lines}
use Rattle.canonical_text.specs.WrittenExpression.{IsName, AreParams, IsWrittenType, IsWritten, AreWrittenGroups}
use Rattle.canonical_text.specs.WrittenStatement.{AreLocals, AreWrittenStmts, IsWrittenBody, IsWrittenSpec, AreWrittenSpecs, IsWrittenSignature, IsWrittenArgument, AreWrittenArguments, IsOptional, IsWrittenDecl}
use Rattle.canonical_text.specs.Tokens.{formula_tokens, stmts_tokens, locals_tokens, body_tokens, spec_tokens, specs_tokens, optional_body_tokens, decl_tokens}
use Rattle.canonical_text.specs.Lexed.{AreLines, none}
use Rattle.canonical_text.proofs.Alone.{IsLoose, loose_name, loose_word}
use Rattle.canonical_text.proofs.Signs.{equals_loose, open_brace_loose, close_brace_loose, comma_loose, colon_spaced}
use Rattle.canonical_text.proofs.Apart.{Rest, rest_nil, rest_append, good_append, rest_loose, rest_spaced, rest_called}
use Rattle.canonical_text.proofs.ApartExprs.{good_names, good_some_params, rest_params, good_type, good_operand, rest_groups, in_round}
use Rattle.canonical_text.proofs.ApartLines.{line_then, one_line, lines_append, rest_semicolon, rest_formula, rest_free, stmts_lines, brace}
use Prim.Native.String.{String}

pub rest_word : (w : String) (gs : List Glyph) → IsLoose (word w) → Rest gs → Rest (word w ∷ gs)
rest_word w gs l r = rest_loose (word w) gs l r

-- specifications

spec_is_line : (s : Spec) (ls : Lines) (hs : List Glyph) → IsWrittenSpec s → AreLines ls hs → AreLines (spec_line s ∷ ls) (spec_tokens s ++ hs)
spec_is_line (requires p f x) ls hs w l = line_then 2 (free_word f ++ word "requires" ∷ formula_tokens x) ls hs (rest_free f (word "requires" ∷ formula_tokens x) (rest_word "requires" (formula_tokens x) (loose_word "requires" refl refl) (rest_formula x w))) l
spec_is_line (ensures p f x) ls hs w l = line_then 2 (free_word f ++ word "ensures" ∷ formula_tokens x) ls hs (rest_free f (word "ensures" ∷ formula_tokens x) (rest_word "ensures" (formula_tokens x) (loose_word "ensures" refl refl) (rest_formula x w))) l
spec_is_line (modifies p []) ls hs w l = line_then 2 (word "modifies" ∷ semicolon) ls hs (rest_word "modifies" semicolon (loose_word "modifies" refl refl) rest_semicolon) l
spec_is_line (modifies p (n ∷ ns)) ls hs w l =
    line_then 2 (word "modifies" ∷ (names (n ∷ ns) ++ semicolon)) ls hs (rest_word "modifies" (names (n ∷ ns) ++ semicolon) (loose_word "modifies" refl refl) (rest_append (names (n ∷ ns)) semicolon (good_names (n ∷ ns) w).rest rest_semicolon)) l

pub specs_lines : (ss : List Spec) → AreWrittenSpecs ss → AreLines (map spec_line ss) (specs_tokens ss)
specs_lines [] w = none
specs_lines (s ∷ ss) w = spec_is_line s (map spec_line ss) (specs_tokens ss) w.0 (specs_lines ss w.1)

-- bodies

rest_var : (gs : Groups) → AreWrittenGroups gs → Rest (word "var" ∷ (groups gs ++ semicolon))
rest_var gs w = rest_word "var" (groups gs ++ semicolon) (loose_word "var" refl refl) (rest_append (groups gs) semicolon (rest_groups gs w) rest_semicolon)

locals_lines : (gs : List Groups) → AreLocals gs → AreLines (map local_line gs) (locals_tokens gs)
locals_lines [] w = none
locals_lines (g ∷ gs) w =
    subst (λ x. AreLines (local_line g ∷ map local_line gs) (word "var" ∷ x)) (append_assoc (groups g) semicolon (locals_tokens gs))
    (line_then 2 (word "var" ∷ (groups g ++ semicolon)) (map local_line gs) (locals_tokens gs) (rest_var g w.0.1) (locals_lines gs w.1))

body_are_lines : (gs : List Groups) (ss : Stmts) → AreLocals gs → AreWrittenStmts ss → AreLines (body_lines (record { locals = gs; stmts = ss })) (body_tokens (record { locals = gs; stmts = ss }))
body_are_lines gs ss w v =
    line_then 0 (word "{" ∷ []) (map local_line gs ++ (statements 2 ss ++ line 0 (word "}" ∷ []) ∷ [])) (locals_tokens gs ++ (stmts_tokens ss ++ word "}" ∷ [])) (rest_loose (word "{") [] open_brace_loose rest_nil)
    (lines_append (locals_lines gs w) (statements 2 ss ++ line 0 (word "}" ∷ []) ∷ []) (stmts_tokens ss ++ word "}" ∷ []) (lines_append (stmts_lines ss v 2) (line 0 (word "}" ∷ []) ∷ []) (word "}" ∷ []) (brace 0)))

optional_lines : (b : Option Body) → IsOptional IsWrittenBody b → AreLines (optional_body b) (optional_body_tokens b)
optional_lines None w = none
optional_lines (Some b) w = body_are_lines b.locals b.stmts w.0 w.1

-- heads

rest_returned : (gs : Groups) → AreWrittenGroups gs → Rest (returned gs)
rest_returned no_groups w = rest_nil
rest_returned (group ns t c gs) w = rest_word "returns" (opening "(" ∷ (groups (group ns t c gs) ++ closing ")" ∷ [])) (loose_word "returns" refl refl) (in_round (groups (group ns t c gs)) [] (rest_groups (group ns t c gs) w) rest_nil)

pub rest_signature : (ps : Option Params) (s : Signature) → AreParams ps → IsWrittenSignature s → Rest (signature ps s)
rest_signature ps s w v = rest_append (params ps) (opening "(" ∷ (groups s.ins ++ closing ")" ∷ returned s.outs)) (rest_params ps w) (in_round (groups s.ins) (returned s.outs) (rest_groups s.ins v.0) (rest_returned s.outs v.1))

rest_argument : (n : Option Name) (t : Ty) → IsWrittenArgument (record { name = n; type = t }) → Rest (argument (record { name = n; type = t }))
rest_argument None t w = (good_type t w.1).rest
rest_argument (Some n) t w = rest_loose (plain n.text) (closing ":" ∷ type t) (loose_name n.text w.0) (rest_spaced (closing ":") (type t) colon_spaced (good_type t w.1))

rest_more_arguments : (xs : List Argument) → AreWrittenArguments xs → Rest (more_arguments xs)
rest_more_arguments [] w = rest_nil
rest_more_arguments (a ∷ xs) w = rest_loose (closing ",") (argument a ++ more_arguments xs) comma_loose (rest_append (argument a) (more_arguments xs) (rest_argument a.name a.type w.0) (rest_more_arguments xs w.1))

rest_arguments : (xs : List Argument) → AreWrittenArguments xs → Rest (arguments xs)
rest_arguments [] w = rest_nil
rest_arguments (a ∷ xs) w = rest_append (argument a) (more_arguments xs) (rest_argument a.name a.type w.0) (rest_more_arguments xs w.1)

rest_value : (b : Option Expr) → IsOptional IsWritten b → Rest (value b)
rest_value None w = rest_semicolon
rest_value (Some x) w = rest_loose (word "{") (expression x ++ word "}" ∷ []) open_brace_loose (rest_append (expression x) (word "}" ∷ []) (good_operand x w Equivalence None).rest (rest_loose (word "}") [] close_brace_loose rest_nil))

rest_function : (n : Name) (ps : Option Params) (gs : List Glyph) → IsName n → AreParams ps → Rest (opening "(" ∷ gs) → Rest (prefix n.text ∷ (params ps ++ opening "(" ∷ gs))
rest_function n None gs w v r = rest_called n.text (opening "(") 40 gs w refl refl r
rest_function n (Some ps) gs w v r =
    rest_called n.text (word "<") 60 ((names ps.names ++ word ">" ∷ []) ++ opening "(" ∷ gs) w refl refl (rest_append (word "<" ∷ (names ps.names ++ word ">" ∷ [])) (opening "(" ∷ gs) (good_some_params ps.names v).rest r)

rest_unique : (u : Option Place) (gs : List Glyph) → Rest gs → Rest (unique_word u ++ gs)
rest_unique None gs r = r
rest_unique (Some p) gs r = rest_word "unique" gs (loose_word "unique" refl refl) r

rest_synonym : (t : Option Ty) → IsOptional IsWrittenType t → Rest (synonym_of t)
rest_synonym None w = rest_nil
rest_synonym (Some t) w = rest_loose (word "=") (type t) equals_loose (good_type t w).rest

pub rest_ended : (b : Option Body) → Rest (ended b)
rest_ended None = rest_semicolon
rest_ended (Some b) = rest_nil

-- declarations

typed : (t : Ty) (gs : List Glyph) → IsWrittenType t → Rest gs → Rest (closing ":" ∷ (type t ++ gs))
typed t gs w r = rest_spaced (closing ":") (type t ++ gs) colon_spaced (good_append (type t) gs (good_type t w) r)

procedure_shape : (g h i j k : List Glyph) → ((g ++ h) ++ i) ++ j ≡ g ++ (h ++ (i ++ j))
procedure_shape g h i j k = append_assoc (g ++ h) i j ∙ append_assoc g h (i ++ j)

pub decl_lines : (d : DeclBody) → IsWrittenDecl d → AreLines (lines d) (decl_tokens d)
decl_lines (constant u ns t) w =
    one_line 0 (decl_tokens (constant u ns t)) (rest_word "const" (unique_word u ++ (names ns ++ closing ":" ∷ (type t ++ semicolon))) (loose_word "const" refl refl)
    (rest_unique u (names ns ++ closing ":" ∷ (type t ++ semicolon)) (rest_append (names ns) (closing ":" ∷ (type t ++ semicolon)) (good_names ns w.0).rest (typed t semicolon w.1 rest_semicolon))))
decl_lines (function n ps ins t b) w =
    one_line 0 (decl_tokens (function n ps ins t b)) (rest_word "function" (prefix n.text ∷ (params ps ++ opening "(" ∷ (arguments ins ++ closing ")" ∷ closing ":" ∷ (type t ++ value b)))) (loose_word "function" refl refl)
    (rest_function n ps (arguments ins ++ closing ")" ∷ closing ":" ∷ (type t ++ value b)) w.0 w.1 (in_round (arguments ins) (closing ":" ∷ (type t ++ value b)) (rest_arguments ins w.2) (typed t (value b) w.3 (rest_value b w.4)))))
decl_lines (axiom_of x) w = one_line 0 (word "axiom" ∷ formula_tokens x) (rest_word "axiom" (formula_tokens x) (loose_word "axiom" refl refl) (rest_formula x w))
decl_lines (variables gs) w = one_line 0 (word "var" ∷ (groups gs ++ semicolon)) (rest_var gs w.1)
decl_lines (synonym n t) w =
    one_line 0 (decl_tokens (synonym n t)) (rest_word "type" (plain n.text ∷ (synonym_of t ++ semicolon)) (loose_word "type" refl refl) (rest_loose (plain n.text) (synonym_of t ++ semicolon) (loose_name n.text w.0) (rest_append (synonym_of t) semicolon (rest_synonym t w.1) rest_semicolon)))
decl_lines (procedure n ps s ss b) w =
    subst (λ x. AreLines (lines (procedure n ps s ss b)) (word "procedure" ∷ plain n.text ∷ x)) (procedure_shape (signature ps s) (ended b) (specs_tokens ss) (optional_body_tokens b) [])
    (lines_append (line_then 0 (word "procedure" ∷ plain n.text ∷ (signature ps s ++ ended b)) (map spec_line ss) (specs_tokens ss)
    (rest_word "procedure" (plain n.text ∷ (signature ps s ++ ended b)) (loose_word "procedure" refl refl) (rest_loose (plain n.text) (signature ps s ++ ended b) (loose_name n.text w.0) (rest_append (signature ps s) (ended b) (rest_signature ps s w.1 w.2) (rest_ended b))))
    (specs_lines ss w.3)) (optional_body b) (optional_body_tokens b) (optional_lines b w.4))
decl_lines (implementation n ps s b) w =
    line_then 0 (word "implementation" ∷ plain n.text ∷ signature ps s) (body_lines b) (body_tokens b) (rest_word "implementation" (plain n.text ∷ signature ps s) (loose_word "implementation" refl refl) (rest_loose (plain n.text) (signature ps s) (loose_name n.text w.0) (rest_signature ps s w.1 w.2)))
    (body_are_lines b.locals b.stmts w.3.0 w.3.1)
