-- Declarations and programs fit the grammar.
use Rattle.std.specs.Prelude.{◌≡◌, ℕ, zero, suc, max, ◌≤◌, nat_lt, Bool, true, false, List, [], ◌∷◌, ◌++◌, Option, Some, None, codes}
use Rattle.std.proofs.Common.{refl, subst, sym, arith, append_assoc, append-nil}
use Rattle.bv_base.specs.declared.place.Place.{Place}
use Rattle.bpl_lex.specs.Token.{id}
use Rattle.bpl_ast.specs.Place.{Name, Params, Ty}
use Rattle.bpl_ast.specs.Tree.{Expr, Groups, no_groups, group}
use Rattle.bpl_ast.specs.Statement.{Stmts, Spec, requires, ensures, modifies, Body, Signature, Argument, DeclBody, constant, function, axiom_of, variables, synonym, procedure, implementation, Decl, axioms_with}
use Rattle.canonical_text.specs.Glyph.{Glyph, plain, word, opening, closing}
use Rattle.canonical_text.specs.Expression.{names, params, type, expression, groups as groups_tokens}
use Rattle.canonical_text.specs.Lines.{semicolon, returned, signature, argument, more_arguments, arguments, value, unique_word, synonym_of, ended}
use Rattle.bpl_grammar.specs.Part.{Part, some, ◌⨟◌, ◌∣◌, maybe, many, rule, program, decl, var, groups, ids, farg, sig, spec, body, stmt, type as type_rule, tpar, e}
use Rattle.bpl_grammar.specs.Grammar.{the, listed, round, curly, attrs}
use Rattle.canonical_text.specs.WrittenExpression.{IsName, AreNames, AreParams, IsWrittenType, IsWritten, AreWrittenGroups}
use Rattle.canonical_text.specs.WrittenStatement.{SomeGroups, AreLocals, AreWrittenStmts, IsWrittenBody, IsWrittenSpec, AreWrittenSpecs, IsWrittenSignature, IsWrittenArgument, AreWrittenArguments, IsOptional, IsWrittenDecl}
use Rattle.canonical_text.specs.Nestings.{type_depth, expression_depth, groups_depth}
use Rattle.canonical_text.specs.StatementNestings.{raised, stmts_depth, locals_depth, body_depth, spec_depth, specs_depth, arguments_depth, signature_depth, optional_depth, decl_depth}
use Rattle.canonical_text.specs.Tokens.{formula_tokens, stmts_tokens, locals_tokens, body_tokens, spec_tokens, specs_tokens, optional_body_tokens, decl_tokens}
use Rattle.canonical_text.specs.RoundTrip.{AreWrittenDecls, program_tokens}
use Rattle.canonical_text.proofs.Stopping.{lt_true, lt_false}
use Rattle.canonical_text.proofs.Fitting.{Fit, Slack, slack_none, slack_absent, slack_inside, slack_empty_inside, fit_less, fit_left, fit_right, fit_present, fit_by, slack_by, fit_text, seq, seq_fits, seq_slack, slack_fits, once_more, loosely}
use Rattle.canonical_text.proofs.FitTypes.{fit_name, fit_called, fit_names, slack_params, fit_bracketed, round_then, fit_type}
use Rattle.canonical_text.proofs.FitExprs.{behind_sign}
use Rattle.canonical_text.proofs.FitBound.{fit_expression, fit_groups}
use Rattle.canonical_text.proofs.FitStmts.{fit_semicolon, no_attrs, fit_plainly, fit_ended, fit_formula, slack_free, slack_stmts, each_stmt}

-- variables

fit_var : (gs : Groups) → SomeGroups gs → Fit (rule var) (word "var" ∷ (groups_tokens gs ++ semicolon)) (groups_depth gs)
fit_var gs w = fit_by var _ _ (behind_sign (word "var") (codes "var") (λ p. refl) (attrs ⨟ rule groups ⨟ the ";") (groups_tokens gs ++ semicolon) (groups_depth gs) (fit_plainly (rule groups ⨟ the ";") _ _ (fit_ended (rule groups) (groups_tokens gs) (groups_depth gs) (fit_groups gs w.0 w.1))))

slack_locals : (gs : List Groups) → AreLocals gs → Slack (many (rule var)) (locals_tokens gs) (locals_depth gs)
slack_locals [] w = slack_none (rule var)
slack_locals (g ∷ gs) w =
    subst (λ x. Slack (many (rule var)) (word "var" ∷ x) (locals_depth (g ∷ gs))) (append_assoc (groups_tokens g) semicolon (locals_tokens gs)) (once_more (fit_var g w.0) (slack_locals gs w.1))

fit_body : (gs : List Groups) (ss : Stmts) → AreLocals gs → AreWrittenStmts ss → Fit (rule body) (body_tokens (record { locals = gs; stmts = ss })) (body_depth (record { locals = gs; stmts = ss }))
fit_body gs ss w v =
    fit_by body _ _ (subst (λ x. Fit (curly (many (rule var) ⨟ many (rule stmt))) (word "{" ∷ x) (raised (max (locals_depth gs) (stmts_depth ss)))) (append_assoc (locals_tokens gs) (stmts_tokens ss) (word "}" ∷ []))
    (fit_less (curly (many (rule var) ⨟ many (rule stmt))) (word "{" ∷ ((locals_tokens gs ++ stmts_tokens ss) ++ word "}" ∷ [])) (max 0 (max (raised (max (locals_depth gs) (stmts_depth ss))) 0)) (raised (max (locals_depth gs) (stmts_depth ss))) (omega arith)
    (seq_fits (fit_text (word "{") (codes "{") (λ p. refl)) (slack_fits (slack_inside (many (rule var) ⨟ many (rule stmt)) _ _ (seq_slack (slack_locals gs w) (slack_stmts ss (each_stmt ss v)))) (fit_text (word "}") (codes "}") (λ p. refl))))))

-- signatures

-- in parentheses, where nothing may stand
optional_round : (p : Part) (gs : List Glyph) (d : ℕ) → Slack (maybe p) gs d → Fit (round (maybe p)) (opening "(" ∷ (gs ++ closing ")" ∷ [])) (raised d)
optional_round p gs d f =
    fit_less (round (maybe p)) (opening "(" ∷ (gs ++ closing ")" ∷ [])) (max 0 (max (raised d) 0)) (raised d) (omega arith)
    (seq_fits (fit_text (opening "(") (codes "(") (λ q. refl)) (slack_fits (slack_inside (maybe p) gs d f) (fit_text (closing ")") (codes ")") (λ q. refl))))

slack_groups : (gs : Groups) → AreWrittenGroups gs → Slack (maybe (rule groups)) (groups_tokens gs) (groups_depth gs)
slack_groups no_groups w = slack_absent (rule groups)
slack_groups (group ns t c gs) w = loosely (fit_present (rule groups) _ _ (fit_groups (group ns t c gs) refl w))

slack_returned : (gs : Groups) → AreWrittenGroups gs → Slack (maybe (the "returns" ⨟ round (maybe (rule groups)))) (returned gs) (raised (groups_depth gs))
slack_returned no_groups w = slack_absent (the "returns" ⨟ round (maybe (rule groups)))
slack_returned (group ns t c gs) w =
    loosely (fit_present (the "returns" ⨟ round (maybe (rule groups))) _ _ (behind_sign (word "returns") (codes "returns") (λ q. refl) (round (maybe (rule groups))) (opening "(" ∷ (groups_tokens (group ns t c gs) ++ closing ")" ∷ [])) (raised (groups_depth (group ns t c gs)))
    (optional_round (rule groups) (groups_tokens (group ns t c gs)) (groups_depth (group ns t c gs)) (slack_groups (group ns t c gs) w))))

raised_grows : (m n : ℕ) → m ≤ n → raised m ≤ raised n
raised_grows zero n h = omega arith
raised_grows (suc m) zero h = absurd (omega (arith, h))
raised_grows (suc m) (suc n) h = omega (arith, h)

raised_max : (a b : ℕ) → raised (max a b) ≤ max (raised a) (raised b)
raised_max a b = side (nat_lt a b) refl
  where
    side : (c : Bool) → nat_lt a b ≡ c → raised (max a b) ≤ max (raised a) (raised b)
    side true h = omega (arith, raised_grows (max a b) b (omega (arith, lt_true a b h)))
    side false h = omega (arith, raised_grows (max a b) a (omega (arith, lt_false a b h)))

fit_signature : (s : Signature) → IsWrittenSignature s → Fit (rule sig) (opening "(" ∷ (groups_tokens s.ins ++ closing ")" ∷ returned s.outs)) (signature_depth s)
fit_signature s w =
    fit_by sig _ _ (fit_less (round (maybe (rule groups)) ⨟ maybe (the "returns" ⨟ round (maybe (rule groups)))) (opening "(" ∷ (groups_tokens s.ins ++ closing ")" ∷ returned s.outs)) (max (raised (groups_depth s.ins)) (raised (groups_depth s.outs))) (signature_depth s) (raised_max (groups_depth s.ins) (groups_depth s.outs))
    (subst (λ x. Fit (round (maybe (rule groups)) ⨟ maybe (the "returns" ⨟ round (maybe (rule groups)))) (opening "(" ∷ x) (max (raised (groups_depth s.ins)) (raised (groups_depth s.outs)))) (append_assoc (groups_tokens s.ins) (closing ")" ∷ []) (returned s.outs))
    (seq (optional_round (rule groups) (groups_tokens s.ins) (groups_depth s.ins) (slack_groups s.ins w.0)) (slack_returned s.outs w.1))))

-- specifications

abbrev condition_part : Part
condition_part = maybe (the "free") ⨟ (the "requires" ∣ the "ensures") ⨟ attrs ⨟ rule e ⨟ the ";"

abbrev modifies_part : Part
modifies_part = the "modifies" ⨟ maybe (rule ids) ⨟ the ";"

fit_spec : (s : Spec) → IsWrittenSpec s → Fit (rule spec) (spec_tokens s) (spec_depth s)
fit_spec (requires p f x) w =
    fit_by spec _ _ (fit_left condition_part modifies_part _ _ (fit_less condition_part (spec_tokens (requires p f x)) (max 0 (max 0 (expression_depth x))) (expression_depth x) (omega arith)
    (slack_fits (slack_free f) (seq_fits (fit_left (the "requires") (the "ensures") _ _ (fit_text (word "requires") (codes "requires") (λ q. refl))) (fit_formula x w)))))
fit_spec (ensures p f x) w =
    fit_by spec _ _ (fit_left condition_part modifies_part _ _ (fit_less condition_part (spec_tokens (ensures p f x)) (max 0 (max 0 (expression_depth x))) (expression_depth x) (omega arith)
    (slack_fits (slack_free f) (seq_fits (fit_right (the "requires") (the "ensures") _ _ (fit_text (word "ensures") (codes "ensures") (λ q. refl))) (fit_formula x w)))))
fit_spec (modifies p ns) w = fit_by spec _ _ (fit_right condition_part modifies_part _ _ (seq_fits (fit_text (word "modifies") (codes "modifies") (λ q. refl)) (slack_fits (some_names ns w) fit_semicolon)))
  where
    some_names : (ns : List Name) → AreNames ns → Slack (maybe (rule ids)) (names ns) 0
    some_names [] w = slack_absent (rule ids)
    some_names (n ∷ ns) w = loosely (fit_present (rule ids) _ _ (fit_names (n ∷ ns) w))

slack_specs : (ss : List Spec) → AreWrittenSpecs ss → Slack (many (rule spec)) (specs_tokens ss) (specs_depth ss)
slack_specs [] w = slack_none (rule spec)
slack_specs (s ∷ ss) w = once_more (fit_spec s w.0) (slack_specs ss w.1)

-- functions

fit_argument : (n : Option Name) (t : Ty) → IsWrittenArgument (record { name = n; type = t }) → Fit (rule farg) (argument (record { name = n; type = t })) (type_depth t)
fit_argument None t w = fit_by farg _ _ (fit_less (maybe (some id ⨟ the ":") ⨟ rule type_rule) (type t) (max 0 (type_depth t)) (type_depth t) (omega arith) (slack_fits (slack_absent (some id ⨟ the ":")) (fit_type t w.1)))
fit_argument (Some n) t w =
    fit_by farg _ _ (fit_less (maybe (some id ⨟ the ":") ⨟ rule type_rule) (argument (record { name = Some n; type = t })) (max 0 (type_depth t)) (type_depth t) (omega arith)
    (seq_fits (fit_present (some id ⨟ the ":") _ _ (seq_fits (fit_name n w.0) (fit_text (closing ":") (codes ":") (λ p. refl)))) (fit_type t w.1)))

-- the deepest of their types
abbrev types_within : List Argument → ℕ
types_within [] = 0
types_within (a ∷ xs) = max (type_depth a.type) (types_within xs)

arguments_is : (xs : List Argument) → arguments_depth xs ≤ suc (types_within xs)
arguments_is [] = omega arith
arguments_is (a ∷ xs) = omega (arith, arguments_is xs)

slack_more_arguments : (xs : List Argument) → AreWrittenArguments xs → Slack (many (the "," ⨟ rule farg)) (more_arguments xs) (types_within xs)
slack_more_arguments [] w = slack_none (the "," ⨟ rule farg)
slack_more_arguments (a ∷ xs) w = once_more (behind_sign (closing ",") (codes ",") (λ p. refl) (rule farg) (argument a) (type_depth a.type) (fit_argument a.name a.type w.0)) (slack_more_arguments xs w.1)

inputs_then : (q : Part) (hs : List Glyph) (b : ℕ) (xs : List Argument) → AreWrittenArguments xs → Slack q hs b → Fit (round (maybe (listed (rule farg))) ⨟ q) (opening "(" ∷ (arguments xs ++ closing ")" ∷ hs)) (max (arguments_depth xs) b)
inputs_then q hs b [] w g = seq (seq_fits (fit_text (opening "(") (codes "(") (λ p. refl)) (slack_fits (slack_empty_inside (maybe (listed (rule farg))) (slack_absent (listed (rule farg)))) (fit_text (closing ")") (codes ")") (λ p. refl)))) g
inputs_then q hs b (a ∷ xs) w g =
    fit_less (round (maybe (listed (rule farg))) ⨟ q) (opening "(" ∷ (arguments (a ∷ xs) ++ closing ")" ∷ hs)) (max (suc (types_within (a ∷ xs))) b) (max (arguments_depth (a ∷ xs)) b) (omega (arith, arguments_is (a ∷ xs)))
    (round_then (maybe (listed (rule farg))) q (arguments (a ∷ xs)) hs (types_within (a ∷ xs)) b (fit_present (listed (rule farg)) _ _ (seq (fit_argument a.name a.type w.0) (slack_more_arguments xs w.1))) g)

abbrev value_part : Part
value_part = curly (rule e) ∣ the ";"

fit_value : (b : Option Expr) → IsOptional IsWritten b → Fit value_part (value b) (optional_depth (λ x. suc (expression_depth x)) b)
fit_value None w = fit_right (curly (rule e)) (the ";") _ _ fit_semicolon
fit_value (Some x) w = fit_left (curly (rule e)) (the ";") _ _ (fit_bracketed (word "{") (word "}") (codes "{") (codes "}") (λ q. refl) (λ q. refl) (rule e) (expression x) (expression_depth x) (fit_expression x w))

abbrev output_part : Part
output_part = the "returns" ⨟ round (rule farg) ∣ the ":" ⨟ rule type_rule

fit_output : (t : Ty) → IsWrittenType t → Fit output_part (closing ":" ∷ type t) (type_depth t)
fit_output t w = fit_right (the "returns" ⨟ round (rule farg)) (the ":" ⨟ rule type_rule) _ _ (behind_sign (closing ":") (codes ":") (λ q. refl) (rule type_rule) (type t) (type_depth t) (fit_type t w))

-- declarations, by their place among the alternatives

abbrev const_part : Part
const_part = the "const" ⨟ attrs ⨟ maybe (the "unique") ⨟ rule ids ⨟ the ":" ⨟ rule type_rule ⨟ the ";"

abbrev function_part : Part
function_part = the "function" ⨟ attrs ⨟ some id ⨟ maybe (rule tpar) ⨟ round (maybe (listed (rule farg))) ⨟ output_part ⨟ value_part

abbrev axiom_part : Part
axiom_part = the "axiom" ⨟ attrs ⨟ rule e ⨟ the ";"

abbrev type_part : Part
type_part = the "type" ⨟ attrs ⨟ some id ⨟ maybe (the "=" ⨟ rule type_rule) ⨟ the ";"

abbrev contract_part : Part
contract_part = the ";" ⨟ many (rule spec) ∣ many (rule spec) ⨟ rule body

abbrev procedure_part : Part
procedure_part = the "procedure" ⨟ attrs ⨟ some id ⨟ maybe (rule tpar) ⨟ rule sig ⨟ contract_part

slack_unique : (u : Option Place) → Slack (maybe (the "unique")) (unique_word u) 0
slack_unique None = slack_absent (the "unique")
slack_unique (Some p) = loosely (fit_present (the "unique") _ _ (fit_text (word "unique") (codes "unique") (λ q. refl)))

slack_synonym : (t : Option Ty) → IsOptional IsWrittenType t → Slack (maybe (the "=" ⨟ rule type_rule)) (synonym_of t) (optional_depth type_depth t)
slack_synonym None w = slack_absent (the "=" ⨟ rule type_rule)
slack_synonym (Some t) w = loosely (fit_present (the "=" ⨟ rule type_rule) _ _ (behind_sign (word "=") (codes "=") (λ q. refl) (rule type_rule) (type t) (type_depth t) (fit_type t w)))

fit_contract : (ss : List Spec) (b : Option Body) → AreWrittenSpecs ss → IsOptional IsWrittenBody b → Fit contract_part (ended b ++ (specs_tokens ss ++ optional_body_tokens b)) (max (specs_depth ss) (optional_depth body_depth b))
fit_contract ss None w v =
    fit_left (the ";" ⨟ many (rule spec)) (many (rule spec) ⨟ rule body) _ _ (fit_less (the ";" ⨟ many (rule spec)) (closing ";" ∷ (specs_tokens ss ++ [])) (max 0 (specs_depth ss)) (max (specs_depth ss) 0) (omega arith)
    (seq fit_semicolon (subst (λ x. Slack (many (rule spec)) x (specs_depth ss)) (sym (append-nil (specs_tokens ss))) (slack_specs ss w))))
fit_contract ss (Some b) w v = fit_right (the ";" ⨟ many (rule spec)) (many (rule spec) ⨟ rule body) _ _ (slack_fits (slack_specs ss w) (fit_body b.locals b.stmts v.0 v.1))

-- type parameters, and a signature
signature_shape : (ps : Option Params) (s : Signature) (hs : List Glyph) → signature ps s ++ hs ≡ params ps ++ ((opening "(" ∷ (groups_tokens s.ins ++ closing ")" ∷ returned s.outs)) ++ hs)
signature_shape ps s hs = append_assoc (params ps) (opening "(" ∷ (groups_tokens s.ins ++ closing ")" ∷ returned s.outs)) hs

fit_head : (n : Name) (ps : Option Params) (s : Signature) (q : Part) (hs : List Glyph) (b : ℕ) → IsName n → AreParams ps → IsWrittenSignature s → Fit q hs b → Fit (attrs ⨟ some id ⨟ maybe (rule tpar) ⨟ rule sig ⨟ q) (plain n.text ∷ (signature ps s ++ hs)) (max (signature_depth s) b)
fit_head n ps s q hs b w v u f =
    subst (λ x. Fit (attrs ⨟ some id ⨟ maybe (rule tpar) ⨟ rule sig ⨟ q) (plain n.text ∷ x) (max (signature_depth s) b)) (sym (signature_shape ps s hs))
    (fit_less (attrs ⨟ some id ⨟ maybe (rule tpar) ⨟ rule sig ⨟ q) (plain n.text ∷ (params ps ++ ((opening "(" ∷ (groups_tokens s.ins ++ closing ")" ∷ returned s.outs)) ++ hs))) (max 0 (max 0 (max 0 (max (signature_depth s) b)))) (max (signature_depth s) b) (omega arith)
    (slack_fits no_attrs (seq_fits (fit_name n w) (slack_fits (slack_params ps v) (seq_fits (fit_signature s u) f)))))

fit_decl : (d : DeclBody) → IsWrittenDecl d → Fit (rule decl) (decl_tokens d) (decl_depth d)
fit_decl (constant u ns t) w =
    fit_by decl _ _ (fit_left const_part _ _ _ (fit_less const_part (decl_tokens (constant u ns t)) (max 0 (max 0 (max 0 (max 0 (max 0 (max (type_depth t) 0)))))) (type_depth t) (omega arith)
    (seq_fits (fit_text (word "const") (codes "const") (λ q. refl)) (slack_fits no_attrs (slack_fits (slack_unique u) (seq_fits (fit_names ns w.0) (seq_fits (fit_text (closing ":") (codes ":") (λ q. refl)) (seq_fits (fit_type t w.1) fit_semicolon))))))))
fit_decl (function n ps ins t b) w =
    fit_by decl _ _ (fit_right const_part _ _ _ (fit_left function_part _ _ _
    (fit_less function_part (decl_tokens (function n ps ins t b)) (max 0 (max 0 (max 0 (max 0 (max (arguments_depth ins) (max (type_depth t) (optional_depth (λ x. suc (expression_depth x)) b))))))) (decl_depth (function n ps ins t b)) (omega arith)
    (seq_fits (fit_text (word "function") (codes "function") (λ q. refl)) (slack_fits no_attrs (seq_fits (fit_called n w.0) (slack_fits (slack_params ps w.1) (inputs_then (output_part ⨟ value_part) (closing ":" ∷ (type t ++ value b)) (max (type_depth t) (optional_depth (λ x. suc (expression_depth x)) b)) ins w.2 (loosely (seq_fits (fit_output t w.3) (fit_value b w.4)))))))))))
fit_decl (axiom_of x) w = fit_by decl _ _ (fit_right const_part _ _ _ (fit_right function_part _ _ _ (fit_left axiom_part _ _ _ (behind_sign (word "axiom") (codes "axiom") (λ q. refl) (attrs ⨟ rule e ⨟ the ";") (formula_tokens x) (expression_depth x) (fit_formula x w)))))
fit_decl (variables gs) w = fit_by decl _ _ (fit_right const_part _ _ _ (fit_right function_part _ _ _ (fit_right axiom_part _ _ _ (fit_left (rule var) _ _ _ (fit_var gs w)))))
fit_decl (synonym n t) w =
    fit_by decl _ _ (fit_right const_part _ _ _ (fit_right function_part _ _ _ (fit_right axiom_part _ _ _ (fit_right (rule var) _ _ _ (fit_left type_part _ _ _
    (fit_less type_part (decl_tokens (synonym n t)) (max 0 (max 0 (max 0 (max (optional_depth type_depth t) 0)))) (decl_depth (synonym n t)) (omega arith)
    (seq_fits (fit_text (word "type") (codes "type") (λ q. refl)) (slack_fits no_attrs (seq_fits (fit_name n w.0) (slack_fits (slack_synonym t w.1) fit_semicolon))))))))))
fit_decl (procedure n ps s ss b) w =
    fit_by decl _ _ (fit_right const_part _ _ _ (fit_right function_part _ _ _ (fit_right axiom_part _ _ _ (fit_right (rule var) _ _ _ (fit_right type_part _ _ _ (fit_left procedure_part _ _ _
    (behind_sign (word "procedure") (codes "procedure") (λ q. refl) (attrs ⨟ some id ⨟ maybe (rule tpar) ⨟ rule sig ⨟ contract_part) _ (decl_depth (procedure n ps s ss b))
    (fit_head n ps s contract_part (ended b ++ (specs_tokens ss ++ optional_body_tokens b)) (max (specs_depth ss) (optional_depth body_depth b)) w.0 w.1 w.2 (fit_contract ss b w.3 w.4)))))))))
fit_decl (implementation n ps s b) w =
    fit_by decl _ _ (fit_right const_part _ _ _ (fit_right function_part _ _ _ (fit_right axiom_part _ _ _ (fit_right (rule var) _ _ _ (fit_right type_part _ _ _ (fit_right procedure_part _ _ _
    (behind_sign (word "implementation") (codes "implementation") (λ q. refl) (attrs ⨟ some id ⨟ maybe (rule tpar) ⨟ rule sig ⨟ rule body) _ (decl_depth (implementation n ps s b))
    (fit_head n ps s (rule body) (body_tokens b) (body_depth b) w.0 w.1 w.2 (fit_body b.locals b.stmts w.3.0 w.3.1)))))))))

-- programs

abbrev pub program_depth : List Decl → ℕ
program_depth [] = 0
program_depth (d ∷ ds) = max (decl_depth d.body) (program_depth ds)

slack_decls : (k : ℕ) (ds : List Decl) → AreWrittenDecls k ds → Slack (many (rule decl)) (program_tokens ds) (program_depth ds)
slack_decls k [] w = slack_none (rule decl)
slack_decls k (d ∷ ds) w = once_more (fit_decl d.body w.1) (slack_decls (axioms_with k d.body) ds w.2)

pub slack_program : (ds : List Decl) → AreWrittenDecls 0 ds → Slack (rule program) (program_tokens ds) (program_depth ds)
slack_program ds w = slack_by program _ _ (slack_decls 0 ds w)
