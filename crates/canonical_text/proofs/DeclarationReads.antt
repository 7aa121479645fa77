-- Functions, procedures and implementations are read back, and so each declaration that some tokens spell.
use Rattle.std.specs.Prelude.{◌≡◌, ℕ, suc, ◌≤◌, false, codes, List, [], ◌∷◌, ◌++◌, map, Ok, Option, Some, None, option_map}
use Rattle.std.proofs.Common.{refl, arith}
use Rattle.bv_base.specs.declared.place.Place.{Place}
use Rattle.bpl_ast.specs.Place.{Name, Params, Ty}
use Rattle.bpl_ast.specs.Tree.{Expr, Groups}
use Rattle.bpl_ast.specs.Statement.{Spec, Body, Signature, Argument, DeclBody, constant, function, axiom_of, variables, synonym, procedure, implementation}
use Rattle.canonical_text.specs.Glyph.{Glyph, plain, word, opening, closing, prefix}
use Rattle.canonical_text.specs.Expression.{params, type, expression}
use Rattle.canonical_text.specs.Lines.{signature, arguments, value as value_tokens, ended}
use Rattle.bpl_grammar.specs.Lexeme.{Lexeme}
use Rattle.bpl_grammar.specs.ReadTypes.{read_params, type_with, read_type}
use Rattle.bpl_grammar.specs.ReadExpressions.{read_inner, e_with}
use Rattle.bpl_grammar.specs.ReadStatements.{read_attrs, body_with}
use Rattle.bpl_grammar.specs.ReadDeclarations.{inputs_with, output_with, value_with, sig_with, specs_with, function_with, contract_with, procedure_with, implementation_with, decl_with}
use Rattle.canonical_text.specs.Same.{bare, bare_name}
use Rattle.canonical_text.specs.SameStatement.{bare_spec, bare_body}
use Rattle.canonical_text.specs.WrittenExpression.{IsName, AreParams, IsWrittenType, IsWritten}
use Rattle.canonical_text.specs.WrittenStatement.{IsWrittenBody, AreWrittenSpecs, IsWrittenSignature, AreWrittenArguments, IsOptional, IsWrittenDecl}
use Rattle.canonical_text.specs.Nestings.{type_depth, expression_depth}
use Rattle.canonical_text.specs.StatementNestings.{specs_depth, arguments_depth, signature_depth, body_depth, optional_depth, decl_depth}
use Rattle.canonical_text.specs.Tokens.{body_tokens, specs_tokens, optional_body_tokens, decl_tokens}
use Rattle.canonical_text.specs.Spelled.{token, Spelled, done, next}
use Rattle.canonical_text.specs.Ahead.{sees_text}
use Rattle.canonical_text.specs.ReadBackDecl.{DeclarationsAreReadBack}
use Rattle.canonical_text.proofs.Parts.{split}
use Rattle.canonical_text.proofs.TypeReads.{no_word, name_read, ParamsRead, params_read, TypeRead, type_reads}
use Rattle.canonical_text.proofs.SimpleReads.{no_attrs, alone_reads}
use Rattle.canonical_text.proofs.HeadReads.{InputsRead, inputs_read, SignatureRead, signature_tokens, signature_reads, begins_spec, specs_read, is_contract, body_reads}
use Rattle.canonical_text.proofs.DeclReads.{each_stmt, DeclRead, axiom_reads, variables_reads, const_reads, synonym_reads}

-- results and values of functions

record ValueRead (room : ℕ) (ls us : List Lexeme) (b : Option Expr) : Type 0 where
  pub value : Option Expr
  pub reads : value_with room ls ≡ Ok (value, us)
  pub same : option_map bare value ≡ option_map bare b

value_none : (room : ℕ) (p : Place) (us : List Lexeme) → value_with room (token p (closing ";") ∷ us) ≡ Ok (None, us)
unfolding value_with
value_none room p us = refl

value_some : (room : ℕ) (p q : Place) (ls us : List Lexeme) (x : Expr) → e_with room (read_inner room) ls ≡ Ok (x, token q (word "}") ∷ us) → value_with room (token p (word "{") ∷ ls) ≡ Ok (Some x, us)
unfolding value_with
value_some room p q ls us x h = rw h refl

value_reads : (b : Option Expr) (room : ℕ) (ls us : List Lexeme) → IsOptional IsWritten b → optional_depth (λ x. suc (expression_depth x)) b ≤ suc room → Spelled (value_tokens b) ls us → ValueRead room ls us b
value_reads None room ls us w d (next p done) = record { value = None; reads = value_none room p us; same = refl }
value_reads (Some x) room ls us w d (next {ls = rest} p g) =
    let f = split (expression x) (word "}" ∷ []) g in
    closed p rest f.middle f.first f.second
  where
    closed : (p : Place) (ls ms : List Lexeme) → Spelled (expression x) ls ms → Spelled (word "}" ∷ []) ms us → ValueRead room (token p (word "{") ∷ ls) us (Some x)
    closed p ls ms f (next q done) =
        let a = alone_reads x room ls (token q (word "}") ∷ us) w (omega (arith, d)) refl f in
        record { value = Some a.value; reads = value_some room p q ls us a.value a.reads; same = λ i. Some (a.same i) }

output_read : (room : ℕ) (p : Place) (ls us : List Lexeme) (t : Ty) → read_type (suc (suc room)) ls ≡ Ok (t, us) → output_with room (token p (closing ":") ∷ ls) ≡ Ok (t, us)
unfolding output_with
output_read room p ls us t h = rw h refl

function_read : (room : ℕ) (p q : Place) (n : Name) (ls ms rest end us : List Lexeme) (ps : Option Params) (ins : List Argument) (t : Ty) (b : Option Expr) → IsName n → read_attrs (suc room) (token q (plain n.text) ∷ ls) ≡ Ok (tt, token q (plain n.text) ∷ ls) → read_params ls ≡ Ok (ps, ms)
    → inputs_with room ms ≡ Ok (ins, rest) → output_with room rest ≡ Ok (t, end) → value_with room end ≡ Ok (b, us) → decl_with room (token p (word "function") ∷ token q (plain n.text) ∷ ls) ≡ Ok (function (record { text = n.text; at = q }) ps ins t b, us)
unfolding decl_with function_with
function_read room p q n ls ms rest end us ps ins t b w h k l m o = rw (h, name_read q n ls w, k, l, m, o) refl

abbrev result_tokens : Ty → Option Expr → List Glyph
result_tokens t b = type t ++ value_tokens b

function_by : (n : Name) (ps : Option Params) (ins : List Argument) (t : Ty) (b : Option Expr) (room : ℕ) (p q z : Place) (ls ms rest mid us : List Lexeme) → IsName n → ParamsRead ls ms ps → InputsRead room ms (token z (closing ":") ∷ rest) ins → TypeRead (type_with (read_type (suc room))) rest mid t → ValueRead room mid us b
    → DeclRead room (token p (word "function") ∷ token q (prefix n.text) ∷ ls) us (function n ps ins t b)
function_by n ps ins t b room p q z ls ms rest mid us w a c e f = record {
  value = function (record { text = n.text; at = q }) a.value c.values e.value f.value;
  reads = function_read room p q n ls ms (token z (closing ":") ∷ rest) mid us a.value c.values e.value f.value w (no_attrs (suc room) _ (no_word q n ls (codes "{") w)) a.reads c.reads (output_read room z rest mid e.value e.reads) f.reads;
  same = λ i. function (bare_name n) (a.same i) (c.same i) (e.same i) (f.same i);
}

module _ (n : Name) (ps : Option Params) (ins : List Argument) (t : Ty) (b : Option Expr) (room : ℕ) (w : IsName n) (wp : AreParams ps) (wi : AreWrittenArguments ins) (wt : IsWrittenType t) (wb : IsOptional IsWritten b) (di : arguments_depth ins ≤ suc room) (dt : type_depth t ≤ suc room)
    (db : optional_depth (λ x. suc (expression_depth x)) b ≤ suc room) (p q : Place) where
  function_typed : (ls ms args mid us : List Lexeme) (o : Place) → Spelled (params ps) ls (token o (opening "(") ∷ ms) → Spelled (arguments ins) ms args → Spelled (closing ")" ∷ closing ":" ∷ result_tokens t b) args us → DeclRead room (token p (word "function") ∷ token q (prefix n.text) ∷ ls) us (function n ps ins t b)
  function_typed ls ms args mid us o fp fi (next y (next {ls = rest} z g)) =
      let f = split (type t) (value_tokens b) g in
      function_by n ps ins t b room p q z ls (token o (opening "(") ∷ ms) rest f.middle us w (params_read ps ls (token o (opening "(") ∷ ms) wp refl fp) (inputs_read ins room o ms args (token z (closing ":") ∷ rest) wi di fi y refl)
      (type_reads t wt (suc room) rest f.middle dt f.first) (value_reads b room f.middle us wb db f.second)

  function_opened : (ls ms us : List Lexeme) → Spelled (params ps) ls ms → Spelled (opening "(" ∷ (arguments ins ++ closing ")" ∷ closing ":" ∷ result_tokens t b)) ms us → DeclRead room (token p (word "function") ∷ token q (prefix n.text) ∷ ls) us (function n ps ins t b)
  function_opened ls ms us fp (next {ls = rest} o g) =
      let f = split (arguments ins) (closing ")" ∷ closing ":" ∷ result_tokens t b) g in
      function_typed ls rest f.middle [] us o fp f.first f.second

function_reads : (n : Name) (ps : Option Params) (ins : List Argument) (t : Ty) (b : Option Expr) (room : ℕ) (ls us : List Lexeme) → IsWrittenDecl (function n ps ins t b) → decl_depth (function n ps ins t b) ≤ suc room → Spelled (decl_tokens (function n ps ins t b)) ls us → DeclRead room ls us (function n ps ins t b)
function_reads n ps ins t b room ls us w d (next p (next {ls = rest} q g)) =
    let f = split (params ps) (opening "(" ∷ (arguments ins ++ closing ")" ∷ closing ":" ∷ result_tokens t b)) g in
    function_opened n ps ins t b room w.0 w.1 w.2 w.3 w.4 (omega (arith, d)) (omega (arith, d)) (omega (arith, d)) p q rest f.middle us f.first f.second

-- procedures and implementations

-- a name, type parameters and a signature
pub record HeadRead (room : ℕ) (q : Place) (n : Name) (ls us : List Lexeme) (ps : Option Params) (s : Signature) : Type 0 where
  pub middle : List Lexeme
  pub params : ParamsRead ls middle ps
  pub signature : SignatureRead room middle us s

signature_first : (gs hs : Groups) (ls us : List Lexeme) → Spelled (signature_tokens gs hs) ls us → sees_text "<" ls ≡ false
signature_first gs hs ls us (next p g) = refl

pub head_reads : (n : Name) (ps : Option Params) (gs hs : Groups) (room : ℕ) (q : Place) (ls us : List Lexeme) → AreParams ps → IsWrittenSignature (record { ins = gs; outs = hs }) → signature_depth (record { ins = gs; outs = hs }) ≤ suc room → sees_text "returns" us ≡ false
    → Spelled (signature ps (record { ins = gs; outs = hs })) ls us → HeadRead room q n ls us ps (record { ins = gs; outs = hs })
head_reads n ps gs hs room q ls us wp ws d z g =
    let f = split (params ps) (signature_tokens gs hs) g in
    record {
      middle = f.middle;
      params = params_read ps ls f.middle wp (signature_first gs hs f.middle us f.second) f.first;
      signature = signature_reads gs hs room f.middle us ws d z f.second;
    }

implementation_read : (room : ℕ) (p q : Place) (n : Name) (ls ms rest us : List Lexeme) (ps : Option Params) (s : Signature) (b : Body) → IsName n → read_attrs (suc room) (token q (plain n.text) ∷ ls) ≡ Ok (tt, token q (plain n.text) ∷ ls) → read_params ls ≡ Ok (ps, ms) → sig_with room ms ≡ Ok (s, rest) → body_with room rest ≡ Ok (b, us)
    → decl_with room (token p (word "implementation") ∷ token q (plain n.text) ∷ ls) ≡ Ok (implementation (record { text = n.text; at = q }) ps s b, us)
unfolding decl_with implementation_with
implementation_read room p q n ls ms rest us ps s b w h k l m = rw (h, name_read q n ls w, k, l, m) refl

body_first : (b : Body) (ls us : List Lexeme) → Spelled (body_tokens b) ls us → (sees_text "returns" ls ≡ false) × (begins_spec ls ≡ false)
body_first b ls us (next p g) = (refl, refl)

implementation_reads : (n : Name) (ps : Option Params) (s : Signature) (b : Body) (room : ℕ) (ls us : List Lexeme) → IsWrittenDecl (implementation n ps s b) → decl_depth (implementation n ps s b) ≤ suc room → Spelled (decl_tokens (implementation n ps s b)) ls us → DeclRead room ls us (implementation n ps s b)
implementation_reads n ps s b room ls us w d (next p (next {ls = rest} q g)) =
    let f = split (signature ps s) (body_tokens b) g in
    let h = head_reads n ps s.ins s.outs room q rest f.middle w.1 w.2 (omega (arith, d)) (body_first b f.middle us f.second).0 f.first in
    let c = body_reads b.locals b.stmts room f.middle us w.3.0 (each_stmt b.stmts w.3.1) (omega (arith, d)) f.second in
    record {
      value = implementation (record { text = n.text; at = q }) h.params.value h.signature.value c.value;
      reads = implementation_read room p q n rest h.middle f.middle us h.params.value h.signature.value c.value w.0 (no_attrs (suc room) _ (no_word q n rest (codes "{") w.0)) h.params.reads h.signature.reads c.reads;
      same = λ i. implementation (bare_name n) (h.params.same i) (h.signature.same i) (c.same i);
    }

procedure_read : (room : ℕ) (p q : Place) (n : Name) (ls ms rest us : List Lexeme) (ps : Option Params) (s : Signature) (ss : List Spec) (b : Option Body) → IsName n → read_attrs (suc room) (token q (plain n.text) ∷ ls) ≡ Ok (tt, token q (plain n.text) ∷ ls) → read_params ls ≡ Ok (ps, ms) → sig_with room ms ≡ Ok (s, rest)
    → contract_with room rest ≡ Ok ((ss, b), us) → decl_with room (token p (word "procedure") ∷ token q (plain n.text) ∷ ls) ≡ Ok (procedure (record { text = n.text; at = q }) ps s ss b, us)
unfolding decl_with procedure_with
procedure_read room p q n ls ms rest us ps s ss b w h k l m = rw (h, name_read q n ls w, k, l, m) refl

record ContractRead (room : ℕ) (ls us : List Lexeme) (ss : List Spec) (b : Option Body) : Type 0 where
  pub specs : List Spec
  pub body : Option Body
  pub reads : contract_with room ls ≡ Ok ((specs, body), us)
  pub same_specs : map bare_spec specs ≡ map bare_spec ss
  pub same_body : option_map bare_body body ≡ option_map bare_body b
  pub alone : sees_text "returns" ls ≡ false

contract_alone : (room : ℕ) (p : Place) (ls us : List Lexeme) (ss : List Spec) → specs_with room ls ≡ Ok (ss, us) → contract_with room (token p (closing ";") ∷ ls) ≡ Ok ((ss, None), us)
unfolding contract_with
contract_alone room p ls us ss h = rw h refl

contract_body : (room : ℕ) (ls ms us : List Lexeme) (ss : List Spec) (b : Body) → sees_text ";" ls ≡ false → specs_with room ls ≡ Ok (ss, ms) → body_with room ms ≡ Ok (b, us) → contract_with room ls ≡ Ok ((ss, Some b), us)
unfolding contract_with
contract_body room ls ms us ss b z h k = rw (z, h, k) refl

contract_reads : (ss : List Spec) (b : Option Body) (room : ℕ) (ls us : List Lexeme) → AreWrittenSpecs ss → IsOptional IsWrittenBody b → specs_depth ss ≤ suc room → optional_depth body_depth b ≤ suc room → begins_spec us ≡ false → Spelled (ended b ++ (specs_tokens ss ++ optional_body_tokens b)) ls us → ContractRead room ls us ss b
contract_reads ss None room ls us w v d e z (next {ls = rest} p g) =
    let f = split (specs_tokens ss) [] g in
    closed p rest f.middle f.first f.second
  where
    closed : (p : Place) (ls ms : List Lexeme) → Spelled (specs_tokens ss) ls ms → Spelled [] ms us → ContractRead room (token p (closing ";") ∷ ls) us ss None
    closed p ls ms f done =
        let a = specs_read ss room ls us w d z f in
        record { specs = a.values; body = None; reads = contract_alone room p ls us a.values a.reads; same_specs = a.same; same_body = refl; alone = refl }
contract_reads ss (Some b) room ls us w v d e z g =
    let f = split (specs_tokens ss) (body_tokens b) g in
    closed ls f.middle f.first f.second
  where
    closed : (ls ms : List Lexeme) → Spelled (specs_tokens ss) ls ms → Spelled (body_tokens b) ms us → ContractRead room ls us ss (Some b)
    closed ls ms f (next {ls = rest} p g) =
        let a = specs_read ss room ls (token p (word "{") ∷ rest) w d refl f in
        let c = body_reads b.locals b.stmts room (token p (word "{") ∷ rest) us v.0 (each_stmt b.stmts v.1) e (next p g) in
        let k = is_contract ss p ls rest f in
        record { specs = a.values; body = Some c.value; reads = contract_body room ls (token p (word "{") ∷ rest) us a.values c.value k.going a.reads c.reads; same_specs = a.same; same_body = λ i. Some (c.same i); alone = k.alone }

procedure_reads : (n : Name) (ps : Option Params) (s : Signature) (ss : List Spec) (b : Option Body) (room : ℕ) (ls us : List Lexeme) → IsWrittenDecl (procedure n ps s ss b) → decl_depth (procedure n ps s ss b) ≤ suc room → begins_spec us ≡ false → Spelled (decl_tokens (procedure n ps s ss b)) ls us
    → DeclRead room ls us (procedure n ps s ss b)
procedure_reads n ps s ss b room ls us w d z (next p (next {ls = rest} q g)) =
    let f = split (signature ps s) (ended b ++ (specs_tokens ss ++ optional_body_tokens b)) g in
    let c = contract_reads ss b room f.middle us w.3 w.4 (omega (arith, d)) (omega (arith, d)) z f.second in
    let h = head_reads n ps s.ins s.outs room q rest f.middle w.1 w.2 (omega (arith, d)) c.alone f.first in
    record {
      value = procedure (record { text = n.text; at = q }) h.params.value h.signature.value c.specs c.body;
      reads = procedure_read room p q n rest h.middle f.middle us h.params.value h.signature.value c.specs c.body w.0 (no_attrs (suc room) _ (no_word q n rest (codes "{") w.0)) h.params.reads h.signature.reads c.reads;
      same = λ i. procedure (bare_name n) (h.params.same i) (h.signature.same i) (c.same_specs i) (c.same_body i);
    }

-- all declarations

pub decl_reads : (d : DeclBody) (room : ℕ) (ls us : List Lexeme) → IsWrittenDecl d → decl_depth d ≤ suc room → begins_spec us ≡ false → Spelled (decl_tokens d) ls us → DeclRead room ls us d
decl_reads (constant u ns t) room ls us w d z g = const_reads u ns t room ls us w.0 w.1 d g
decl_reads (function n ps ins t b) room ls us w d z g = function_reads n ps ins t b room ls us w d g
decl_reads (axiom_of x) room ls us w d z g = axiom_reads x room ls us w d g
decl_reads (variables gs) room ls us w d z g = variables_reads gs room ls us w d g
decl_reads (synonym n t) room ls us w d z g = synonym_reads n t room ls us w.0 w.1 d g
decl_reads (procedure n ps s ss b) room ls us w d z g = procedure_reads n ps s ss b room ls us w d z g
decl_reads (implementation n ps s b) room ls us w d z g = implementation_reads n ps s b room ls us w d g

pub declarations_back : DeclarationsAreReadBack
declarations_back = λ d w e ls us z g.
    let r = decl_reads d 199 ls us w e z g in
    (r.value, r.reads, r.same)
