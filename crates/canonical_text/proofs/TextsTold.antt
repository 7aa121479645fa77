-- Equal texts of declarations, with and without bodies, are texts of the same declarations.
use Rattle.std.specs.Prelude.{◌≡◌, ℕ, List, [], ◌∷◌, ◌++◌, map, flat_map, drop}
use Rattle.std.proofs.Common.{refl, ap, ◌∙◌, subst, append_assoc, append-nil}
use Rattle.bpl_lex.specs.Token.{Token}
use Rattle.bpl_lex.specs.Lexing.{tokens_from}
use Rattle.bpl_ast.specs.Statement.{DeclBody, constant, function, axiom_of, variables, synonym, procedure, implementation}
use Rattle.canonical_text.specs.Glyph.{Glyph, plain, word}
use Rattle.canonical_text.specs.Lines.{spec_line, signature, ended, head_lines, text, contract}
use Rattle.bpl_grammar.specs.Lexeme.{lexemes}
use Rattle.canonical_text.specs.WrittenStatement.{IsWrittenDecl}
use Rattle.canonical_text.specs.Tokens.{specs_tokens}
use Rattle.canonical_text.specs.Spelled.{Spelled}
use Rattle.canonical_text.specs.Lexed.{AreTokens, none, AreLines}
use Rattle.canonical_text.specs.Heads.{head_tokens, AreWrittenBodies, text_with, TextsTellDeclarations}
use Rattle.canonical_text.proofs.LexLines.{Lexed, lex_lines}
use Rattle.canonical_text.proofs.Alone.{loose_name, loose_word}
use Rattle.canonical_text.proofs.Apart.{rest_append, rest_loose}
use Rattle.canonical_text.proofs.ApartLines.{line_then, one_line}
use Rattle.canonical_text.proofs.ApartDecls.{rest_word, specs_lines, rest_signature, rest_ended, decl_lines}
use Rattle.canonical_text.proofs.ProgramReads.{spelled_tokens}
use Rattle.canonical_text.proofs.HeadsTold.{one_result, heads_tokens, tokens_with, all_told}

-- the lines without a body are lines of their tokens
head_lines_of : (d : DeclBody) → IsWrittenDecl d → AreLines (head_lines d) (head_tokens d)
head_lines_of (procedure n ps s ss b) w =
    subst (λ x. AreLines (head_lines (procedure n ps s ss b)) (word "procedure" ∷ plain n.text ∷ x)) (append_assoc (signature ps s) (ended b) (specs_tokens ss))
    (line_then 0 (word "procedure" ∷ plain n.text ∷ (signature ps s ++ ended b)) (map spec_line ss) (specs_tokens ss)
    (rest_word "procedure" (plain n.text ∷ (signature ps s ++ ended b)) (loose_word "procedure" refl refl) (rest_loose (plain n.text) (signature ps s ++ ended b) (loose_name n.text w.0) (rest_append (signature ps s) (ended b) (rest_signature ps s w.1 w.2) (rest_ended b))))
    (specs_lines ss w.3))
head_lines_of (implementation n ps s b) w =
    one_line 0 (word "implementation" ∷ plain n.text ∷ signature ps s) (rest_word "implementation" (plain n.text ∷ signature ps s) (loose_word "implementation" refl refl) (rest_loose (plain n.text) (signature ps s) (loose_name n.text w.0) (rest_signature ps s w.1 w.2)))
head_lines_of (constant u ns t) w = decl_lines (constant u ns t) w
head_lines_of (function n ps ins t b) w = decl_lines (function n ps ins t b) w
head_lines_of (axiom_of x) w = decl_lines (axiom_of x) w
head_lines_of (variables gs) w = decl_lines (variables gs) w
head_lines_of (synonym n t) w = decl_lines (synonym n t) w

-- the tokens of the text

lex_heads : (ds : List DeclBody) → AreWrittenBodies ds → (bytes : List ℕ) (at : ℕ) → drop at bytes ≡ flat_map contract ds → Lexed bytes at (heads_tokens ds)
lex_heads [] w bytes at e = record { values = []; reads = ap (tokens_from at 0) e; are = none }
lex_heads (d ∷ ds) w bytes at e = lex_lines (head_lines_of d w.0) (heads_tokens ds) bytes (flat_map contract ds) at e (λ to f. lex_heads ds w.1 bytes to f)

lex_with : (own others : List DeclBody) → AreWrittenBodies own → AreWrittenBodies others → (bytes : List ℕ) (at : ℕ) → drop at bytes ≡ text_with own others → Lexed bytes at (tokens_with own others)
lex_with [] others w v bytes at e = lex_heads others v bytes at e
lex_with (d ∷ own) others w v bytes at e =
    lex_lines (decl_lines d w.0) (tokens_with own others) bytes (text_with own others) at (e ∙ append_assoc (text d) (flat_map text own) (flat_map contract others)) (λ to f. lex_with own others w.1 v bytes to f)

spelled_all : (bytes : List ℕ) {gs : List Glyph} (ts : List Token) → AreTokens bytes gs ts → Spelled gs (lexemes bytes 0 ts) []
spelled_all bytes {gs} ts a = subst (λ x. Spelled gs (lexemes bytes 0 x) []) (append-nil ts) (spelled_tokens bytes 0 [] a)

pub texts_tell : TextsTellDeclarations
texts_tell = λ own mine others theirs a b w v x y e.
    let l = lex_with own others w x (text_with own others) 0 refl in
    let r = lex_with mine theirs v y (text_with own others) 0 e in
    let s = one_result (tokens_from 0 0 (text_with own others)) r.values l.values r.reads l.reads in
    all_told own mine others theirs (lexemes (text_with own others) 0 l.values) a b w v x y (spelled_all (text_with own others) l.values l.are)
    (subst (λ ts. Spelled (tokens_with mine theirs) (lexemes (text_with own others) 0 ts) []) s (spelled_all (text_with own others) r.values r.are))
