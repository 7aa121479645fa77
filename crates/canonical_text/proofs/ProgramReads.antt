-- The canonical text of a program is read back.
use Rattle.std.specs.Prelude.{◌≡◌, ℕ, zero, suc, ◌+◌, ◌-◌, ◌<◌, ◌≤◌, false, List, [], ◌∷◌, ◌++◌, drop, length, Ok}
use Rattle.std.proofs.Common.{refl, ap, sym, ◌∙◌, subst, arith, append-nil}
use Rattle.std.proofs.Math.Seq.{drop-append_seam}
use Rattle.std.proofs.lemmas.List.{length-append}
use Rattle.bv_base.specs.Place.{place_at}
use Rattle.bpl_lex.specs.Token.{Token, text_of}
use Rattle.bpl_lex.specs.Lexing.{tokens_from, tokens, end_of}
use Rattle.bpl_ast.specs.Place.{Name}
use Rattle.bpl_ast.specs.Tree.{Groups, no_groups, group}
use Rattle.bpl_ast.specs.Statement.{DeclBody, constant, function, axiom_of, variables, synonym, procedure, implementation, Decl, first_name, first_of_groups, name_of, axioms_with}
use Rattle.canonical_text.specs.Glyph.{Glyph}
use Rattle.canonical_text.specs.Lines.{program_text}
use Rattle.bpl_grammar.specs.Lexeme.{Lexeme, lexeme, lexemes}
use Rattle.bpl_grammar.specs.ReadDeclarations.{read_decl}
use Rattle.bpl_grammar.specs.Programs.{decl_of}
use Rattle.bpl_grammar.specs.ReadPrograms.{tokens_left, tokens_read, before, first_then, read_decls_within, read_decls, with_bytes, read_found, read_text}
use Rattle.canonical_text.specs.Same.{bare_names, bare_groups}
use Rattle.canonical_text.specs.SameStatement.{bare_decl, SameDeclBody, SameDecls}
use Rattle.canonical_text.specs.WrittenStatement.{IsWrittenDecl}
use Rattle.canonical_text.specs.StatementNestings.{decl_depth}
use Rattle.canonical_text.specs.Tokens.{decl_tokens}
use Rattle.canonical_text.specs.Spelled.{token, Spelled, done, next}
use Rattle.canonical_text.specs.Lexed.{AreTokens, none, more}
use Rattle.canonical_text.specs.RoundTrip.{AreWrittenDecls, AreShallow, program_tokens, LexesToItsTokens, ProgramsAreReadBack}
use Rattle.canonical_text.proofs.LexLines.{Lexed, lex_lines}
use Rattle.canonical_text.proofs.ApartDecls.{decl_lines}
use Rattle.canonical_text.proofs.HeadReads.{begins_spec}
use Rattle.canonical_text.proofs.DeclarationReads.{declarations_back}

-- the tokens of the text

lex_decls : (k : ℕ) (ds : List Decl) → AreWrittenDecls k ds → (bytes : List ℕ) (at : ℕ) → drop at bytes ≡ program_text ds → Lexed bytes at (program_tokens ds)
lex_decls k [] w bytes at e = record { values = []; reads = ap (tokens_from at 0) e; are = none }
lex_decls k (d ∷ ds) w bytes at e = lex_lines (decl_lines d.body w.1) (program_tokens ds) bytes (program_text ds) at e (λ to f. lex_decls (axioms_with k d.body) ds w.2 bytes to f)

pub lexes : LexesToItsTokens
lexes = λ ds w.
    let l = lex_decls 0 ds w (program_text ds) 0 refl in
    (l.values, l.reads, l.are)

-- tokens as lexemes

record TokensSplit (bytes : List ℕ) (gs hs : List Glyph) (ts : List Token) : Type 0 where
  pub first : List Token
  pub second : List Token
  pub is : ts ≡ first ++ second
  pub are_first : AreTokens bytes gs first
  pub are_second : AreTokens bytes hs second

split_tokens : (bytes : List ℕ) (gs hs : List Glyph) {ts : List Token} → AreTokens bytes (gs ++ hs) ts → TokensSplit bytes gs hs ts
split_tokens bytes [] hs {ts} a = record { first = []; second = ts; is = refl; are_first = none; are_second = a }
split_tokens bytes (g ∷ gs) hs (more {t = t} h k a) =
    let r = split_tokens bytes gs hs a in
    record { first = t ∷ r.first; second = r.second; is = ap (λ x. t ∷ x) r.is; are_first = more h k r.are_first; are_second = r.are_second }

lexeme_is : (bytes : List ℕ) (from : ℕ) (t : Token) (g : Glyph) → t.kind ≡ (token (place_at bytes from t.start) g).kind → text_of bytes t ≡ g.text → lexeme bytes from t ≡ token (place_at bytes from t.start) g
lexeme_is bytes from t g h k = λ i. record { kind = h i; spelling = k i; place = place_at bytes from t.start }

pub spelled_tokens : (bytes : List ℕ) (from : ℕ) {gs : List Glyph} {ts : List Token} (us : List Token) → AreTokens bytes gs ts → Spelled gs (lexemes bytes from (ts ++ us)) (lexemes bytes from us)
spelled_tokens bytes from us none = done
spelled_tokens bytes from us (more {g = g} {t = t} {gs = gs} {ts = ts} h k a) =
    subst (λ x. Spelled (g ∷ gs) (x ∷ lexemes bytes from (ts ++ us)) (lexemes bytes from us)) (sym (lexeme_is bytes from t g h k)) (next (place_at bytes from t.start) (spelled_tokens bytes from us a))

-- what is behind a declaration begins no specification

pub decl_begins : (d : DeclBody) (hs : List Glyph) (ls us : List Lexeme) → Spelled (decl_tokens d ++ hs) ls us → begins_spec ls ≡ false
decl_begins (constant u ns t) hs ls us (next p g) = refl
decl_begins (function n ps ins t b) hs ls us (next p g) = refl
decl_begins (axiom_of x) hs ls us (next p g) = refl
decl_begins (variables gs) hs ls us (next p g) = refl
decl_begins (synonym n t) hs ls us (next p g) = refl
decl_begins (procedure n ps s ss b) hs ls us (next p g) = refl
decl_begins (implementation n ps s b) hs ls us (next p g) = refl

program_begins : (bytes : List ℕ) (from : ℕ) (ds : List Decl) (ts : List Token) → AreTokens bytes (program_tokens ds) ts → begins_spec (lexemes bytes from ts) ≡ false
program_begins bytes from [] ts none = refl
program_begins bytes from (d ∷ ds) ts a = decl_begins d.body (program_tokens ds) (lexemes bytes from ts) [] (subst (λ x. Spelled (program_tokens (d ∷ ds)) (lexemes bytes from x) []) (append-nil ts) (spelled_tokens bytes from [] a))

-- names don't depend on places

bare_first : (ns : List Name) → first_name (bare_names ns) ≡ first_name ns
bare_first [] = refl
bare_first (n ∷ ns) = refl

bare_groups_first : (gs : Groups) → first_of_groups (bare_groups gs) ≡ first_of_groups gs
bare_groups_first no_groups = refl
bare_groups_first (group ns t c gs) = bare_first ns

bare_decl_name : (k : ℕ) (d : DeclBody) → name_of k (bare_decl d) ≡ name_of k d
bare_decl_name k (constant u ns t) = bare_first ns
bare_decl_name k (function n ps ins t b) = refl
bare_decl_name k (axiom_of x) = refl
bare_decl_name k (variables gs) = bare_groups_first gs
bare_decl_name k (synonym n t) = refl
bare_decl_name k (procedure n ps s ss b) = refl
bare_decl_name k (implementation n ps s b) = refl

bare_axioms : (k : ℕ) (d : DeclBody) → axioms_with k (bare_decl d) ≡ axioms_with k d
bare_axioms k (constant u ns t) = refl
bare_axioms k (function n ps ins t b) = refl
bare_axioms k (axiom_of x) = refl
bare_axioms k (variables gs) = refl
bare_axioms k (synonym n t) = refl
bare_axioms k (procedure n ps s ss b) = refl
bare_axioms k (implementation n ps s b) = refl

same_name : (k : ℕ) (d e : DeclBody) → SameDeclBody e d → name_of k e ≡ name_of k d
same_name k d e h = sym (bare_decl_name k e) ∙ (ap (name_of k) h ∙ bare_decl_name k d)

same_axioms : (k : ℕ) (d e : DeclBody) → SameDeclBody e d → axioms_with k e ≡ axioms_with k d
same_axioms k d e h = sym (bare_axioms k e) ∙ (ap (axioms_with k) h ∙ bare_axioms k d)

-- declarations one after another

record DeclsRead (bytes : List ℕ) (n k : ℕ) (ts : List Token) (ds : List Decl) : Type 0 where
  pub values : List Decl
  pub reads : read_decls_within bytes n k ts ≡ Ok values
  pub same : SameDecls values ds

map_length : (bytes : List ℕ) (from : ℕ) (ts : List Token) → length (lexemes bytes from ts) ≡ length ts
map_length bytes from [] = refl
map_length bytes from (t ∷ ts) = ap suc (map_length bytes from ts)

pub left_is : (bytes : List ℕ) (from : ℕ) (ts us : List Token) → tokens_left (ts ++ us) (lexemes bytes from us) ≡ us
left_is bytes from ts us = ap (λ n. drop n (ts ++ us)) (count (length (ts ++ us)) (length ts) (length us) (length (lexemes bytes from us)) (length-append ts us) (map_length bytes from us)) ∙ drop-append_seam ts us
  where
    count : (a m n b : ℕ) → a ≡ m + n → b ≡ n → a - b ≡ m
    count a m n b h k = omega (arith, h, k)

-- one declaration read, and the others
pub step_reads : (bytes : List ℕ) (n k : ℕ) (t : Token) (ts us left : List Token) (b : DeclBody) (es : List Decl) → read_decl (lexemes bytes t.start (t ∷ ts)) ≡ Ok (b, lexemes bytes t.start us) → tokens_left (t ∷ ts) (lexemes bytes t.start us) ≡ us → read_decls_within bytes n (axioms_with k b) us ≡ Ok es
    → read_decls_within bytes (suc n) k (t ∷ ts) ≡ Ok (decl_of bytes k b t.start (end_of (tokens_read (t ∷ ts) (lexemes bytes t.start us))) ∷ es)
step_reads bytes n k t ts us left b es h e r =
    ap (λ o. first_then bytes k (t ∷ ts) o (λ j vs. read_decls_within bytes n j vs)) h ∙ (ap (λ vs. before (decl_of bytes k b t.start (end_of (tokens_read (t ∷ ts) (lexemes bytes t.start us)))) (read_decls_within bytes n (axioms_with k b) vs)) e
    ∙ ap (before (decl_of bytes k b t.start (end_of (tokens_read (t ∷ ts) (lexemes bytes t.start us))))) r)

decl_some : (d : DeclBody) (bytes : List ℕ) → AreTokens bytes (decl_tokens d) [] → ⊥
decl_some (constant u ns t) bytes a = elim a [ ]
decl_some (function n ps ins t b) bytes a = elim a [ ]
decl_some (axiom_of x) bytes a = elim a [ ]
decl_some (variables gs) bytes a = elim a [ ]
decl_some (synonym n t) bytes a = elim a [ ]
decl_some (procedure n ps s ss b) bytes a = elim a [ ]
decl_some (implementation n ps s b) bytes a = elim a [ ]

module _ (bytes : List ℕ) where
  joined_read : (n k : ℕ) (d : Decl) (ds : List Decl) (first us : List Token) → d.name ≡ name_of k d.body → IsWrittenDecl d.body → decl_depth d.body ≤ 200 → length (first ++ us) < suc n → AreTokens bytes (decl_tokens d.body) first → AreTokens bytes (program_tokens ds) us
      → ((j : ℕ) → j ≡ axioms_with k d.body → length us < n → DeclsRead bytes n j us ds) → DeclsRead bytes (suc n) k (first ++ us) (d ∷ ds)
  joined_read n k d ds [] us m w s l a b ih = absurd (decl_some d.body bytes a)
  joined_read n k d ds (t ∷ ts) us m w s l a b ih =
      let r = declarations_back d.body w s (lexemes bytes t.start ((t ∷ ts) ++ us)) (lexemes bytes t.start us) (program_begins bytes t.start ds us b) (spelled_tokens bytes t.start us a) in
      let q = ih (axioms_with k r.0) (same_axioms k d.body r.0 r.2) (omega (arith, l, length-append ts us)) in
      record {
        values = decl_of bytes k r.0 t.start (end_of (tokens_read (t ∷ (ts ++ us)) (lexemes bytes t.start us))) ∷ q.values;
        reads = step_reads bytes n k t (ts ++ us) us us r.0 q.values r.1 (left_is bytes t.start (t ∷ ts) us) q.reads;
        same = ((λ i. (same_name k d.body r.0 r.2 ∙ sym m) i ∷ q.same.0 i), (λ i. r.2 i ∷ q.same.1 i));
      }

  decls_read : (ds : List Decl) (n k : ℕ) (ts : List Token) → AreWrittenDecls k ds → AreShallow ds → length ts < n → AreTokens bytes (program_tokens ds) ts → DeclsRead bytes n k ts ds
  decls_read [] zero k ts w s l a = absurd (omega arith)
  decls_read [] (suc n) k ts w s l none = record { values = []; reads = refl; same = (refl, refl) }
  decls_read (d ∷ ds) zero k ts w s l a = absurd (omega arith)
  decls_read (d ∷ ds) (suc n) k ts w s l a =
      let f = split_tokens bytes (decl_tokens d.body) (program_tokens ds) a in
      subst (λ x. DeclsRead bytes (suc n) k x (d ∷ ds)) (sym f.is)
      (joined_read n k d ds f.first f.second w.0 w.1 s.0 (subst (λ x. length x < suc n) f.is l) f.are_first f.are_second (λ j e q. decls_read ds n j f.second (subst (λ x. AreWrittenDecls x ds) (sym e) w.2) s.1 q f.are_second))

pub found_reads : (bytes : List ℕ) (ts : List Token) (es : List Decl) → tokens bytes ≡ Ok ts → read_decls bytes 0 ts ≡ Ok es → read_text bytes ≡ Ok es
found_reads bytes ts es h k = ap (read_found bytes) h ∙ ap (with_bytes ts) k

pub decls_ok : (bytes : List ℕ) (ts : List Token) (es : List Decl) → read_decls_within bytes (suc (length ts)) 0 ts ≡ Ok es → read_decls bytes 0 ts ≡ Ok es
unfolding read_decls
decls_ok bytes ts es h = h

pub programs_back : ProgramsAreReadBack
programs_back = λ ds w s.
    let l = lexes ds w in
    let r = decls_read (program_text ds) ds (suc (length l.0)) 0 l.0 w s (omega arith) l.2 in
    (r.values, found_reads (program_text ds) l.0 r.values l.1 (decls_ok (program_text ds) l.0 r.values r.reads), r.same)
