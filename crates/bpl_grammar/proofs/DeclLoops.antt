-- Programs, read declaration by declaration.
use Rattle.std.specs.Prelude.{◌≡◌, ℕ, zero, suc, ◌-◌, ◌<◌, List, [], ◌∷◌, length, Ok, Err}
use Rattle.std.proofs.Common.{refl, ap, ◌∙◌, arith}
use Rattle.std.proofs.lemmas.List.{length-drop, length-map}
use Rattle.bpl_lex.specs.Token.{Token}
use Rattle.bpl_lex.specs.Lexing.{end_of}
use Rattle.bpl_ast.specs.Statement.{DeclBody, axioms_with}
use Rattle.bpl_grammar.specs.Lexeme.{Lexeme, lexeme, lexemes}
use Rattle.bpl_grammar.specs.Judge.{Mark}
use Rattle.bpl_grammar.specs.Reading.{Read}
use Rattle.bpl_grammar.specs.Programs.{decl_of}
use Rattle.bpl_grammar.specs.ReadPrograms.{ReadAll, tokens_left, tokens_read, start_of, before, read_first, first_then, read_decls_within, read_decls}
use Rattle.bpl_grammar.proofs.DeclShrinks.{decl_shrinks}

module _ (bytes : List ℕ) where
  -- a declaration takes a token
  pub first_shrinks : (ts : List Token) (b : DeclBody) (left : List Lexeme) → read_first bytes ts ≡ Ok (b, left) → length left < length ts
  first_shrinks ts b left h = omega (arith, decl_shrinks 199 (lexemes bytes (start_of ts) ts) b left h, length-map ts (lexeme bytes (start_of ts)))

  pub fewer : (ts : List Token) (left : List Lexeme) → length left < length ts → length (tokens_left ts left) ≡ length left
  fewer ts left h = omega (arith, length-drop (length ts - length left) ts)

  -- more turns than tokens change nothing
  fuel : (n m k : ℕ) (ts : List Token) → length ts < n → length ts < m → read_decls_within bytes n k ts ≡ read_decls_within bytes m k ts
  fuel zero m k ts hn hm = absurd (omega arith)
  fuel (suc n) zero k ts hn hm = absurd (omega arith)
  fuel (suc n) (suc m) k [] hn hm = refl
  fuel (suc n) (suc m) k (t ∷ ts) hn hm = further (λ j us un um. fuel n m j us un um) (read_first bytes (t ∷ ts)) refl
    where
      further : ((j : ℕ) (us : List Token) → length us < n → length us < m → read_decls_within bytes n j us ≡ read_decls_within bytes m j us) → (o : Read DeclBody) → read_first bytes (t ∷ ts) ≡ o
          → first_then bytes k (t ∷ ts) o (λ j us. read_decls_within bytes n j us) ≡ first_then bytes k (t ∷ ts) o (λ j us. read_decls_within bytes m j us)
      further same (Err e) h = refl
      further same (Ok p) h =
          let l = first_shrinks (t ∷ ts) p.0 p.1 h in
          let e = fewer (t ∷ ts) p.1 l in
          ap (before (decl_of bytes k p.0 t.start (end_of (tokens_read (t ∷ ts) p.1)))) (same (axioms_with k p.0) (tokens_left (t ∷ ts) p.1) (omega (arith, l, e)) (omega (arith, l, e)))

  pub decls_end : (k : ℕ) → read_decls bytes k [] ≡ Ok []
  unfolding read_decls
  decls_end k = refl

  then_by : (k : ℕ) (ts : List Token) (o : Read DeclBody) (next : ℕ → List Token → ReadAll) → read_first bytes ts ≡ o → first_then bytes k ts (read_first bytes ts) next ≡ first_then bytes k ts o next
  then_by k ts o next h = ap (λ r. first_then bytes k ts r next) h

  pub decls_stuck : (k : ℕ) (t : Token) (ts : List Token) (m : Mark) (left : List Lexeme) → read_first bytes (t ∷ ts) ≡ Err (m, left) → read_decls bytes k (t ∷ ts) ≡ Err (m, tokens_left (t ∷ ts) left)
  unfolding read_decls
  decls_stuck k t ts m left h = then_by k (t ∷ ts) (Err (m, left)) _ h

  pub decls_go : (k : ℕ) (t : Token) (ts : List Token) (b : DeclBody) (left : List Lexeme) → read_first bytes (t ∷ ts) ≡ Ok (b, left)
      → read_decls bytes k (t ∷ ts) ≡ before (decl_of bytes k b t.start (end_of (tokens_read (t ∷ ts) left))) (read_decls bytes (axioms_with k b) (tokens_left (t ∷ ts) left))
  unfolding read_decls
  decls_go k t ts b left h =
      let l = first_shrinks (t ∷ ts) b left h in
      let e = fewer (t ∷ ts) left l in
      then_by k (t ∷ ts) (Ok (b, left)) _ h
      ∙ ap (before (decl_of bytes k b t.start (end_of (tokens_read (t ∷ ts) left)))) (fuel (suc (length ts)) (suc (length (tokens_left (t ∷ ts) left))) (axioms_with k b) (tokens_left (t ∷ ts) left) (omega (arith, l, e)) (omega arith))
