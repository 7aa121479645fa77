-- Programs that are read are the trees that the tokens spell.
use Rattle.std.specs.Prelude.{◌≡◌, ℕ, zero, suc, ◌-◌, ◌<◌, List, [], ◌∷◌, ◌++◌, take, length, Ok, Err}
use Rattle.std.proofs.Common.{refl, ap, sym, ◌∙◌, arith}
use Rattle.std.proofs.lemmas.List.{length-map, take-append-drop}
use Rattle.bpl_lex.specs.Token.{Token}
use Rattle.bpl_lex.specs.Lexing.{end_of}
use Rattle.bpl_ast.specs.Statement.{DeclBody, Decl, axioms_with}
use Rattle.bpl_grammar.specs.Lexeme.{Lexeme, lexeme, lexemes}
use Rattle.bpl_grammar.specs.Reading.{Read}
use Rattle.bpl_grammar.specs.Programs as p
use Rattle.bpl_grammar.specs.ReadPrograms.{ReadAll, tokens_left, tokens_read, before, read_first, first_then, read_decls_within, read_decls}
use Rattle.bpl_grammar.proofs.TypeTrees.{placed}
use Rattle.bpl_grammar.proofs.DeclShrinks.{decl_shrinks}
use Rattle.bpl_grammar.proofs.DeclTrees.{decl_tree}
use Rattle.bpl_grammar.proofs.ProgramFates.{decl_end, left_lexemes}

-- a declaration in front of others

pub record IsBefore (d : Decl) (r : ReadAll) (ds : List Decl) : Type 0 where
  pub others : List Decl
  pub reads : r ≡ Ok others
  pub is : d ∷ others ≡ ds

pub same_decls : (xs ys : List Decl) → ◌≡◌ {A = ReadAll} (Ok xs) (Ok ys) → xs ≡ ys
same_decls xs ys h = ap decls h
  where
    decls : ReadAll → List Decl
    decls (Ok x) = x
    decls (Err e) = xs

pub before_ok : (d : Decl) (r : ReadAll) (ds : List Decl) → before d r ≡ Ok ds → IsBefore d r ds
before_ok d (Ok xs) ds h = record { others = xs; reads = refl; is = same_decls (d ∷ xs) ds h }
before_ok d (Err e) ds h = absurd (cc)

module _ (bytes : List ℕ) where
  shown_decl : (k : ℕ) (t : Token) (rest us all front : List Token) (b : DeclBody) (ds : List Decl) → front ++ us ≡ all → front ≡ t ∷ rest → p.DeclBody' placed (lexemes bytes t.start all) (lexemes bytes t.start us) b → p.Decls bytes (axioms_with k b) us ds
      → p.Decls bytes k all (p.decl_of bytes k b t.start (end_of front) ∷ ds)
  shown_decl k t rest us all front b ds q f d r =
      let whole : (t ∷ rest) ++ us ≡ all = ap (λ xs. xs ++ us) (sym f) ∙ q in
      let d' = rw (← whole) at d in
      rw (f, ← whole) (p.Decls.more t rest us b d' r)

  front_of : (t : Token) (ts : List Token) (us : List Lexeme) → length us < length (t ∷ ts) → (rest : List Token) × (tokens_read (t ∷ ts) us ≡ t ∷ rest)
  front_of t ts us h =
      let some : length (t ∷ ts) - length us ≡ suc (length ts - length us) = omega (arith, h) in
      (take (length ts - length us) ts, ap (λ m. take m (t ∷ ts)) some)

  first_tree : (k : ℕ) (t : Token) (ts : List Token) (b : DeclBody) (us : List Lexeme) (ds : List Decl) → read_first bytes (t ∷ ts) ≡ Ok (b, us) → p.Decls bytes (axioms_with k b) (tokens_left (t ∷ ts) us) ds
      → p.Decls bytes k (t ∷ ts) (p.decl_of bytes k b t.start (end_of (tokens_read (t ∷ ts) us)) ∷ ds)
  first_tree k t ts b us ds h r =
      let e = left_lexemes bytes t.start (t ∷ ts) us (decl_end (lexemes bytes t.start (t ∷ ts)) us b h) in
      let shorter : length us < length (t ∷ ts) = omega (arith, decl_shrinks 199 (lexemes bytes t.start (t ∷ ts)) b us h, length-map (t ∷ ts) (lexeme bytes t.start)) in
      let f = front_of t ts us shorter in
      let d : p.DeclBody' placed (lexemes bytes t.start (t ∷ ts)) (lexemes bytes t.start (tokens_left (t ∷ ts) us)) b = rw (← e) (decl_tree (lexemes bytes t.start (t ∷ ts)) us b h) in
      shown_decl k t f.0 (tokens_left (t ∷ ts) us) (t ∷ ts) (tokens_read (t ∷ ts) us) b ds (take-append-drop (length (t ∷ ts) - length us) (t ∷ ts)) f.1 d r

  then_tree : (k : ℕ) (t : Token) (ts : List Token) (o : Read DeclBody) (next : ℕ → List Token → ReadAll) (ds : List Decl) → read_first bytes (t ∷ ts) ≡ o → ((j : ℕ) (us : List Token) (es : List Decl) → next j us ≡ Ok es → p.Decls bytes j us es)
      → first_then bytes k (t ∷ ts) o next ≡ Ok ds → p.Decls bytes k (t ∷ ts) ds
  then_tree k t ts (Err e) next ds h law q = absurd (cc)
  then_tree k t ts (Ok x) next ds h law q =
      let b = before_ok (p.decl_of bytes k x.0 t.start (end_of (tokens_read (t ∷ ts) x.1))) (next (axioms_with k x.0) (tokens_left (t ∷ ts) x.1)) ds q in
      rw (← b.is) (first_tree k t ts x.0 x.1 b.others h (law (axioms_with k x.0) (tokens_left (t ∷ ts) x.1) b.others b.reads))

  within_tree : (n k : ℕ) (ts : List Token) (ds : List Decl) → read_decls_within bytes n k ts ≡ Ok ds → p.Decls bytes k ts ds
  within_tree zero k ts ds h = absurd (cc)
  within_tree (suc n) k [] ds h = rw (← same_decls [] ds h) p.Decls.none
  within_tree (suc n) k (t ∷ ts) ds h = then_tree k t ts (read_first bytes (t ∷ ts)) (λ j us. read_decls_within bytes n j us) ds refl (λ j us es q. within_tree n j us es q) h

  -- Program = {Decl}
  pub program_tree : (k : ℕ) (ts : List Token) (ds : List Decl) → read_decls bytes k ts ≡ Ok ds → p.Decls bytes k ts ds
  unfolding read_decls
  program_tree k ts ds h = within_tree (suc (length ts)) k ts ds h
