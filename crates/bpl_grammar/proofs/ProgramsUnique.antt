-- Programs that tokens spell are those that are read.
use Rattle.std.specs.Prelude.{◌≡◌, ℕ, zero, suc, ◌-◌, Bool, true, false, List, [], ◌∷◌, ◌++◌, take, drop, length, slice_get, Result, Ok, Err, Some, None}
use Rattle.std.proofs.Common.{refl, ap, sym, ◌∙◌, arith}
use Rattle.std.proofs.Math.Seq.{drop-append_seam, take-append_seam}
use Rattle.std.proofs.lemmas.List.{length-map, length-append}
use Rattle.std.proofs.lemmas.Option.{slice_get_within}
use Rattle.bpl_lex.specs.Token.{Token}
use Rattle.bpl_lex.specs.Lexing.{tokens, end_of}
use Rattle.bpl_ast.specs.Statement.{DeclBody, Decl, axioms_with}
use Rattle.bpl_grammar.specs.Lexeme.{Lexeme, lexeme, lexemes}
use Rattle.bpl_grammar.specs.Part.{rule, decl, program}
use Rattle.bpl_grammar.specs.Spelling.{Takes}
use Rattle.bpl_grammar.specs.Nesting.{IsWide}
use Rattle.bpl_grammar.specs.Judge.{fine, judge, too_wide, Narrow}
use Rattle.bpl_grammar.specs.Terminal.{is_any, sees_any, firsts}
use Rattle.bpl_grammar.specs.Reading.{Read}
use Rattle.bpl_grammar.specs.Programs as p
use Rattle.bpl_grammar.specs.ReadDeclarations.{read_decl}
use Rattle.bpl_grammar.specs.ReadPrograms.{ReadAll, tokens_left, tokens_read, read_first, first_then, read_decls_within, read_decls, with_bytes, read_found}
use Rattle.bpl_grammar.specs.ProgramLaw.{ProgramsAreUnique}
use Rattle.bpl_grammar.proofs.TypeTrees.{placed}
use Rattle.bpl_grammar.proofs.AgreeDeclarations as agree
use Rattle.bpl_grammar.proofs.First.{takes_begins}
use Rattle.bpl_grammar.proofs.Firsts.{starts_firsts}
use Rattle.bpl_grammar.proofs.Operations.{any_apart}
use Rattle.bpl_grammar.proofs.DeclarationFates.{spec_firsts}
use Rattle.bpl_grammar.proofs.Sure.{IsSure}
use Rattle.bpl_grammar.proofs.StatementsUnique.{formula_sure}
use Rattle.bpl_grammar.proofs.GuardsUnique.{var_sure}
use Rattle.bpl_grammar.proofs.ActionsUnique.{body_sure}
use Rattle.bpl_grammar.proofs.AllDeclsUnique.{decl_sure}
use Rattle.bpl_grammar.proofs.Marks.{wide_one}
use Rattle.bpl_grammar.proofs.Faults.{fine_is_faultless}
use Rattle.bpl_grammar.proofs.Places.{reach}
use Rattle.bpl_grammar.proofs.ProgramTrees.{same_decls, before_ok}
use Rattle.bpl_grammar.proofs.ProgramFates.{reach_all, program_reach}

-- no number among the tokens of a program without fault is too wide

narrow_one : (t : Lexeme) → (IsWide t → ⊥) → too_wide t ≡ false
narrow_one t h = sides (too_wide t) refl
  where
    sides : (b : Bool) → too_wide t ≡ b → too_wide t ≡ false
    sides true e = absurd (h (wide_one t e))
    sides false e = e

narrow_all : (ls : List Lexeme) → ((k : ℕ) (t : Lexeme) → slice_get ls k ≡ Some t → IsWide t → ⊥) → Narrow ls
narrow_all [] h = tt
narrow_all (t ∷ ts) h = (narrow_one t (h 0 t refl), narrow_all ts (λ k u g. h (suc k) u g))

narrow_moved : (bytes : List ℕ) (a b : ℕ) (ts : List Token) → Narrow (lexemes bytes a ts) → Narrow (lexemes bytes b ts)
narrow_moved bytes a b [] n = tt
narrow_moved bytes a b (t ∷ ts) n = (n.0, narrow_moved bytes a b ts n.1)

narrow_end : (bytes : List ℕ) (a : ℕ) (ts us : List Token) → Narrow (lexemes bytes a (ts ++ us)) → Narrow (lexemes bytes a us)
narrow_end bytes a [] us n = n
narrow_end bytes a (t ∷ ts) us n = narrow_end bytes a ts us n.1

-- no clause of a contract comes where a declaration begins, or at the end

decl_quiet : (ls us : List Lexeme) → Takes (rule decl) ls us → sees_any spec_firsts ls ≡ false
decl_quiet [] us d = refl
decl_quiet (t ∷ ts) us d = sides (is_any spec_firsts t) refl
  where
    sides : (b : Bool) → is_any spec_firsts t ≡ b → is_any spec_firsts t ≡ false
    sides true e = absurd (cc (starts_firsts t (rule decl), any_apart spec_firsts (firsts (rule decl)) t e refl, takes_begins t ts us (rule decl) refl d))
    sides false e = e

decls_quiet : {bytes : List ℕ} {k : ℕ} {us : List Token} {ds : List Decl} (a : ℕ) → p.Decls bytes k us ds → sees_any spec_firsts (lexemes bytes a us) ≡ false
decls_quiet a p.Decls.none = refl
decls_quiet {bytes} a (p.Decls.more t ts us b d r) = decl_quiet (lexemes bytes t.start (t ∷ ts ++ us)) (lexemes bytes t.start us) (agree.takes_decl placed d)

-- what was read of so many tokens

left_all : (front us : List Token) (n : ℕ) → n ≡ length us → drop (length (front ++ us) - n) (front ++ us) ≡ us
left_all front us n e =
    let same : length (front ++ us) - n ≡ length front = omega (arith, e, length-append front us) in
    ap (λ m. drop m (front ++ us)) same ∙ drop-append_seam front us

read_all : (front us : List Token) (n : ℕ) → n ≡ length us → take (length (front ++ us) - n) (front ++ us) ≡ front
read_all front us n e =
    let same : length (front ++ us) - n ≡ length front = omega (arith, e, length-append front us) in
    ap (λ m. take m (front ++ us)) same ∙ take-append_seam front us

module _ (bytes : List ℕ) (sure : IsSure spec_firsts (p.DeclBody' placed) read_decl) where
  record IsThen (k : ℕ) (t : Token) (ts us : List Token) (b : DeclBody) (next : ℕ → List Token → ReadAll) (es : List Decl) : Type 0 where
    others : List Decl
    reads : next (axioms_with k b) us ≡ Ok others
    is : p.decl_of bytes k b t.start (end_of (t ∷ ts)) ∷ others ≡ es

  first_unique : (k : ℕ) (t : Token) (ts us : List Token) (b : DeclBody) (o : Read DeclBody) (next : ℕ → List Token → ReadAll) (es : List Decl) → Narrow (lexemes bytes t.start (t ∷ ts ++ us)) → sees_any spec_firsts (lexemes bytes t.start us) ≡ false
      → p.DeclBody' placed (lexemes bytes t.start (t ∷ ts ++ us)) (lexemes bytes t.start us) b → read_first bytes (t ∷ ts ++ us) ≡ o → first_then bytes k (t ∷ ts ++ us) o next ≡ Ok es → IsThen k t ts us b next es
  first_unique k t ts us b (Err e) next es n q d h g = absurd (cc)
  first_unique k t ts us b (Ok x) next es n q d h g =
      let u = sure (lexemes bytes t.start (t ∷ ts ++ us)) (lexemes bytes t.start us) x.1 b x.0 n d h q in
      let long : length x.1 ≡ length us = ap length (sym u.0) ∙ length-map us (lexeme bytes t.start) in
      let a = before_ok (p.decl_of bytes k x.0 t.start (end_of (tokens_read (t ∷ ts ++ us) x.1))) (next (axioms_with k x.0) (tokens_left (t ∷ ts ++ us) x.1)) es g in
      let left : us ≡ tokens_left (t ∷ ts ++ us) x.1 = sym (left_all (t ∷ ts) us (length x.1) long) in
      let front : t ∷ ts ≡ tokens_read (t ∷ ts ++ us) x.1 = sym (read_all (t ∷ ts) us (length x.1) long) in
      record { others = a.others; reads = (λ i. next (axioms_with k (u.1 i)) (left i)) ∙ a.reads; is = (λ i. p.decl_of bytes k (u.1 i) t.start (end_of (front i)) ∷ a.others) ∙ a.is }

  decls_unique : (n k : ℕ) (ts : List Token) (ds es : List Decl) → p.Decls bytes k ts ds → Narrow (lexemes bytes 0 ts) → read_decls_within bytes n k ts ≡ Ok es → ds ≡ es
  decls_unique zero k ts ds es d w h = absurd (cc)
  decls_unique (suc n) k ts ds es p.Decls.none w h = same_decls [] es h
  decls_unique (suc n) k all ds es (p.Decls.more t ts us b {ds = others} d r) w h =
      let x = first_unique k t ts us b (read_first bytes (t ∷ ts ++ us)) (λ j vs. read_decls_within bytes n j vs) es (narrow_moved bytes 0 t.start (t ∷ ts ++ us) w) (decls_quiet t.start r) d refl h in
      ap (λ xs. p.decl_of bytes k b t.start (end_of (t ∷ ts)) ∷ xs) (decls_unique n (axioms_with k b) us others x.others r (narrow_end bytes 0 (t ∷ ts) us w) x.reads) ∙ x.is

  -- Program = {Decl}

  read_none : (o : ReadAll) → reach_all bytes o ≡ None → (es : List Decl) × (o ≡ Ok es)
  read_none (Ok es) h = (es, refl)
  read_none (Err e) h = absurd (cc)

  pub program_unique : (ts : List Token) (ds : List Decl) → p.SpelledBy bytes ts ds → read_decls bytes 0 ts ≡ Ok ds
  unfolding read_decls
  program_unique ts ds x =
      let ls : List Lexeme = lexemes bytes 0 ts in
      let f : judge (rule program) ls ≡ fine = (fine_is_faultless (rule program) ls).1 x.faultless in
      let o = read_none (read_decls bytes 0 ts) (sym (program_reach bytes 0 0 ts) ∙ ap reach f) in
      let w = narrow_all ls (λ k t g. (x.faultless.clean k t (slice_get_within ls k t g) g).narrow) in
      o.1 ∙ ap Ok (sym (decls_unique (suc (length ts)) 0 ts ds o.0 x.spelled w o.1))

-- declarations, with what stands in them

decl_unique : IsSure spec_firsts (p.DeclBody' placed) read_decl
decl_unique = decl_sure 199 0 (omega arith)
    (λ ls us vs x y n d h q. formula_sure 200 0 (omega arith) ls us vs x y n d h)
    (var_sure 200 0 (omega arith))
    (λ ls us vs x y n d h q. body_sure 199 0 (omega arith) ls us vs x y n d h)

-- the text

spelled_by : (bytes : List ℕ) (r : Result (List Token) ℕ) (ds : List Decl) → p.SpelledIn bytes r ds → read_found bytes r ≡ Ok ds
spelled_by bytes (Err at) ds x = absurd x
spelled_by bytes (Ok ts) ds x = ap (with_bytes ts) (program_unique bytes decl_unique ts ds x)

pub programs_are_unique : ProgramsAreUnique
programs_are_unique bytes ds x = spelled_by bytes (tokens bytes) ds x
