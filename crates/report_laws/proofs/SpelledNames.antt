-- The procedures of a program that a text spells have names without line feed and colon.
use Rattle.std.proofs.Common.{◌≡◌, ◌∙◌, refl, sym, ap, subst, arith, ℕ, zero, suc, ◌<◌, get_or, length, nat_eq, Bool, true, false, cond, ◌&&◌, ◌||◌, IsTrue, Some, None, Result, Ok, Err, List, [], ◌∷◌, ◌++◌, flat_map, append-nil, if◌then◌else◌}
use Rattle.std.proofs.lemmas.Grind.{flat_map-append}
use Rattle.std.specs.List.{AllByRecursion, list_all}
use Rattle.std.proofs.lemmas.List.Elements.{recursion_from_All}
use Rattle.logic_core.proofs.Booleans.{both_true}
use Rattle.logic_core.proofs.EachOf.{every_append, every_left, every_right}
use Rattle.bv_base.specs.declared.place.Place.{Place}
use Rattle.bv_base.specs.Text.{is_among}
use Rattle.bpl_lex.specs.Token.{Kind, id, number, text, sign, word, Token, text_of}
use Rattle.bpl_lex.specs.Shape.{is_letter, is_digit, is_identifier, is_number, is_string, is_sign, words, kind_of}
use Rattle.bpl_lex.specs.Lexing.{tokens}
use Rattle.bpl_lex.proofs.FirstBytes.{differs}
use Rattle.bpl_lex.proofs.Laws.{spelled, each_of_kind}
use Rattle.bpl_lex.proofs.Shapes.{is_name_byte}
use Rattle.bpl_ast.specs.Statement.{DeclBody, constant, function, axiom_of, variables, synonym, procedure, implementation, Decl}
use Rattle.bpl_grammar.specs.Lexeme.{Lexeme, same_kind, lexemes}
use Rattle.bpl_grammar.specs.Types.{IsId}
use Rattle.bpl_grammar.specs.Programs.{DeclBody', of_const, of_unique_const, of_function, of_axiom, of_var, of_type, of_synonym, of_procedure, of_procedure_with_body, of_implementation, Decls, SpelledIn}
use Rattle.bpl_grammar.specs.Programs as programs
use Rattle.bpl_grammar.proofs.Suffixes.{Suffix, here, later, takes_suffix}
use Rattle.bpl_scopes.specs.Scopes.{Table, table_of, Counts, no_counts, counts_after}
use Rattle.bpl_model.specs.Module.{Proc}
use Rattle.user_types.specs.Erased.{users_with, replaced_body, replaced_from, replaced, Unique, one_more, axioms_from, axioms_after, uniques, carrier_axioms, as_integers, erased}
use Rattle.bpl_resolve.specs.Elaborate.{procs_in, module_of}
use Rattle.program_opening.specs.Spelled.{IsSpelled, AreSpelled}
use Rattle.bv_base.specs.Text.{line_feed, count, IsWithout}
use Rattle.report_text.specs.Called.{colon, IsName}

-- ---- an identifier is a name

abbrev one_if : Bool → ℕ
one_if b = cond b 1 0

-- a byte that stands in no name stands in none of whose bytes all may stand in one
none_stands : (c : ℕ) (bytes : List ℕ) → is_name_byte c ≡ false → list_all is_name_byte bytes ≡ true → IsWithout c bytes
none_stands c [] barred all = refl
none_stands c (b ∷ bytes) barred all =
    let parts = both_true (is_name_byte b) (list_all is_name_byte bytes) all in
    let other : nat_eq b c ≡ false = differs is_name_byte b c parts.0 barred in
    let rest : count c bytes ≡ 0 = none_stands c bytes barred parts.1 in
    let first : one_if (nat_eq b c) ≡ 0 = ap one_if other in
    omega (arith, first, rest)

letters : (b : ℕ) (bytes : List ℕ) → is_identifier (b ∷ bytes) ≡ true → list_all is_name_byte (b ∷ bytes) ≡ true
letters b bytes h =
    let parts = both_true (is_letter b) (list_all is_name_byte bytes) h in
    (λ j. (parts.0 j || is_digit b) && list_all is_name_byte bytes) ∙ parts.1

identifier_is_name : (name : List ℕ) → is_identifier name ≡ true → IsName name
identifier_is_name [] h = absurd (cc)
identifier_is_name (b ∷ bytes) h = record { no_feed = none_stands line_feed (b ∷ bytes) refl (letters b bytes h); no_colon = none_stands colon (b ∷ bytes) refl (letters b bytes h) }

-- what is of the kind of names is an identifier
other_kinds : (w d s g : Bool) → (if false then Some (if w then word else id) else if d then Some number else if s then Some text else if g then Some sign else None) ≡ Some id → ⊥
other_kinds w true s g e = cc
other_kinds w false true g e = cc
other_kinds w false false true e = cc
other_kinds w false false false e = cc

named_by_kind : (i w d s g : Bool) → (if i then Some (if w then word else id) else if d then Some number else if s then Some text else if g then Some sign else None) ≡ Some id → i ≡ true
named_by_kind true w d s g e = refl
named_by_kind false w d s g e = absurd (other_kinds w d s g e)

id_is_name : (name : List ℕ) → kind_of name ≡ Some id → IsName name
id_is_name name e = identifier_is_name name (named_by_kind (is_identifier name) (is_among words name) (is_number name) (is_string name) (is_sign name) e)

-- ---- lexemes of their kinds

abbrev IsOfKind : List ℕ → Token → Type 0
IsOfKind bytes t = kind_of (text_of bytes t) ≡ Some t.kind

abbrev AreOfKind : List Lexeme → Type 0
AreOfKind ls = AllByRecursion (λ (l : Lexeme). kind_of l.spelling ≡ Some l.kind) ls

lexemes_of_kind : (bytes : List ℕ) (from : ℕ) (ts : List Token) → AllByRecursion (IsOfKind bytes) ts → AreOfKind (lexemes bytes from ts)
lexemes_of_kind bytes from [] h = tt
lexemes_of_kind bytes from (t ∷ ts) h = (h.0, lexemes_of_kind bytes from ts h.1)

left_of_kind : {ls us : List Lexeme} → Suffix ls us → AreOfKind ls → AreOfKind us
left_of_kind here k = k
left_of_kind (later s) k = left_of_kind s k.1

id_kind : (k : Kind) → IsTrue (same_kind id k) → k ≡ id
id_kind id h = refl
id_kind number h = absurd (cc)
id_kind text h = absurd (cc)
id_kind sign h = absurd (cc)
id_kind word h = absurd (cc)

named_so : (u : Lexeme) (us : List Lexeme) → IsId u → AreOfKind (u ∷ us) → IsName u.spelling
named_so u us h k = id_is_name u.spelling (subst (λ (j : Kind). kind_of u.spelling ≡ Some j) (id_kind u.kind h) k.0)

-- ---- parts of lists of which all hold

-- ---- the procedures of declarations

abbrev AreNamed : List Proc → Type 0
AreNamed ps = AllByRecursion (λ (p : Proc). IsName p.name) ps

module _ (ds : List Decl) (table : Table) (counts : Counts) where
  decl_named : (place : Lexeme → Place) {ls us : List Lexeme} {b : DeclBody} → DeclBody' place ls us b → AreOfKind ls → AreNamed (procs_in ds table counts b)
  decl_named place (of_const h d e c f s) k = tt
  decl_named place (of_unique_const h d u e c f s) k = tt
  decl_named place (of_function h d i p e f g) k = tt
  decl_named place (of_axiom h d) k = tt
  decl_named place (of_var h d e s) k = tt
  decl_named place (of_type h d i s) k = tt
  decl_named place (of_synonym h d i c e s) k = tt
  decl_named place (of_procedure {u = u} {us = us} h d i p e c f) k = (named_so u us i (left_of_kind (takes_suffix d) k.1), tt)
  decl_named place (of_procedure_with_body {u = u} {us = us} h d i p e f g) k = (named_so u us i (left_of_kind (takes_suffix d) k.1), tt)
  decl_named place (of_implementation h d i p e g) k = tt

  decls_named : (bytes : List ℕ) {k : ℕ} {ts : List Token} {es : List Decl} → Decls bytes k ts es → AllByRecursion (IsOfKind bytes) ts → AreNamed (flat_map (λ (d : Decl). procs_in ds table counts d.body) es)
  decls_named bytes programs.Decls.none h = tt
  decls_named bytes (programs.Decls.more t ts us b {ds = es} d e) h =
      every_append (λ (p : Proc). IsName p.name) (procs_in ds table counts b) (flat_map (λ (d : Decl). procs_in ds table counts d.body) es)
      (decl_named (λ u. u.place) d (lexemes_of_kind bytes t.start (t ∷ (ts ++ us)) h)) (decls_named bytes e (every_right (IsOfKind bytes) (t ∷ ts) us h))

-- the procedures of a declaration that stands in a text
one_named : (ds : List Decl) (table : Table) (counts : Counts) (es : List Decl) (k : ℕ) (e d : Decl)
    → AreNamed (flat_map (λ (x : Decl). procs_in ds table counts x.body) es) → k < length es → get_or es k d ≡ e → AreNamed (procs_in ds table counts e.body)
one_named ds table counts [] k e d h below at = absurd (omega (arith, below))
one_named ds table counts (x ∷ es) zero e d h below at = subst (λ (y : Decl). AreNamed (procs_in ds table counts y.body)) at (every_left (λ (p : Proc). IsName p.name) (procs_in ds table counts x.body) _ h)
one_named ds table counts (x ∷ es) (suc k) e d h below at = one_named ds table counts es k e d (every_right (λ (p : Proc). IsName p.name) (procs_in ds table counts x.body) _ h) (omega (arith, below)) at

in_text : (ds : List Decl) (table : Table) (counts : Counts) (bytes : List ℕ) (es : List Decl) (o : Result (List Token) ℕ) → tokens bytes ≡ o → SpelledIn bytes o es
    → AreNamed (flat_map (λ (x : Decl). procs_in ds table counts x.body) es)
in_text ds table counts bytes es (Err at) e s = absurd s
in_text ds table counts bytes es (Ok ts) e s = decls_named ds table counts bytes s.spelled (recursion_from_All (IsOfKind bytes) ts (each_of_kind bytes 0 ts (spelled bytes ts e)))

spelled_one : (ds : List Decl) (table : Table) (counts : Counts) (d : Decl) → IsSpelled d → AreNamed (procs_in ds table counts d.body)
spelled_one ds table counts d s =
    let whole = in_text ds table counts s.text s.decls (tokens s.text) refl s.spelled in
    let its : AreNamed (procs_in ds table counts s.one.body) = one_named ds table counts s.decls s.there.0 s.one s.one whole s.there.1 s.there.2 in
    subst (λ (b : DeclBody). AreNamed (procs_in ds table counts b)) (sym s.body) its

all_spelled : (ds : List Decl) (table : Table) (counts : Counts) (es : List Decl) → AreSpelled es → AreNamed (flat_map (λ (x : Decl). procs_in ds table counts x.body) es)
all_spelled ds table counts [] h = tt
all_spelled ds table counts (e ∷ es) h =
    every_append (λ (p : Proc). IsName p.name) (procs_in ds table counts e.body) (flat_map (λ (x : Decl). procs_in ds table counts x.body) es)
    (spelled_one ds table counts e h.0) (all_spelled ds table counts es h.1)

-- ---- erased declarations have the same procedures

module _ (all : List Decl) (table : Table) (counts : Counts) where
  abbrev procs_of : List Decl → List Proc
  procs_of ds = flat_map (λ (d : Decl). procs_in all table counts d.body) ds

  same_body : (t : Table) (k : ℕ) (b : DeclBody) → procs_in all table counts (replaced_body as_integers t k b) ≡ procs_in all table counts b
  same_body t k (constant u ns s) = refl
  same_body t k (function n ps ins r x) = refl
  same_body t k (axiom_of x) = refl
  same_body t k (variables gs) = refl
  same_body t k (synonym n None) = refl
  same_body t k (synonym n (Some s)) = refl
  same_body t k (procedure n ps g ss b) = refl
  same_body t k (implementation n ps g b) = refl

  same_procs : (t : Table) (k : ℕ) (ds : List Decl) → procs_of (replaced_from as_integers t k ds) ≡ procs_of ds
  same_procs t k [] = refl
  same_procs t k (d ∷ ds) = λ j. same_body t (users_with k d.body) d.body j ++ same_procs t (users_with k d.body) ds j

  no_procs : (count : ℕ → ℕ) (k : ℕ) (us : List Unique) → procs_of (axioms_from count k us) ≡ []
  no_procs count k [] = refl
  no_procs count k (u ∷ us) = no_procs (one_more count u.0) (suc k) us

pub spelled_names : (ds : List Decl) → AreSpelled ds → AllByRecursion (λ (p : Proc). IsName p.name) (module_of (erased ds)).procs
spelled_names ds h =
    let e = erased ds in let t = table_of e in let c = counts_after no_counts e in
    subst AreNamed (sym (flat_map-append (λ (d : Decl). procs_in e t c d.body) (replaced as_integers ds) (carrier_axioms ds)
    ∙ ((λ j. same_procs e t c (table_of ds) 0 ds j ++ no_procs e t c (λ i. 0) (axioms_after 0 ds) (uniques (table_of ds) ds) j) ∙ append-nil (procs_of e t c ds))))
    (all_spelled e t c ds h)
