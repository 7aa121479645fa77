-- Where faults and declarations of a text lie: inside it.
use Rattle.std.proofs.Common.{◌≡◌, ℕ, zero, suc, pred, ◌+◌, ◌-◌, ◌<◌, ◌≤◌, List, [], ◌∷◌, length, drop, Option, Some, None, Result, Ok, Err, get_or, inl, inr, refl, sym, ap, ◌∙◌, arith}
use Rattle.std.specs.Prelude.{slice_get}
use Rattle.std.specs.List.{AllByRecursion}
use Rattle.std.proofs.lemmas.List.{length-take, length-drop}
use Rattle.std.proofs.lemmas.Option.{get_or_from_slice_get, slice_get_cases}
use Rattle.bpl_lex.specs.Shape.{Piece}
use Rattle.bpl_lex.specs.Token.{Token, slice}
use Rattle.bpl_lex.specs.Lexing.{front, joined, onto, tokens_from, tokens, end_of}
use Rattle.bpl_lex.specs.Spelled.{AreInOrder}
use Rattle.bpl_lex.proofs.Laws.{in_order, each_inside, end_inside}
use Rattle.bpl_ast.specs.Statement.{Decl}
use Rattle.bpl_grammar.specs.Part.{Part}
use Rattle.bpl_grammar.specs.Fault.{Fault, lexical, marked, byte_of, FaultOf, HasFault}
use Rattle.bpl_grammar.specs.Programs.{Decls, none, more, SpelledIn, SpellsProgram}

-- ---- faults

onto_err : (f : List Token → List Token) (r : Result (List Token) ℕ) (e : ℕ) → onto f r ≡ Err e → r ≡ Err e
onto_err f (Ok ts) e h = absurd (cc)
onto_err f (Err at) e h = cc

at_front : (at : ℕ) (bs : List ℕ) (e : ℕ) (o : Option (Piece × ℕ))
    → ◌≡◌ {A = Result (List Token) ℕ} (elim o [ Some f ↦ onto (joined f.0 at f.1) (tokens_from (suc at) (pred f.1) bs) | None ↦ Err at ]) (Err e)
    → ((j : ℕ) → tokens_from (suc at) j bs ≡ Err e → e < suc at + length bs) → e < at + suc (length bs)
at_front at bs e None h rest = let here : at ≡ e = cc in omega arith
at_front at bs e (Some f) h rest = omega (arith, rest (pred f.1) (onto_err (joined f.0 at f.1) (tokens_from (suc at) (pred f.1) bs) e h))

-- nothing begins at a byte of the text
no_token_inside : (at k : ℕ) (bs : List ℕ) (e : ℕ) → tokens_from at k bs ≡ Err e → e < at + length bs
no_token_inside at k [] e h = absurd (cc)
no_token_inside at (suc k) (b ∷ bs) e h = omega (arith, no_token_inside (suc at) k bs e h)
no_token_inside at zero (b ∷ bs) e h = at_front at bs e (front (b ∷ bs)) h (λ j r. no_token_inside (suc at) j bs e r)

-- the byte at which a fault stands
abbrev pub place_of : Fault → ℕ
place_of (lexical at) = at
place_of (marked m at) = at

token_at : (upto : ℕ) (ts : List Token) (k : ℕ) (o : Option Token) → AreInOrder 0 upto ts → slice_get ts k ≡ o → elim o [ Some t ↦ t.start | None ↦ end_of ts ] ≤ upto
token_at upto ts k None h is = end_inside 0 upto ts h
token_at upto ts k (Some t) h is =
    elim (slice_get_cases ts k).1 [
      | inl w ↦
          let same : get_or ts k t ≡ t = get_or_from_slice_get ts k t t is in
          let inside = each_inside 0 upto ts h k t w.1 in
          omega (arith, inside.0, inside.1, ap (λ (u : Token). u.start) same)
      | inr w ↦ let both : ◌≡◌ {A = Option Token} (Some t) None = sym is ∙ w.1 in absurd (cc)
    ]

by_tokens : (p : Part) (text : List ℕ) (f : Fault) (r : Result (List Token) ℕ) → tokens text ≡ r → FaultOf p text r f → place_of f ≤ length text
by_tokens p text f (Err at) is h =
    let here : place_of f ≡ at = ap place_of h in
    omega (arith, no_token_inside 0 0 text at is)
by_tokens p text f (Ok ts) is h =
    let here : place_of f ≡ byte_of ts h.0 = ap place_of h.3 in
    let inside : byte_of ts h.0 ≤ length text = token_at (length text) ts h.0 (slice_get ts h.0) (in_order text ts is) refl in
    omega arith

-- the fault of a text lies in it, or just behind
pub fault_inside : (p : Part) (text : List ℕ) (f : Fault) → HasFault p text f → place_of f ≤ length text
fault_inside p text f h = by_tokens p text f (tokens text) refl h

-- ---- declarations

slice_short : (text : List ℕ) (start finish : ℕ) → length (slice text start finish) ≤ length text
slice_short text start finish = omega (arith, length-take (finish - start) (drop start text), length-drop start text)

each_short : (text : List ℕ) (k : ℕ) (ts : List Token) (ds : List Decl) → Decls text k ts ds → AllByRecursion (λ d. length d.source ≤ length text) ds
each_short text k ts ds none = tt
each_short text k ts ds (more t us vs b {ds = es} body rest) = (slice_short text t.start (end_of (t ∷ us)), each_short text _ vs es rest)

in_tokens : (text : List ℕ) (ds : List Decl) (r : Result (List Token) ℕ) → SpelledIn text r ds → AllByRecursion (λ d. length d.source ≤ length text) ds
in_tokens text ds (Err at) h = absurd h
in_tokens text ds (Ok ts) h = each_short text 0 ts ds h.spelled

-- a declaration's bytes are no more than the text's
pub sources_short : (text : List ℕ) (ds : List Decl) → SpellsProgram text ds → AllByRecursion (λ d. length d.source ≤ length text) ds
sources_short text ds h = in_tokens text ds (tokens text) h
