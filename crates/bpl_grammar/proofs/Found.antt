-- What was read, taken apart.
use Rattle.std.specs.Prelude.{◌≡◌, Bool, true, false, cond, List, [], ◌∷◌, drop, IsTrue, Ok, Err}
use Rattle.std.proofs.Common.{refl, ap, ◌∙◌, sym, arith}
use Rattle.bpl_ast.specs.Place.{Name}
use Rattle.bpl_lex.specs.Token.{id}
use Rattle.bpl_grammar.specs.Lexeme.{Lexeme}
use Rattle.bpl_grammar.specs.Judge.{syntax}
use Rattle.bpl_grammar.specs.Terminal.{Terminal, kind, is, sees}
use Rattle.bpl_grammar.specs.Reading.{Read, followed, read_as, read_token, read_name, text_at, place_of}
use Rattle.bpl_grammar.proofs.Loops.{Shrinks}

-- the same was read and the same is left
pub same_found : {A : Type 0} (a b : A) (ls rest : List Lexeme) → ◌≡◌ {A = Read A} (Ok (a, ls)) (Ok (b, rest)) → (a ≡ b) × (ls ≡ rest)
same_found {A} a b ls rest h =
    let e : (a, ls) ≡ (b, rest) = ap value h in
    (ap (λ p. p.0) e, ap (λ p. p.1) e)
  where
    value : Read A → A × List Lexeme
    value (Ok p) = p
    value (Err e) = (a, ls)

pub record IsFollowed {A B : Type 0} (o : Read A) (next : A → List Lexeme → Read B) (r : B × List Lexeme) : Type 0 where
  pub first : A
  pub rest : List Lexeme
  pub reads : o ≡ Ok (first, rest)
  pub then : next first rest ≡ Ok r

pub followed_ok : {A B : Type 0} (o : Read A) (next : A → List Lexeme → Read B) (r : B × List Lexeme) → followed o next ≡ Ok r → IsFollowed o next r
followed_ok (Err e) next r h = absurd (cc)
followed_ok (Ok p) next r h = record { first = p.0; rest = p.1; reads = refl; then = h }

pub record IsReadAs {A B : Type 0} (f : A → B) (o : Read A) (b : B) (us : List Lexeme) : Type 0 where
  pub value : A
  pub reads : o ≡ Ok (value, us)
  pub is : f value ≡ b

pub read_as_ok : {A B : Type 0} (f : A → B) (o : Read A) (b : B) (us : List Lexeme) → read_as f o ≡ Ok (b, us) → IsReadAs f o b us
read_as_ok f (Err e) b us h = absurd (cc)
read_as_ok f (Ok p) b us h =
    let e = same_found (f p.0) b p.1 us h in
    record { value = p.0; reads = ap (λ vs. Ok (p.0, vs)) e.1; is = e.0 }

pub record IsToken (c : Terminal) (ls us : List Lexeme) : Type 0 where
  pub token : Lexeme
  pub is : IsTrue (is c token)
  pub there : ls ≡ token ∷ us

token_there : (c : Terminal) (ls us : List Lexeme) (b : Bool) → sees c ls ≡ b → ◌≡◌ {A = Read (Unit {0})} (cond b (Ok (tt, drop 1 ls)) (Err (syntax, ls))) (Ok (tt, us)) → IsToken c ls us
token_there c [] us true e h = absurd (cc)
token_there c (t ∷ ts) us true e h = record { token = t; is = e; there = ap (λ vs. t ∷ vs) (same_found tt tt ts us h).1 }
token_there c ls us false e h = absurd (cc)

pub token_ok : (c : Terminal) (ls us : List Lexeme) → read_token c ls ≡ Ok (tt, us) → IsToken c ls us
token_ok c ls us h = token_there c ls us (sees c ls) refl h

-- a token that is seen
pub seen_ok : (c : Terminal) (ls : List Lexeme) → IsTrue (sees c ls) → IsToken c ls (drop 1 ls)
seen_ok c [] h = absurd (cc)
seen_ok c (t ∷ ts) h = record { token = t; is = h; there = refl }

pub name_ok : (ls : List Lexeme) (n : Name) (us : List Lexeme) → read_name ls ≡ Ok (n, us) → (k : IsToken (kind id) ls us) × (n ≡ record { text = k.token.spelling; at = k.token.place })
unfolding read_name
name_ok ls n us h =
    let r = read_as_ok _ (read_token (kind id) ls) n us h in
    let k = token_ok (kind id) ls us r.reads in
    (k, sym r.is ∙ ap (λ vs. record { text = text_at vs; at = place_of vs }) k.there)

pub name_shrinks : Shrinks read_name
name_shrinks = λ ls n us h.
    let k = (name_ok ls n us h).0 in
    rw k.there (omega arith)
