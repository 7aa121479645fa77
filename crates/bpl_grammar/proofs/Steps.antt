-- Readings that go by what is spelled, step by step: where what was spelled first is what is read first, reading goes on behind it.
use Rattle.std.specs.Prelude.{◌≡◌, Bool, true, false, cond, List, ◌∷◌, Ok, Err}
use Rattle.std.proofs.Common.{ap, sym, ◌∙◌}
use Rattle.bpl_ast.specs.Place.{Name}
use Rattle.bpl_grammar.specs.Lexeme.{Lexeme}
use Rattle.bpl_grammar.specs.Judge.{syntax, Narrow}
use Rattle.bpl_grammar.specs.Terminal.{Terminal, is, sees_any}
use Rattle.bpl_grammar.specs.Reading.{Read, followed, read_as, read_token, read_name}
use Rattle.bpl_grammar.specs.Types.{name}
use Rattle.bpl_grammar.proofs.Found.{followed_ok, read_as_ok, name_ok}
use Rattle.bpl_grammar.proofs.TypeTrees.{placed}
use Rattle.bpl_grammar.proofs.StatementTrees.{closed_ok}
use Rattle.bpl_grammar.proofs.Sure.{IsSure}

-- behind a token that is there

opened_by : {B : Type 0} (b : Bool) (ts ls : List Lexeme) (then : Unit {0} → List Lexeme → Read B) (r : B × List Lexeme) → followed (cond b (Ok (tt, ts)) (Err (syntax, ls))) then ≡ Ok r → then tt ts ≡ Ok r
opened_by true ts ls then r h = h
opened_by false ts ls then r h = absurd (cc)

pub opened : {B : Type 0} (c : Terminal) (t : Lexeme) (ts : List Lexeme) (then : Unit {0} → List Lexeme → Read B) (r : B × List Lexeme) → followed (read_token c (t ∷ ts)) then ≡ Ok r → then tt ts ≡ Ok r
opened c t ts then r h = opened_by (is c t) ts (t ∷ ts) then r h

-- the last token
pub ends_with : {B : Type 0} (c : Terminal) (u : Lexeme) (us vs : List Lexeme) (x y : B) → read_as (λ w. x) (read_token c (u ∷ us)) ≡ Ok (y, vs) → (us ≡ vs) × (x ≡ y)
ends_with c u us vs x y h =
    let k = closed_ok c x (u ∷ us) vs y h in
    (cc (k.there), k.same)

pub named_step : {B : Type 0} (t : Lexeme) (ts : List Lexeme) (then : Name → List Lexeme → Read B) (r : B × List Lexeme) → followed (read_name (t ∷ ts)) then ≡ Ok r → then (name placed t) ts ≡ Ok r
named_step t ts then r h =
    let f = followed_ok (read_name (t ∷ ts)) then r h in
    let k = name_ok (t ∷ ts) f.first f.rest f.reads in
    let token : t ≡ k.0.token = cc (k.0.there) in
    let rest : ts ≡ f.rest = cc (k.0.there) in
    let same : name placed t ≡ f.first = ap (name placed) token ∙ sym k.1 in
    (λ i. then (same i) (rest i)) ∙ f.then

-- behind what is spelled in one way

module _ {A : Type 0} (cs : List Terminal) (P : List Lexeme → List Lexeme → A → Type 0) (read : List Lexeme → Read A) (u : IsSure cs P read) where
  pub step : {B : Type 0} (ls mid : List Lexeme) (x : A) (then : A → List Lexeme → Read B) (r : B × List Lexeme) → Narrow ls → P ls mid x → sees_any cs mid ≡ false → followed (read ls) then ≡ Ok r → then x mid ≡ Ok r
  step ls mid x then r n d q h =
      let f = followed_ok (read ls) then r h in
      let o = u ls mid f.rest x f.first n d f.reads q in
      (λ i. then (o.1 i) (o.0 i)) ∙ f.then

  pub last_step : {B : Type 0} (f : A → B) (ls us vs : List Lexeme) (x : A) (y : B) → Narrow ls → P ls us x → sees_any cs us ≡ false → read_as f (read ls) ≡ Ok (y, vs) → (us ≡ vs) × (f x ≡ y)
  last_step f ls us vs x y n d q h =
      let r = read_as_ok f (read ls) y vs h in
      let o = u ls us vs x r.value n d r.reads q in
      (o.0, ap f o.1 ∙ r.is)
