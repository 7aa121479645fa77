-- Readings that go by what is spelled: the branch that its first token takes, and tokens that are there.
use Rattle.std.specs.Prelude.{◌≡◌, Bool, true, false, cond, List, [], ◌∷◌, IsTrue, Ok}
use Rattle.std.proofs.Common.{refl, ◌∙◌}
use Rattle.bpl_grammar.specs.Lexeme.{Lexeme}
use Rattle.bpl_grammar.specs.Part.{Part}
use Rattle.bpl_grammar.specs.Spelling.{Takes}
use Rattle.bpl_grammar.specs.Derivative.{empties}
use Rattle.bpl_grammar.specs.Terminal.{Terminal, is, sees, firsts, apart, apart_from}
use Rattle.bpl_grammar.specs.Reading.{Read, read_token}
use Rattle.bpl_grammar.proofs.First.{takes_begins}
use Rattle.bpl_grammar.proofs.Firsts.{are_apart, none_apart, starts_firsts}
use Rattle.bpl_grammar.proofs.Found.{token_ok}

pub chosen : {A : Type 0} (b : Bool) (x y : Read A) (r : A × List Lexeme) → IsTrue b → cond b x y ≡ Ok r → x ≡ Ok r
chosen true x y r e h = h
chosen false x y r e h = absurd (cc (e))

pub passed : {A : Type 0} (b : Bool) (x y : Read A) (r : A × List Lexeme) → b ≡ false → cond b x y ≡ Ok r → y ≡ Ok r
passed true x y r e h = absurd (cc (e))
passed false x y r e h = h

-- a token that is this one isn't that one
pub other : (c d : Terminal) (t : Lexeme) → IsTrue (is c t) → IsTrue (apart c d) → is d t ≡ false
other c d t i a = are_apart c d t i a

-- a part doesn't take a token that it can't begin with
pub unseen_first : (p : Part) (c : Terminal) (ls us : List Lexeme) → empties 12 p ≡ false → IsTrue (apart_from c (firsts p)) → Takes p ls us → sees c ls ≡ false
unseen_first p c [] us e a d = refl
unseen_first p c (t ∷ ts) us e a d = by_token (is c t) refl
  where
    by_token : (b : Bool) → is c t ≡ b → is c t ≡ false
    by_token true i = absurd (cc (starts_firsts t p, none_apart c (firsts p) t i a, takes_begins t ts us p e d))
    by_token false i = i

-- what is left behind a token that is read
pub token_rest : (c : Terminal) (u : Lexeme) (ts rest after : List Lexeme) (x : Unit {0}) → u ∷ ts ≡ rest → read_token c rest ≡ Ok (x, after) → ts ≡ after
token_rest c u ts rest after x e h =
    let k = token_ok c rest after h in
    let both : u ∷ ts ≡ k.token ∷ after = e ∙ k.there in
    cc (both)
