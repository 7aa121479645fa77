-- What becomes of lexemes that are read, part by part.
use Rattle.std.specs.Prelude.{◌≡◌, ℕ, zero, suc, ◌<◌, ◌≤◌, Bool, true, false, ◌||◌, cond, List, [], ◌∷◌, drop, length, IsTrue, Ok, Err, Option, Some, None}
use Rattle.std.proofs.Common.{refl, ap, sym, ◌∙◌, arith}
use Rattle.bpl_lex.specs.Token.{number}
use Rattle.bpl_grammar.specs.Lexeme.{Lexeme, is_kind, reads}
use Rattle.bpl_grammar.specs.Part.{Part, nothing, ◌⨟◌, many}
use Rattle.bpl_grammar.specs.Derivative.{empties, onto}
use Rattle.bpl_grammar.specs.Judge.{Fate, syntax, deep, fails, judge}
use Rattle.bpl_grammar.specs.Reads.{sunk, is_there, opens}
use Rattle.bpl_grammar.specs.Terminal.{Terminal, kind, fixed, is, is_any, sees, firsts, apart}
use Rattle.bpl_grammar.specs.Reading.{Read, followed, read_as, read_token, refused, sees_one, turn, repeated_within}
use Rattle.bpl_grammar.specs.Law.{fate}
use Rattle.bpl_grammar.proofs.Firsts.{opens_firsts}
use Rattle.bpl_grammar.proofs.Sunk.{judge_order}
use Rattle.bpl_grammar.proofs.Choices.{judge_stuck}
use Rattle.bpl_grammar.proofs.Decisions.{token, token_empty, taken, sinks}
use Rattle.bpl_grammar.proofs.Loops.{Shrinks}

pub fate_as : {A B : Type 0} (f : A → B) (o : Read A) (k : Part) → fate k o ≡ fate k (read_as f o)
fate_as f (Ok p) k = refl
fate_as f (Err e) k = refl

-- one after another
pub chain : {A B : Type 0} (o : Read A) (next : A → List Lexeme → Read B) (j k : Part) → ((a : A) (rest : List Lexeme) → judge j rest ≡ fate k (next a rest)) → fate j o ≡ fate k (followed o next)
chain (Ok p) next j k h = h p.0 p.1
chain (Err e) next j k h = refl

-- the same, where it matters what was read
pub chain_by : {A B : Type 0} (o : Read A) (next : A → List Lexeme → Read B) (j k : Part) → ((a : A) (rest : List Lexeme) → o ≡ Ok (a, rest) → judge j rest ≡ fate k (next a rest)) → fate j o ≡ fate k (followed o next)
chain_by (Ok p) next j k h = h p.0 p.1 refl
chain_by (Err e) next j k h = refl

pub branch : {A : Type 0} (b : Bool) (f : Fate) (x y : Read A) (k : Part) → (IsTrue b → f ≡ fate k x) → (b ≡ false → f ≡ fate k y) → f ≡ fate k (cond b x y)
branch true f x y k g h = g refl
branch false f x y k g h = h refl

-- a token

opens_one : (b : Bool) → is_there {A = Part} (elim b [ true ↦ Some nothing | false ↦ None ]) ≡ b
opens_one true = refl
opens_one false = refl

pub opens_token : (c : Terminal) (ls : List Lexeme) → opens (token c) ls ≡ sees c ls
opens_token c [] = refl
opens_token (kind k) (t ∷ ts) = opens_one (is_kind k t)
opens_token (fixed w) (t ∷ ts) = opens_one (reads w t)

behind_one : (b : Bool) (p : Part) → is_there (onto (elim b as (λ x. Option Part) [ true ↦ Some nothing | false ↦ None ]) p) ≡ b
behind_one true p = refl
behind_one false p = refl

pub opens_behind : (c : Terminal) (p : Part) (ls : List Lexeme) → opens (token c ⨟ p) ls ≡ sees c ls
opens_behind c p [] = refl
opens_behind (kind k) p (t ∷ ts) = behind_one (is_kind k t) p
opens_behind (fixed w) p (t ∷ ts) = behind_one (reads w t) p

pub seen_there : (n : ℕ) (c : Terminal) (k : Part) (ls : List Lexeme) → n ≤ 200 → IsTrue (apart c (kind number)) → IsTrue (sees c ls) → judge (sunk n (token c) ⨟ k) ls ≡ judge k (drop 1 ls)
seen_there n c k [] b a h = absurd (cc)
seen_there n c k (t ∷ ts) b a h = taken n c k t ts b h a

pub unseen : (n : ℕ) (c : Terminal) (k : Part) (ls : List Lexeme) → sees c ls ≡ false → judge (sunk n (token c) ⨟ k) ls ≡ fails syntax ls
unseen n c k ls h = judge_stuck n (token c) k ls (token_empty c) (opens_token c ls ∙ h)

pub token_fate : (n : ℕ) (c : Terminal) (k : Part) (ls : List Lexeme) → n ≤ 200 → IsTrue (apart c (kind number)) → judge (sunk n (token c) ⨟ k) ls ≡ fate k (read_token c ls)
token_fate n c k ls b a = branch (sees c ls) (judge (sunk n (token c) ⨟ k) ls) (Ok (tt, drop 1 ls)) (Err (syntax, ls)) k (seen_there n c k ls b a) (unseen n c k ls)

-- a token and what is read behind it
pub token_then : {B : Type 0} (n : ℕ) (c : Terminal) (p j k : Part) (next : Unit {0} → List Lexeme → Read B) (ls : List Lexeme) → n ≤ 200 → IsTrue (apart c (kind number))
    → ((rest : List Lexeme) → judge (sunk n p ⨟ j) rest ≡ fate k (next tt rest)) → judge (sunk n (token c ⨟ p) ⨟ j) ls ≡ fate k (followed (read_token c ls) next)
token_then n c p j k next ls b a h = judge_order n (token c) p j ls ∙ (token_fate n c (sunk n p ⨟ j) ls b a ∙ chain (read_token c ls) next (sunk n p ⨟ j) k (λ u rest. h rest))

-- the last token
pub token_last : {B : Type 0} (n : ℕ) (c : Terminal) (k : Part) (f : Unit {0} → B) (ls : List Lexeme) → n ≤ 200 → IsTrue (apart c (kind number)) → judge (sunk n (token c) ⨟ k) ls ≡ fate k (read_as f (read_token c ls))
token_last n c k f ls b a = token_fate n c k ls b a ∙ fate_as f (read_token c ls) k

-- inside too many nestings

seen_one : (cs : List Terminal) (t : Lexeme) (ts : List Lexeme) → sees_one cs (t ∷ ts) ≡ is_any cs t
seen_one [] t ts = refl
seen_one (c ∷ cs) t ts = ap (λ b. is c t || b) (seen_one cs t ts)

unseen_end : (cs : List Terminal) → sees_one cs [] ≡ false
unseen_end [] = refl
unseen_end (c ∷ cs) = unseen_end cs

-- cs are the tokens with which the part can begin, also if they stand otherwise among its first
abbrev pub AreFirsts : List Terminal → Part → Type 0
AreFirsts cs p = (t : Lexeme) → is_any (firsts p) t ≡ is_any cs t

pub opens_one_of : (cs : List Terminal) (p : Part) (ls : List Lexeme) → AreFirsts cs p → opens p ls ≡ sees_one cs ls
opens_one_of cs p [] h = sym (unseen_end cs)
opens_one_of cs p (t ∷ ts) h = opens_firsts (t ∷ ts) p ∙ (h t ∙ sym (seen_one cs t ts))

pub refused_fate : (A : Type 0) (n : ℕ) (cs : List Terminal) (p k : Part) (ls : List Lexeme) → AreFirsts cs p → empties 12 p ≡ false → 200 < n → judge (sunk n p ⨟ k) ls ≡ fate {A = A} k (refused cs ls)
refused_fate A n cs p k ls f e b = marked (sees_one cs ls) refl
  where
    marked : (s : Bool) → sees_one cs ls ≡ s → judge (sunk n p ⨟ k) ls ≡ fails (cond s deep syntax) ls
    marked true h = sinks n p k ls e (opens_one_of cs p ls f ∙ h) b
    marked false h = judge_stuck n p k ls e (opens_one_of cs p ls f ∙ h)

-- a repetition of a token and an item behind it

pub behind_within : {A : Type 0} (n : ℕ) (c : Terminal) (p k : Part) (item : List Lexeme → Read A) → n ≤ 200 → IsTrue (apart c (kind number)) → Shrinks item
    → ((ls : List Lexeme) → IsTrue (sees c ls) → judge (sunk n (many (token c ⨟ p)) ⨟ k) ls ≡ judge (sunk n (token c ⨟ p) ⨟ (sunk n (many (token c ⨟ p)) ⨟ k)) ls)
    → ((ls : List Lexeme) → sees c ls ≡ false → judge (sunk n (many (token c ⨟ p)) ⨟ k) ls ≡ judge k ls)
    → ((ls : List Lexeme) → judge (sunk n p ⨟ (sunk n (many (token c ⨟ p)) ⨟ k)) ls ≡ fate (sunk n (many (token c ⨟ p)) ⨟ k) (item ls))
    → (m : ℕ) (ls : List Lexeme) → length ls < m → judge (sunk n (many (token c ⨟ p)) ⨟ k) ls ≡ fate k (repeated_within (sees c) (λ us. item (drop 1 us)) m ls)
behind_within n c p k item b a s more done law zero ls w = absurd (omega arith)
behind_within {A} n c p k item b a s more done law (suc m) ls w = turned (sees c ls) refl (behind_within n c p k item b a s more done law m)
  where
    rep : Part
    rep = sunk n (many (token c ⨟ p)) ⨟ k

    shorter : (us : List Lexeme) → length (drop 1 us) ≤ length us
    shorter [] = omega arith
    shorter (u ∷ us) = omega arith

    turned : (t : Bool) → sees c ls ≡ t → ((us : List Lexeme) → length us < m → judge rep us ≡ fate k (repeated_within (sees c) (λ vs. item (drop 1 vs)) m us))
        → judge rep ls ≡ fate {A = List A} k (turn t (item (drop 1 ls)) (λ rest. repeated_within (sees c) (λ us. item (drop 1 us)) m rest) ls)
    turned false e ih = done ls e
    turned true e ih =
        more ls e ∙ (judge_order n (token c) p rep ls ∙ (seen_there n c (sunk n p ⨟ rep) ls b a e ∙ (law (drop 1 ls)
        ∙ chain_by (item (drop 1 ls)) (λ x rest. read_as (λ xs. x ∷ xs) (repeated_within (sees c) (λ us. item (drop 1 us)) m rest)) rep k
        (λ x rest h. ih rest (omega (arith, w, s (drop 1 ls) x rest h, shorter ls)) ∙ fate_as (λ xs. x ∷ xs) (repeated_within (sees c) (λ us. item (drop 1 us)) m rest) k))))
