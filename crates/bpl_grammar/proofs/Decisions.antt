-- The laws by which a reader goes on: what is left to read, by the first token.
use Rattle.std.specs.Prelude.{◌≡◌, ℕ, ◌+◌, ◌<◌, ◌≤◌, nat_lt, Bool, true, false, ◌&&◌, List, [], ◌∷◌, drop, IsTrue, Option, Some, None, option_map}
use Rattle.std.proofs.Common.{refl, ap, sym, ◌∙◌, arith, drop-drop}
use Rattle.bpl_grammar.proofs.Booleans.{no_and_first as and_none}
use Rattle.bpl_lex.specs.Token.{number}
use Rattle.bpl_grammar.specs.Lexeme.{Lexeme, is_kind}
use Rattle.bpl_grammar.specs.Part.{Part, some, spelled, nothing, ◌⨟◌, ◌∣◌, maybe, many}
use Rattle.bpl_grammar.specs.Derivative.{empties, either, onto, left_of}
use Rattle.bpl_grammar.specs.Depth.{most, depth_of}
use Rattle.bpl_grammar.specs.Judge.{Fate, deep, wide, fails, going, too_deep, too_wide, judge}
use Rattle.bpl_grammar.specs.Reads.{sunk, is_there, opens}
use Rattle.bpl_grammar.specs.Terminal.{Terminal, kind, fixed, is, sees, apart}
use Rattle.bpl_grammar.proofs.First.{starts_depth}
use Rattle.bpl_grammar.proofs.Firsts.{are_apart}
use Rattle.bpl_grammar.proofs.Sunk.{empties_sunk, left_sunk, depth_sunk, judge_nothing}
use Rattle.bpl_grammar.proofs.Choices.{judge_first, judge_second, judge_opened, opens_sunk, starts_sunk, empties_then, judge_choice, judge_maybe, judge_many, once_more}

-- an option

pub absent_at : (n : ℕ) (p k : Part) (ts : List Lexeme) → empties 12 p ≡ false → opens p ts ≡ false → judge (sunk n (maybe p) ⨟ k) ts ≡ judge k ts
absent_at n p k ts e h = judge_maybe n p k ts ∙ judge_second ts (sunk n p ⨟ k) k (opens_sunk n ts p k e ∙ h) (empties_then n p k e)

pub present_at : (n : ℕ) (p k : Part) (ts : List Lexeme) → empties 12 p ≡ false → IsTrue (opens p ts) → opens k ts ≡ false → judge (sunk n (maybe p) ⨟ k) ts ≡ judge (sunk n p ⨟ k) ts
present_at n p k ts e h b = judge_maybe n p k ts ∙ judge_opened ts (sunk n p ⨟ k) k b (opens_sunk n ts p k e ∙ h)

-- what follows can't begin with the first token: the option is read, whatever it is
pub present_else : (n : ℕ) (p k : Part) (ts : List Lexeme) → empties 12 k ≡ false → opens k ts ≡ false → judge (sunk n (maybe p) ⨟ k) ts ≡ judge (sunk n p ⨟ k) ts
present_else n p k ts e b = judge_maybe n p k ts ∙ judge_first ts (sunk n p ⨟ k) k b e

-- a repetition

pub done_at : (n : ℕ) (p k : Part) (ts : List Lexeme) → empties 12 p ≡ false → opens p ts ≡ false → judge (sunk n (many p) ⨟ k) ts ≡ judge k ts
done_at n p k ts e h = judge_many n p k ts ∙ judge_second ts (once_more n p k) k (opens_sunk n ts p (sunk n (many p) ⨟ k) e ∙ h) (empties_then n p (sunk n (many p) ⨟ k) e)

pub more_at : (n : ℕ) (p k : Part) (ts : List Lexeme) → empties 12 p ≡ false → IsTrue (opens p ts) → opens k ts ≡ false → judge (sunk n (many p) ⨟ k) ts ≡ judge (once_more n p k) ts
more_at n p k ts e h b = judge_many n p k ts ∙ judge_opened ts (once_more n p k) k b (opens_sunk n ts p (sunk n (many p) ⨟ k) e ∙ h)

pub more_else : (n : ℕ) (p k : Part) (ts : List Lexeme) → empties 12 k ≡ false → opens k ts ≡ false → judge (sunk n (many p) ⨟ k) ts ≡ judge (once_more n p k) ts
more_else n p k ts e b = judge_many n p k ts ∙ judge_first ts (once_more n p k) k b e

-- alternatives

pub left_at : (n : ℕ) (p q k : Part) (ts : List Lexeme) → empties 12 q ≡ false → opens q ts ≡ false → judge (sunk n (p ∣ q) ⨟ k) ts ≡ judge (sunk n p ⨟ k) ts
left_at n p q k ts e h = judge_choice n p q k ts ∙ judge_first ts (sunk n p ⨟ k) (sunk n q ⨟ k) (opens_sunk n ts q k e ∙ h) (empties_then n q k e)

pub right_at : (n : ℕ) (p q k : Part) (ts : List Lexeme) → empties 12 p ≡ false → opens p ts ≡ false → judge (sunk n (p ∣ q) ⨟ k) ts ≡ judge (sunk n q ⨟ k) ts
right_at n p q k ts e h = judge_choice n p q k ts ∙ judge_second ts (sunk n p ⨟ k) (sunk n q ⨟ k) (opens_sunk n ts p k e ∙ h) (empties_then n p k e)

-- a token that is there

abbrev pub token : Terminal → Part
token (kind k) = some k
token (fixed w) = spelled w

pub token_empty : (c : Terminal) → empties 12 (token c) ≡ false
token_empty (kind k) = refl
token_empty (fixed w) = refl

one_left : (b : Bool) → IsTrue b → ◌≡◌ {A = Option Part} (elim b [ true ↦ Some nothing | false ↦ None ]) (Some nothing)
one_left true h = refl
one_left false h = absurd (cc)

one_depth : (b : Bool) → IsTrue b → ◌≡◌ {A = Option ℕ} (elim b [ true ↦ Some 0 | false ↦ None ]) (Some 0)
one_depth true h = refl
one_depth false h = absurd (cc)

left_token : (c : Terminal) (t : Lexeme) → IsTrue (is c t) → left_of t (token c) ≡ Some nothing
left_token (kind k) t h = one_left (is (kind k) t) h
left_token (fixed w) t h = one_left (is (fixed w) t) h

depth_token : (c : Terminal) (t : Lexeme) → IsTrue (is c t) → depth_of t (token c) ≡ Some 0
depth_token (kind k) t h = one_depth (is (kind k) t) h
depth_token (fixed w) t h = one_depth (is (fixed w) t) h

left_over : (b : Bool) (l m : Option Part) (q : Part) → b ≡ false → ◌≡◌ {A = Option Part} (elim b [ true ↦ either (onto l q) m | false ↦ onto l q ]) (onto l q)
left_over b l m q e = rw e refl

depth_over : (b : Bool) (l m : Option ℕ) → b ≡ false → ◌≡◌ {A = Option ℕ} (elim b [ true ↦ most l m | false ↦ l ]) l
depth_over b l m e = rw e refl

-- a part that isn't empty, before another
left_front : (n : ℕ) (t : Lexeme) (p k : Part) → empties 12 p ≡ false → left_of t (sunk n p ⨟ k) ≡ onto (option_map (sunk n) (left_of t p)) k
left_front n t p k e = left_over (empties 12 (sunk n p)) (left_of t (sunk n p)) (left_of t k) k (empties_sunk n p ∙ e) ∙ ap (λ o. onto o k) (left_sunk n t p)

depth_front : (n : ℕ) (t : Lexeme) (p k : Part) → empties 12 p ≡ false → depth_of t (sunk n p ⨟ k) ≡ option_map (λ m. n + m) (depth_of t p)
depth_front n t p k e = depth_over (empties 12 (sunk n p)) (depth_of t (sunk n p)) (depth_of t k) (empties_sunk n p ∙ e) ∙ depth_sunk n t p

not_below : (n : ℕ) → n ≤ 200 → nat_lt 200 (n + 0) ≡ false
not_below n h = grind arith

below : (n m : ℕ) → 200 < n → nat_lt 200 (n + m) ≡ true
below n m h = grind arith

went : (o : Option Part) (d : Option ℕ) (w : Bool) (q : Part) (ts us : List Lexeme) → o ≡ Some q → too_deep d ≡ false → w ≡ false → going o (too_deep d) w (λ r. judge r ts) us ≡ judge q ts
went o d w q ts us e f g = rw (e, f, g) refl

pub took : (n : ℕ) (c : Terminal) (k : Part) (t : Lexeme) (ts : List Lexeme) → n ≤ 200 → IsTrue (is c t) → too_wide t ≡ false → judge (sunk n (token c) ⨟ k) (t ∷ ts) ≡ judge k ts
took n c k t ts b h w =
    went (left_of t (sunk n (token c) ⨟ k)) (depth_of t (sunk n (token c) ⨟ k)) (too_wide t) (sunk n nothing ⨟ k) ts (t ∷ ts)
    (left_front n t (token c) k (token_empty c) ∙ ap (λ o. onto (option_map (sunk n) o) k) (left_token c t h))
    (ap too_deep (depth_front n t (token c) k (token_empty c) ∙ ap (λ o. option_map (λ m. n + m) o) (depth_token c t h)) ∙ not_below n b)
    w
    ∙ judge_nothing n k ts

went_wide : (o : Option Part) (d : Option ℕ) (w : Bool) (q : Part) (ts us : List Lexeme) → o ≡ Some q → too_deep d ≡ false → w ≡ true → going o (too_deep d) w (λ r. judge r ts) us ≡ fails wide us
went_wide o d w q ts us e f g = rw (e, f, g) refl

-- a number that is too wide
pub took_wide : (n : ℕ) (c : Terminal) (k : Part) (t : Lexeme) (ts : List Lexeme) → n ≤ 200 → IsTrue (is c t) → too_wide t ≡ true → judge (sunk n (token c) ⨟ k) (t ∷ ts) ≡ fails wide (t ∷ ts)
took_wide n c k t ts b h w =
    went_wide (left_of t (sunk n (token c) ⨟ k)) (depth_of t (sunk n (token c) ⨟ k)) (too_wide t) (sunk n nothing ⨟ k) ts (t ∷ ts)
    (left_front n t (token c) k (token_empty c) ∙ ap (λ o. onto (option_map (sunk n) o) k) (left_token c t h))
    (ap too_deep (depth_front n t (token c) k (token_empty c) ∙ ap (λ o. option_map (λ m. n + m) o) (depth_token c t h)) ∙ not_below n b)
    w

pub narrow : (c : Terminal) (t : Lexeme) → IsTrue (is c t) → IsTrue (apart c (kind number)) → too_wide t ≡ false
narrow c t h a = and_none (is_kind number t) _ (are_apart c (kind number) t h a)

pub taken : (n : ℕ) (c : Terminal) (k : Part) (t : Lexeme) (ts : List Lexeme) → n ≤ 200 → IsTrue (is c t) → IsTrue (apart c (kind number)) → judge (sunk n (token c) ⨟ k) (t ∷ ts) ≡ judge k ts
taken n c k t ts b h a = took n c k t ts b h (narrow c t h a)

there_first : (c : Terminal) (ls : List Lexeme) → IsTrue (sees c ls) → (t : Lexeme) × IsTrue (is c t) × (ls ≡ t ∷ drop 1 ls)
there_first c [] h = absurd (cc)
there_first c (t ∷ ts) h = (t, h, refl)

-- a token that is seen
pub seen : (n : ℕ) (c : Terminal) (k : Part) (at : ℕ) (ls : List Lexeme) → n ≤ 200 → IsTrue (sees c (drop at ls)) → IsTrue (apart c (kind number)) → judge (sunk n (token c) ⨟ k) (drop at ls) ≡ judge k (drop (at + 1) ls)
seen n c k at ls b h a =
    let x = there_first c (drop at ls) h in
    ap (judge (sunk n (token c) ⨟ k)) x.2 ∙ (taken n c k x.0 (drop 1 (drop at ls)) b x.1 a ∙ ap (judge k) (drop-drop 1 at ls))

-- a part inside more than 200 nestings that begins with the token

went_deep : (o : Option Part) (d w : Bool) (f : Part → Fate) (ts : List Lexeme) → IsTrue (is_there o) → IsTrue d → going o d w f ts ≡ fails deep ts
went_deep None d w f ts h e = absurd (cc)
went_deep (Some p) d w f ts h e = rw e refl

deep_over : (n : ℕ) (o : Option ℕ) → IsTrue (is_there o) → 200 < n → IsTrue (too_deep (option_map (λ m. n + m) o))
deep_over n None h b = absurd (cc)
deep_over n (Some m) h b = below n m b

pub sinks : (n : ℕ) (p k : Part) (ts : List Lexeme) → empties 12 p ≡ false → IsTrue (opens p ts) → 200 < n → judge (sunk n p ⨟ k) ts ≡ fails deep ts
sinks n p k [] e h b = absurd (cc)
sinks n p k (t ∷ ts) e h b = went_deep (left_of t (sunk n p ⨟ k)) (too_deep (depth_of t (sunk n p ⨟ k))) (too_wide t) (λ q. judge q ts) (t ∷ ts)
    (starts_sunk n t p k e ∙ h)
    (ap too_deep (depth_front n t p k e) ∙ deep_over n (depth_of t p) (sym (starts_depth t p) ∙ h) b)
