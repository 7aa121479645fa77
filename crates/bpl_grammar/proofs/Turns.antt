-- What becomes of items that are read as long as one begins.
use Rattle.std.specs.Prelude.{◌≡◌, ℕ, zero, suc, ◌<◌, ◌≤◌, Bool, true, false, ◌&&◌, ◌||◌, List, [], ◌∷◌, drop, length, codes, IsTrue}
use Rattle.std.proofs.Common.{refl, ap, sym, ◌∙◌, arith}
use Rattle.bpl_grammar.proofs.Booleans.{or_none as or_last}
use Rattle.bpl_lex.specs.Token.{id}
use Rattle.bpl_grammar.specs.Lexeme.{Lexeme}
use Rattle.bpl_grammar.specs.Part.{Part, some, ◌⨟◌, many}
use Rattle.bpl_grammar.specs.Derivative.{empties}
use Rattle.bpl_grammar.specs.Judge.{judge}
use Rattle.bpl_grammar.specs.Reads.{sunk, opens}
use Rattle.bpl_grammar.specs.Terminal.{Terminal, kind, fixed, is, is_any, sees, sees_any, firsts}
use Rattle.bpl_grammar.specs.Follows.{Bars, any_operation, opening, all_apart, Ends, Closes}
use Rattle.bpl_grammar.specs.Reading.{Read, read_as, sees_one, turn, repeated_within, repeated}
use Rattle.bpl_grammar.specs.Law.{fate}
use Rattle.bpl_grammar.proofs.Firsts.{opens_firsts}
use Rattle.bpl_grammar.proofs.Sunk.{judge_order}
use Rattle.bpl_grammar.proofs.Decisions.{done_at, more_at}
use Rattle.bpl_grammar.proofs.Tails.{bars_then}
use Rattle.bpl_grammar.proofs.Loops.{Shrinks}
use Rattle.bpl_grammar.proofs.Fates.{fate_as, chain_by, AreFirsts, seen_there, unseen}

-- an item leads from j to j again, and without one j is what k is
pub turns_fate : {A : Type 0} (j k : Part) (begins : List Lexeme → Bool) (item : List Lexeme → Read A) → Shrinks item
    → ((ls : List Lexeme) → IsTrue (begins ls) → judge j ls ≡ fate j (item ls))
    → ((ls : List Lexeme) → begins ls ≡ false → judge j ls ≡ judge k ls)
    → (m : ℕ) (ls : List Lexeme) → length ls < m → judge j ls ≡ fate k (repeated_within begins item m ls)
turns_fate j k begins item s law done zero ls w = absurd (omega arith)
turns_fate {A} j k begins item s law done (suc m) ls w = turned (begins ls) refl (turns_fate j k begins item s law done m)
  where
    turned : (t : Bool) → begins ls ≡ t → ((us : List Lexeme) → length us < m → judge j us ≡ fate k (repeated_within begins item m us))
        → judge j ls ≡ fate {A = List A} k (turn t (item ls) (λ rest. repeated_within begins item m rest) ls)
    turned false h ih = done ls h
    turned true h ih = law ls h ∙ chain_by (item ls) (λ x rest. read_as (λ xs. x ∷ xs) (repeated_within begins item m rest)) j k
        (λ x rest g. ih rest (omega (arith, w, s ls x rest g)) ∙ fate_as (λ xs. x ∷ xs) (repeated_within begins item m rest) k)

pub loop_fate : {A : Type 0} (j k : Part) (begins : List Lexeme → Bool) (item : List Lexeme → Read A) → Shrinks item
    → ((ls : List Lexeme) → IsTrue (begins ls) → judge j ls ≡ fate j (item ls))
    → ((ls : List Lexeme) → begins ls ≡ false → judge j ls ≡ judge k ls)
    → (ls : List Lexeme) → judge j ls ≡ fate k (repeated begins item ls)
unfolding repeated
loop_fate j k begins item s law done ls = turns_fate j k begins item s law done (suc (length ls)) ls (omega arith)

-- what is seen

pub and_other : (a b : Bool) → (a && b) ≡ false → IsTrue a → b ≡ false
and_other true b h i = h
and_other false b h i = absurd (cc)

pub barred : (cs : List Terminal) (k : Part) (ls : List Lexeme) → Bars cs k → IsTrue (sees_any cs ls) → opens k ls ≡ false
barred cs k [] b h = refl
barred cs k (t ∷ ts) b h = b t h

pub opens_any : (cs : List Terminal) (p : Part) (ls : List Lexeme) → AreFirsts cs p → opens p ls ≡ sees_any cs ls
opens_any cs p [] f = refl
opens_any cs p (t ∷ ts) f = opens_firsts (t ∷ ts) p ∙ f t

none_seen : (cs : List Terminal) → sees_one cs [] ≡ false
none_seen [] = refl
none_seen (c ∷ cs) = none_seen cs

one_seen : (cs : List Terminal) (t : Lexeme) (ts : List Lexeme) → sees_one cs (t ∷ ts) ≡ is_any cs t
one_seen [] t ts = refl
one_seen (c ∷ cs) t ts = ap (λ b. is c t || b) (one_seen cs t ts)

pub seen_any : (cs : List Terminal) (ls : List Lexeme) → sees_one cs ls ≡ sees_any cs ls
seen_any cs [] = none_seen cs
seen_any cs (t ∷ ts) = one_seen cs t ts

pub any_one : (c : Terminal) (ls : List Lexeme) → sees c ls ≡ sees_any (c ∷ []) ls
any_one c ls = or_last (sees c ls) ∙ seen_any (c ∷ []) ls

pub any_two : (c d : Terminal) (ls : List Lexeme) → (sees c ls || sees d ls) ≡ sees_any (c ∷ d ∷ []) ls
any_two c d ls = ap (λ b. sees c ls || b) (or_last (sees d ls)) ∙ seen_any (c ∷ d ∷ []) ls

pub any_four : (c d e f : Terminal) (ls : List Lexeme) → (sees c ls || (sees d ls || (sees e ls || sees f ls))) ≡ sees_any (c ∷ d ∷ e ∷ f ∷ []) ls
any_four c d e f ls = ap (λ b. sees c ls || (sees d ls || (sees e ls || b))) (or_last (sees f ls)) ∙ seen_any (c ∷ d ∷ e ∷ f ∷ []) ls

-- a part that begins with this token alone
pub opens_sees : (c : Terminal) (p : Part) (ls : List Lexeme) → AreFirsts (c ∷ []) p → opens p ls ≡ sees c ls
opens_sees c p ls f = opens_any (c ∷ []) p ls f ∙ sym (any_one c ls)

pub bar : (c : Terminal) (k : Part) (ls : List Lexeme) → Bars (c ∷ []) k → IsTrue (sees c ls) → opens k ls ≡ false
bar c k ls b h = barred (c ∷ []) k ls b (sym (any_one c ls) ∙ h)

-- a repetition of a part that begins with one of cs, before one that doesn't
pub many_fate : {A : Type 0} (n : ℕ) (cs : List Terminal) (p k : Part) (begins : List Lexeme → Bool) (item : List Lexeme → Read A) → Shrinks item → empties 12 p ≡ false → AreFirsts cs p → Bars cs k
    → ((ls : List Lexeme) → begins ls ≡ sees_any cs ls)
    → ((ls : List Lexeme) → judge (sunk n p ⨟ (sunk n (many p) ⨟ k)) ls ≡ fate (sunk n (many p) ⨟ k) (item ls))
    → (ls : List Lexeme) → judge (sunk n (many p) ⨟ k) ls ≡ fate k (repeated begins item ls)
many_fate n cs p k begins item s e f b same law ls = loop_fate (sunk n (many p) ⨟ k) k begins item s
    (λ us h. more_at n p k us e (opens_any cs p us f ∙ (sym (same us) ∙ h)) (barred cs k us b (sym (same us) ∙ h)) ∙ law us)
    (λ us h. done_at n p k us e (opens_any cs p us f ∙ (sym (same us) ∙ h))) ls

-- what follows a name decides
pub behind_name : (n : ℕ) (p q k : Part) (ls : List Lexeme) → n ≤ 200 → judge (sunk n p ⨟ k) (drop 1 ls) ≡ judge (sunk n q ⨟ k) (drop 1 ls) → judge (sunk n (some id ⨟ p) ⨟ k) ls ≡ judge (sunk n (some id ⨟ q) ⨟ k) ls
behind_name n p q k ls b h = judge_order n (some id) p k ls ∙ (sides (sees (kind id) ls) refl ∙ sym (judge_order n (some id) q k ls))
  where
    sides : (s : Bool) → sees (kind id) ls ≡ s → judge (sunk n (some id) ⨟ (sunk n p ⨟ k)) ls ≡ judge (sunk n (some id) ⨟ (sunk n q ⨟ k)) ls
    sides true e = seen_there n (kind id) (sunk n p ⨟ k) ls b refl e ∙ (h ∙ sym (seen_there n (kind id) (sunk n q ⨟ k) ls b refl e))
    sides false e = unseen n (kind id) (sunk n p ⨟ k) ls e ∙ sym (unseen n (kind id) (sunk n q ⨟ k) ls e)

-- a part that begins with none of what goes on with an expression

pub ends_then : (n : ℕ) (p k : Part) → empties 12 p ≡ false → IsTrue (all_apart (firsts any_operation) (firsts p)) → IsTrue (all_apart opening (firsts p)) → IsTrue (all_apart (fixed (codes ",") ∷ []) (firsts p)) → Ends (sunk n p ⨟ k)
ends_then n p k e a b c = record { no_operation = bars_then (firsts any_operation) n p k e a; no_call = bars_then opening n p k e b; no_comma = bars_then (fixed (codes ",") ∷ []) n p k e c }

pub closes_then : (n : ℕ) (p k : Part) → empties 12 p ≡ false → IsTrue (all_apart (firsts any_operation) (firsts p)) → IsTrue (all_apart opening (firsts p)) → IsTrue (all_apart (fixed (codes "where") ∷ []) (firsts p)) → IsTrue (all_apart (fixed (codes ",") ∷ []) (firsts p)) → Closes (sunk n p ⨟ k)
closes_then n p k e a b w c = record {
  no_operation = bars_then (firsts any_operation) n p k e a;
  no_call = bars_then opening n p k e b;
  no_where = bars_then (fixed (codes "where") ∷ []) n p k e w;
  no_comma = bars_then (fixed (codes ",") ∷ []) n p k e c;
}
