-- The fate of the tokens of a text is its fault.
use Rattle.std.specs.Prelude.{◌≡◌, ◌⊎◌, ℕ, zero, suc, ◌<◌, ◌≤◌, Bool, true, false, List, [], ◌∷◌, drop, length, slice_get, IsTrue, Option, Some, None, Result, Ok, Err}
use Rattle.std.proofs.Common.{refl, ap, sym, ◌∙◌, inl, inr, arith}
use Rattle.bpl_lex.specs.Token.{Token}
use Rattle.bpl_lex.specs.Lexing.{tokens}
use Rattle.bpl_grammar.specs.Lexeme.{Lexeme, lexemes}
use Rattle.bpl_grammar.specs.Part.{Part}
use Rattle.bpl_grammar.specs.Derivative.{empties, left_of}
use Rattle.bpl_grammar.specs.Depth.{depth_of}
use Rattle.bpl_grammar.specs.Judge.{Fate, fine, fails, Mark, syntax, deep, wide, ending, going, too_deep, too_wide, judge}
use Rattle.bpl_grammar.specs.Fault.{IsClean, AreClean, AreFaultless, StopsAt, IsStop, up_to, byte_of, Fault, lexical, marked, FaultlessBy, FaultOf}
use Rattle.bpl_grammar.specs.FaultLaw.{FineIsFaultless, FailsAtTheFault, FaultlessOrFault, NeverBoth, OneFault}
use Rattle.bpl_grammar.proofs.Decide.{spells_right, spells_found}
use Rattle.bpl_grammar.proofs.Stops.{stop_syntax, stop_deep, stop_wide, stop_behind, faultless_behind}

-- a fate is the fault

abbrev pub IsFault : Part → List Lexeme → Fate → Type 0
IsFault p ls fine = AreFaultless p ls
IsFault p ls (fails m us) = (k : ℕ) × IsStop p ls k m × (us ≡ drop k ls)

end_faultless : (p : Part) → IsTrue (empties 12 p) → AreFaultless p []
end_faultless p h = record { spells = spells_right [] p h; clean = λ k t l g. absurd (omega (arith, l)) }

end_stops : (p : Part) → empties 12 p ≡ false → IsStop p [] 0 syntax
end_stops p h = record {
  clean = λ k t l g. absurd (omega (arith, l));
  stops = λ t g. absurd (cc);
  ends = λ l. (refl, λ s. absurd (cc (spells_found [] p s, h)));
  within = omega arith;
}

end_fault : (p : Part) (b : Bool) → empties 12 p ≡ b → IsFault p [] (ending b)
end_fault p true e = end_faultless p e
end_fault p false e = (0, end_stops p e, refl)

fault_behind : (p q : Part) (t : Lexeme) (ts : List Lexeme) (f : Fate) → left_of t p ≡ Some q → too_deep (depth_of t p) ≡ false → too_wide t ≡ false → IsFault q ts f → IsFault p (t ∷ ts) f
fault_behind p q t ts fine e d w x = faultless_behind p q t ts e d w x
fault_behind p q t ts (fails m us) e d w x = (suc x.0, stop_behind p q t ts e d w x.0 m x.1, x.2)

going_fault : (p : Part) (t : Lexeme) (ts : List Lexeme) (o : Option Part) (d w : Bool) → left_of t p ≡ o → too_deep (depth_of t p) ≡ d → too_wide t ≡ w → ((q : Part) → IsFault q ts (judge q ts))
    → IsFault p (t ∷ ts) (going o d w (λ q. judge q ts) (t ∷ ts))
going_fault p t ts None d w e f g ih = (0, stop_syntax p t ts e, refl)
going_fault p t ts (Some q) true w e f g ih = (0, stop_deep p q t ts e f, refl)
going_fault p t ts (Some q) false true e f g ih = (0, stop_wide p q t ts e f g, refl)
going_fault p t ts (Some q) false false e f g ih = fault_behind p q t ts (judge q ts) e f g (ih q)

pub fate_fault : (ls : List Lexeme) (p : Part) → IsFault p ls (judge p ls)
fate_fault [] p = end_fault p (empties 12 p) refl
fate_fault (t ∷ ts) p = going_fault p t ts (left_of t p) (too_deep (depth_of t p)) (too_wide t) refl refl refl (fate_fault ts)

-- one fault at most

clean_goes : (p : Part) (ls : List Lexeme) (k : ℕ) (t : Lexeme) (m : Mark) → IsClean p ls k t → StopsAt p (up_to k ls) t m → ⊥
clean_goes p ls k t syntax c s = s c.begins
clean_goes p ls k t deep c s = c.shallow s.1
clean_goes p ls k t wide c s = c.narrow s.2

same_mark : (p : Part) (us : List Lexeme) (t : Lexeme) (m l : Mark) → StopsAt p us t m → StopsAt p us t l → m ≡ l
same_mark p us t syntax syntax s r = refl
same_mark p us t syntax deep s r = absurd (s r.0)
same_mark p us t syntax wide s r = absurd (s r.0)
same_mark p us t deep syntax s r = absurd (r s.0)
same_mark p us t deep deep s r = refl
same_mark p us t deep wide s r = absurd (r.1 s.1)
same_mark p us t wide syntax s r = absurd (r s.0)
same_mark p us t wide deep s r = absurd (s.1 r.1)
same_mark p us t wide wide s r = refl

pub token_at : (ls : List Lexeme) (k : ℕ) → k < length ls → (t : Lexeme) × (slice_get ls k ≡ Some t)
token_at [] k h = absurd (omega (arith, h))
token_at (t ∷ ts) zero h = (t, refl)
token_at (t ∷ ts) (suc k) h = token_at ts k (omega (arith, h))

not_before : (p : Part) (ls : List Lexeme) (k n : ℕ) (m : Mark) → IsStop p ls k m → AreClean p ls n → n ≤ length ls → k < n → ⊥
not_before p ls k n m s c w h =
    let t = token_at ls k (omega (arith, w, h)) in
    clean_goes p ls k t.0 m (c k t.0 h t.1) (s.stops t.0 t.1)

never : (p : Part) (ls : List Lexeme) (k : ℕ) (m : Mark) → AreFaultless p ls → IsStop p ls k m → ⊥
never p ls k m f s = sides (token_or_end k (length ls))
  where
    token_or_end : (a b : ℕ) → (a < b) ⊎ (b ≤ a)
    token_or_end a b = grind arith

    sides : (k < length ls) ⊎ (length ls ≤ k) → ⊥
    sides (inl h) = not_before p ls k (length ls) m s f.clean (omega arith) h
    sides (inr h) = (s.ends h).1 f.spells

three : (a b : ℕ) → (a < b) ⊎ ((a ≡ b) ⊎ (b < a))
three a b = grind arith

marks_same : (p : Part) (ls : List Lexeme) (k : ℕ) (m l : Mark) → IsStop p ls k m → IsStop p ls k l → m ≡ l
marks_same p ls k m l s r = sides (three k (length ls))
  where
    at_end : length ls ≤ k → m ≡ l
    at_end h = (s.ends h).0 ∙ sym (r.ends h).0

    sides : (k < length ls) ⊎ ((k ≡ length ls) ⊎ (length ls < k)) → m ≡ l
    sides (inl h) = let t = token_at ls k h in same_mark p (up_to k ls) t.0 m l (s.stops t.0 t.1) (r.stops t.0 t.1)
    sides (inr (inl h)) = at_end (omega (arith, h))
    sides (inr (inr h)) = at_end (omega (arith, h))

one_stop : (p : Part) (ls : List Lexeme) (k j : ℕ) (m l : Mark) → IsStop p ls k m → IsStop p ls j l → (k ≡ j) × (m ≡ l)
one_stop p ls k j m l s r = sides (three k j)
  where
    sides : (k < j) ⊎ ((k ≡ j) ⊎ (j < k)) → (k ≡ j) × (m ≡ l)
    sides (inl h) = absurd (not_before p ls k j m s r.clean r.within h)
    sides (inr (inl h)) = (h, marks_same p ls k m l s (rw h r))
    sides (inr (inr h)) = absurd (not_before p ls j k l r s.clean s.within h)

-- both ways

is_fine : (p : Part) (ls : List Lexeme) (f : Fate) → IsFault p ls f → AreFaultless p ls → f ≡ fine
is_fine p ls fine x a = refl
is_fine p ls (fails m us) x a = absurd (never p ls x.0 m a x.1)

pub fine_is_faultless : FineIsFaultless
fine_is_faultless p ls = (λ e. rw e at (fate_fault ls p), λ a. is_fine p ls (judge p ls) (fate_fault ls p) a)

is_failing : (p : Part) (ls : List Lexeme) (f : Fate) (k : ℕ) (m : Mark) (us : List Lexeme) → IsFault p ls f → IsStop p ls k m → us ≡ drop k ls → f ≡ fails m us
is_failing p ls fine k m us x s e = absurd (never p ls k m x s)
is_failing p ls (fails l vs) k m us x s e =
    let o = one_stop p ls k x.0 m l s x.1 in
    let same : vs ≡ us = x.2 ∙ (ap (λ i. drop i ls) (sym o.0) ∙ sym e) in
    ap (λ i. fails i vs) (sym o.1) ∙ ap (fails m) same

pub fails_at_the_fault : FailsAtTheFault
fails_at_the_fault p ls m us = (λ e. rw e at (fate_fault ls p), λ x. is_failing p ls (judge p ls) x.0 m us (fate_fault ls p) x.1 x.2)

-- whole texts

judged : (p : Part) (bytes : List ℕ) (ts : List Token) (f : Fate) → IsFault p (lexemes bytes 0 ts) f → AreFaultless p (lexemes bytes 0 ts) ⊎ ((f : Fault) × FaultOf p bytes (Ok ts) f)
judged p bytes ts fine x = inl x
judged p bytes ts (fails m us) x = inr (marked m (byte_of ts x.0), (x.0, m, x.1, refl))

by_tokens : (p : Part) (bytes : List ℕ) (r : Result (List Token) ℕ) → FaultlessBy p bytes r ⊎ ((f : Fault) × FaultOf p bytes r f)
by_tokens p bytes (Err at) = inr (lexical at, refl)
by_tokens p bytes (Ok ts) = judged p bytes ts (judge p (lexemes bytes 0 ts)) (fate_fault (lexemes bytes 0 ts) p)

pub faultless_or_fault : FaultlessOrFault
faultless_or_fault p bytes = by_tokens p bytes (tokens bytes)

both_by : (p : Part) (bytes : List ℕ) (r : Result (List Token) ℕ) (f : Fault) → FaultlessBy p bytes r → FaultOf p bytes r f → ⊥
both_by p bytes (Err at) f a x = a
both_by p bytes (Ok ts) f a x = never p (lexemes bytes 0 ts) x.0 x.1 a x.2

pub never_both : NeverBoth
never_both p bytes f a x = both_by p bytes (tokens bytes) f a x

one_by : (p : Part) (bytes : List ℕ) (r : Result (List Token) ℕ) (f g : Fault) → FaultOf p bytes r f → FaultOf p bytes r g → f ≡ g
one_by p bytes (Err at) f g x y = x ∙ sym y
one_by p bytes (Ok ts) f g x y =
    let o = one_stop p (lexemes bytes 0 ts) x.0 y.0 x.1 y.1 x.2 y.2 in
    x.3 ∙ (ap (λ i. marked x.1 (byte_of ts i)) o.0 ∙ (ap (λ i. marked i (byte_of ts y.0)) o.1 ∙ sym y.3))

pub one_fault : OneFault
one_fault p bytes f g x y = one_by p bytes (tokens bytes) f g x y
