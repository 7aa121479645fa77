-- Where the tokens of a part stop: at the first token, or behind it where they stop with what is left of the part.
use Rattle.std.specs.Prelude.{◌≡◌, ℕ, zero, suc, false, List, [], ◌∷◌, take, length, slice_get, IsTrue, Option, Some, None}
use Rattle.std.proofs.Common.{refl, ap, arith}
use Rattle.bpl_grammar.specs.Lexeme.{Lexeme}
use Rattle.bpl_grammar.specs.Part.{Part}
use Rattle.bpl_grammar.specs.Spelling.{Spells, Begins, none}
use Rattle.bpl_grammar.specs.Nesting.{IsDeep}
use Rattle.bpl_grammar.specs.Derivative.{left_of}
use Rattle.bpl_grammar.specs.Depth.{depth_of}
use Rattle.bpl_grammar.specs.Judge.{Mark, syntax, deep, wide, too_deep, too_wide}
use Rattle.bpl_grammar.specs.Fault.{IsClean, AreClean, AreFaultless, StopsAt, IsStop, up_to}
use Rattle.bpl_grammar.proofs.Sound.{BeginsLeft, begins_sound}
use Rattle.bpl_grammar.proofs.Complete.{begins_complete}
use Rattle.bpl_grammar.proofs.Decide.{always, begun_cons}
use Rattle.bpl_grammar.proofs.DepthFound.{left_lies}
use Rattle.bpl_grammar.proofs.First.{left_spells, spells_left, lies_next}
use Rattle.bpl_grammar.proofs.Marks.{deep_one, shallow_one, wide_one, narrow_one}

begins_left : (t : Lexeme) (p : Part) (ts : List Lexeme) → BeginsLeft (left_of t p) ts → Begins p (t ∷ ts)
begins_left t p ts b = begins_sound 12 t p ts b

left_begins : (t : Lexeme) (p : Part) (ts : List Lexeme) → Begins p (t ∷ ts) → BeginsLeft (left_of t p) ts
left_begins t p ts b = begun_cons t ts p (begins_complete 12 b (always p))

same_token : (t u : Lexeme) → Some t ≡ Some u → t ≡ u
same_token t u h = ap token h
  where
    token : Option Lexeme → Lexeme
    token None = t
    token (Some x) = x

-- a fault at the first token

none_before : (p : Part) (ls : List Lexeme) → AreClean p ls 0
none_before p ls = λ k t h g. absurd (omega (arith, h))

first_stops : (p : Part) (t : Lexeme) (ts : List Lexeme) (m : Mark) → StopsAt p (t ∷ []) t m → IsStop p (t ∷ ts) 0 m
first_stops p t ts m s = record {
  clean = none_before p (t ∷ ts);
  stops = λ u h. rw (← same_token t u h) s;
  ends = λ h. absurd (omega (arith, h));
  within = omega arith;
}

pub stop_syntax : (p : Part) (t : Lexeme) (ts : List Lexeme) → left_of t p ≡ None → IsStop p (t ∷ ts) 0 syntax
stop_syntax p t ts e = first_stops p t ts syntax (λ b. nothing_left (left_of t p) e (left_begins t p [] b))
  where
    nothing_left : (o : Option Part) → o ≡ None → BeginsLeft o [] → ⊥
    nothing_left None e b = b
    nothing_left (Some q) e b = absurd (cc)

module _ (p q : Part) (t : Lexeme) (ts : List Lexeme) (e : left_of t p ≡ Some q) where
  begins_first : Begins p (t ∷ [])
  begins_first = begins_left t p [] (rw e none)

  pub stop_deep : IsTrue (too_deep (depth_of t p)) → IsStop p (t ∷ ts) 0 deep
  stop_deep d = first_stops p t ts deep (begins_first, deep_one t p d)

  pub stop_wide : too_deep (depth_of t p) ≡ false → IsTrue (too_wide t) → IsStop p (t ∷ ts) 0 wide
  stop_wide d w = first_stops p t ts wide (begins_first, shallow_one t p d, wide_one t w)

  -- no fault at the first token

  module _ (d : too_deep (depth_of t p) ≡ false) (w : too_wide t ≡ false) where
    clean_first : IsClean p (t ∷ ts) 0 t
    clean_first = record { begins = begins_first; shallow = shallow_one t p d; narrow = narrow_one t w }

    begins_behind : (us : List Lexeme) → Begins q us → Begins p (t ∷ us)
    begins_behind us b = begins_left t p us (rw e b)

    behind_begins : (us : List Lexeme) → Begins p (t ∷ us) → Begins q us
    behind_begins us b = rw e at (left_begins t p us b)

    deep_behind : (us : List Lexeme) → IsDeep q us → IsDeep p (t ∷ us)
    deep_behind us x = (x.0, x.1, left_lies t p us x.0 (rw e x.2))

    behind_deep : (us vs : List Lexeme) (u : Lexeme) → us ≡ u ∷ vs → IsDeep p (t ∷ us) → IsDeep q us
    behind_deep us vs u s x = rw s (deep_next (rw s at x))
      where
        deep_next : IsDeep p (t ∷ u ∷ vs) → IsDeep q (u ∷ vs)
        deep_next y = (y.0, y.1, rw e at (lies_next t u vs p y.0 y.2))

    spells_behind : Spells q ts → Spells p (t ∷ ts)
    spells_behind s = spells_left t p ts (rw e s)

    behind_spells : Spells p (t ∷ ts) → Spells q ts
    behind_spells s = rw e at (left_spells t p ts s)

    one_more : (k : ℕ) (us : List Lexeme) (u : Lexeme) → slice_get us k ≡ Some u → (v : Lexeme) × (vs : List Lexeme) × (take (suc k) us ≡ v ∷ vs)
    one_more k [] u h = absurd (cc)
    one_more k (v ∷ vs) u h = (v, take k vs, refl)

    shallow_next : (k : ℕ) (u : Lexeme) → slice_get ts k ≡ Some u → (IsDeep q (up_to k ts) → ⊥) → IsDeep p (t ∷ up_to k ts) → ⊥
    shallow_next k u g c x =
        let m = one_more k ts u g in
        c (behind_deep (up_to k ts) m.1 m.0 m.2 x)

    clean_next : (k : ℕ) (u : Lexeme) → slice_get ts k ≡ Some u → IsClean q ts k u → IsClean p (t ∷ ts) (suc k) u
    clean_next k u g c = record { begins = begins_behind (up_to k ts) c.begins; shallow = shallow_next k u g c.shallow; narrow = c.narrow }

    clean_behind : (n : ℕ) → AreClean q ts n → AreClean p (t ∷ ts) (suc n)
    clean_behind n c zero u h g = rw (← same_token t u g) clean_first
    clean_behind n c (suc k) u h g = clean_next k u g (c k u (omega (arith, h)) g)

    stops_next : (k : ℕ) (u : Lexeme) (m : Mark) → slice_get ts k ≡ Some u → StopsAt q (up_to k ts) u m → StopsAt p (t ∷ up_to k ts) u m
    stops_next k u syntax g s = λ b. s (behind_begins (up_to k ts) b)
    stops_next k u deep g s = (begins_behind (up_to k ts) s.0, deep_behind (up_to k ts) s.1)
    stops_next k u wide g s = (begins_behind (up_to k ts) s.0, shallow_next k u g s.1, s.2)

    pub stop_behind : (k : ℕ) (m : Mark) → IsStop q ts k m → IsStop p (t ∷ ts) (suc k) m
    stop_behind k m s = record {
      clean = clean_behind k s.clean;
      stops = λ u g. stops_next k u m g (s.stops u g);
      ends = λ h. let x = s.ends (omega (arith, h)) in (x.0, λ y. x.1 (behind_spells y));
      within = omega (arith, s.within);
    }

    pub faultless_behind : AreFaultless q ts → AreFaultless p (t ∷ ts)
    faultless_behind f = record { spells = spells_behind f.spells; clean = clean_behind (length ts) f.clean }
