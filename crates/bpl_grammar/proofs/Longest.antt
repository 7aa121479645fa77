-- Where a fault of syntax stands, no more tokens spell the part.
use Rattle.std.specs.Prelude.{◌≡◌, ℕ, suc, ◌≤◌, Bool, true, false, List, [], ◌∷◌, length, Option, Some, None}
use Rattle.std.proofs.Common.{inl, inr, arith}
use Rattle.bpl_grammar.specs.Lexeme.{Lexeme}
use Rattle.bpl_grammar.specs.Part.{Part, nothing, ◌⨟◌}
use Rattle.bpl_grammar.specs.Spelling.{Takes, empty, both}
use Rattle.bpl_grammar.specs.Derivative.{empties, left_of}
use Rattle.bpl_grammar.specs.Depth.{depth_of}
use Rattle.bpl_grammar.specs.Judge.{Mark, syntax, deep, wide, fails, ending, going, too_deep, too_wide, judge}
use Rattle.bpl_grammar.specs.Reads.{sunk}
use Rattle.bpl_grammar.proofs.Sound.{TakesLeft}
use Rattle.bpl_grammar.proofs.Complete.{IsCut, takes_complete}
use Rattle.bpl_grammar.proofs.Decide.{always}
use Rattle.bpl_grammar.proofs.Sunk.{up}

pub same_fault : (m l : Mark) (us vs : List Lexeme) → fails m us ≡ fails l vs → (m ≡ l) × (us ≡ vs)
same_fault m l us vs h = (cc, cc)

at_end : (b : Bool) (m : Mark) (us : List Lexeme) → ending b ≡ fails m us → length us ≤ 0
at_end true m us h = absurd (cc)
at_end false m us h = let e = (same_fault syntax m [] us h).1 in rw (← e) (omega arith)

-- the fault stands among the tokens, or at their end
pub fault_within : (ls : List Lexeme) (p : Part) (m : Mark) (us : List Lexeme) → judge p ls ≡ fails m us → length us ≤ length ls
fault_within [] p m us h = at_end (empties 12 p) m us h
fault_within (t ∷ ts) p m us h = gone (left_of t p) (too_deep (depth_of t p)) (too_wide t) h (λ q. fault_within ts q m us)
  where
    here : (l : Mark) → fails l (t ∷ ts) ≡ fails m us → length us ≤ suc (length ts)
    here l g = let e = (same_fault l m (t ∷ ts) us g).1 in rw (← e) (omega arith)

    gone : (o : Option Part) (d w : Bool) → going o d w (λ q. judge q ts) (t ∷ ts) ≡ fails m us → ((q : Part) → judge q ts ≡ fails m us → length us ≤ length ts) → length us ≤ suc (length ts)
    gone None d w g ih = here syntax g
    gone (Some q) true w g ih = here deep g
    gone (Some q) false true g ih = here wide g
    gone (Some q) false false g ih = omega (arith, ih q g)

pub stops_there : (ls : List Lexeme) (p : Part) (us vs : List Lexeme) → judge p ls ≡ fails syntax us → Takes p ls vs → length us ≤ length vs
stops_there [] p us vs h d = omega (arith, fault_within [] p syntax us h)
stops_there (t ∷ ts) p us vs h d = cut (takes_complete 12 d (always p)) (λ q. stops_there ts q us vs)
  where
    gone : (o : Option Part) (e w : Bool) → going o e w (λ q. judge q ts) (t ∷ ts) ≡ fails syntax us → TakesLeft o ts vs → ((q : Part) → judge q ts ≡ fails syntax us → Takes q ts vs → length us ≤ length vs) → length us ≤ length vs
    gone None e w g l ih = absurd l
    gone (Some q) true w g l ih = absurd (cc ((same_fault deep syntax (t ∷ ts) us g).0))
    gone (Some q) false true g l ih = absurd (cc ((same_fault wide syntax (t ∷ ts) us g).0))
    gone (Some q) false false g l ih = ih q g l

    cut : IsCut 12 p (t ∷ ts) vs → ((q : Part) → judge q ts ≡ fails syntax us → Takes q ts vs → length us ≤ length vs) → length us ≤ length vs
    cut (inl x) ih = rw (← x.0) (fault_within (t ∷ ts) p syntax us h)
    cut (inr x) ih =
        let same : t ≡ x.0 = cc (x.2) in
        let rest : ts ≡ x.1 = cc (x.2) in
        gone (left_of t p) (too_deep (depth_of t p)) (too_wide t) h (rw (same, rest) x.3) ih

-- What goes no further than to us is the longest that spells the part.
pub longest_there : (n : ℕ) (p : Part) (ls us vs : List Lexeme) → judge (sunk n p ⨟ nothing) ls ≡ judge nothing us → Takes p ls vs → length us ≤ length vs
longest_there n p ls [] vs h d = omega arith
longest_there n p ls (t ∷ ts) vs h d = stops_there ls (sunk n p ⨟ nothing) (t ∷ ts) vs h (both (up n d) empty)
