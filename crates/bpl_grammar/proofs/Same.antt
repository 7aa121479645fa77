-- Parts with the same spellings, whose tokens lie equally deep, have the same fate.
use Rattle.std.specs.Prelude.{◌≡◌, ℕ, ◌≤◌, Bool, true, false, List, [], ◌∷◌, IsTrue, Option, Some, None}
use Rattle.std.proofs.Common.{refl, ap, ◌∙◌, arith}
use Rattle.bpl_grammar.specs.Lexeme.{Lexeme}
use Rattle.bpl_grammar.specs.Part.{Part}
use Rattle.bpl_grammar.specs.Spelling.{Spells}
use Rattle.bpl_grammar.specs.Nesting.{Lies}
use Rattle.bpl_grammar.specs.Derivative.{empties, left_of}
use Rattle.bpl_grammar.specs.Depth.{depth_of}
use Rattle.bpl_grammar.specs.Judge.{ending, going, too_deep, too_wide, judge}
use Rattle.bpl_grammar.specs.Reads.{is_there, starts}
use Rattle.bpl_grammar.specs.Follows.{IsReached, IsWithinAt}
use Rattle.bpl_grammar.proofs.Sound.{TakesLeft}
use Rattle.bpl_grammar.proofs.Decide.{spells_right, spells_found}
use Rattle.bpl_grammar.proofs.DepthSound.{depth_lies}
use Rattle.bpl_grammar.proofs.DepthFound.{LiesLeft, left_lies}
use Rattle.bpl_grammar.proofs.DepthMost.{Reaches}
use Rattle.bpl_grammar.proofs.First.{starts_depth, lies_next, lies_depth, nothing_lies, left_spells, spells_left, reaches_there}

-- q goes at least as far as p, and as deep
pub record IsWithin (p q : Part) : Type 0 where
  pub spells : (ts : List Lexeme) → Spells p ts → Spells q ts
  pub lies : (ts : List Lexeme) (n : ℕ) → Lies p ts n → IsReached q ts n

pub record AreSame (p q : Part) : Type 0 where
  pub there : IsWithin p q
  pub back : IsWithin q p

pub record AreSameAt (t : Lexeme) (p q : Part) : Type 0 where
  pub there : IsWithinAt t p q
  pub back : IsWithinAt t q p

pub within_at : (t : Lexeme) (p q : Part) → IsWithin p q → IsWithinAt t p q
within_at t p q w = record { spells = λ ts d. w.spells (t ∷ ts) d; lies = λ ts n l. w.lies (t ∷ ts) n l }

pub same_at : (t : Lexeme) (p q : Part) → AreSame p q → AreSameAt t p q
same_at t p q s = record { there = within_at t p q s.there; back = within_at t q p s.back }

-- how deep

reached_depth : (t : Lexeme) (q : Part) (n : ℕ) → IsReached q (t ∷ []) n → Reaches (depth_of t q) n
reached_depth t q n r = further (depth_of t q) (lies_depth t q r.0 r.2)
  where
    further : (o : Option ℕ) → Reaches o r.0 → Reaches o n
    further None h = h
    further (Some m) h = omega (arith, r.1)

within_depth : (t : Lexeme) (p q : Part) → IsWithinAt t p q → (n : ℕ) → depth_of t p ≡ Some n → Reaches (depth_of t q) n
within_depth t p q w n e = reached_depth t q n (w.lies [] n (depth_lies t p n e))

same_option : (a b : Option ℕ) → ((n : ℕ) → a ≡ Some n → Reaches b n) → ((n : ℕ) → b ≡ Some n → Reaches a n) → a ≡ b
same_option None None f g = refl
same_option None (Some n) f g = absurd (g n refl)
same_option (Some m) None f g = absurd (f m refl)
same_option (Some m) (Some n) f g =
    let e : m ≡ n = omega (arith, f m refl, g n refl) in
    ap Some e

same_depth : (t : Lexeme) (p q : Part) → AreSameAt t p q → depth_of t p ≡ depth_of t q
same_depth t p q s = same_option (depth_of t p) (depth_of t q) (within_depth t p q s.there) (within_depth t q p s.back)

-- what is left

abbrev pub IsWithinLeft : Option Part → Option Part → Type 0
IsWithinLeft None o = Unit {0}
IsWithinLeft (Some p) None = ⊥
IsWithinLeft (Some p) (Some q) = IsWithin p q

abbrev IsReachedLeft : Option Part → List Lexeme → ℕ → Type 0
IsReachedLeft o ts n = (m : ℕ) × (n ≤ m) × LiesLeft o ts m

within_left : (o r : Option Part) → (IsTrue (is_there o) → IsTrue (is_there r)) → ((ts : List Lexeme) → TakesLeft o ts [] → TakesLeft r ts []) → ((ts : List Lexeme) (n : ℕ) → LiesLeft o ts n → IsReachedLeft r ts n) → IsWithinLeft o r
within_left None r h hs hl = tt
within_left (Some p) None h hs hl = absurd (cc (h refl))
within_left (Some p) (Some q) h hs hl = record { spells = hs; lies = hl }

depth_there : (o : Option ℕ) → IsTrue (is_there o) → (n : ℕ) × (o ≡ Some n)
depth_there None h = absurd (cc)
depth_there (Some n) h = (n, refl)

starts_within : (t : Lexeme) (p q : Part) → IsWithinAt t p q → IsTrue (starts p t) → IsTrue (starts q t)
starts_within t p q w h =
    let d = depth_there (depth_of t p) (rw (starts_depth t p) at h) in
    rw (starts_depth t q) (reaches_there (depth_of t q) d.0 (within_depth t p q w d.0 d.1))

lies_left : (t : Lexeme) (p q : Part) → IsWithinAt t p q → (ts : List Lexeme) (n : ℕ) → LiesLeft (left_of t p) ts n → IsReachedLeft (left_of t q) ts n
lies_left t p q w [] n l = absurd (nowhere (left_of t p) l)
  where
    nowhere : (o : Option Part) → LiesLeft o [] n → ⊥
    nowhere None h = h
    nowhere (Some r) h = nothing_lies r n h
lies_left t p q w (u ∷ ts) n l =
    let r = w.lies (u ∷ ts) n (left_lies t p (u ∷ ts) n l) in
    (r.0, r.1, lies_next t u ts q r.0 r.2)

within_step : (t : Lexeme) (p q : Part) → IsWithinAt t p q → IsWithinLeft (left_of t p) (left_of t q)
within_step t p q w = within_left (left_of t p) (left_of t q) (starts_within t p q w)
    (λ ts d. left_spells t q ts (w.spells ts (spells_left t p ts d)))
    (lies_left t p q w)

-- the fate

empty_side : (p q : Part) → ((ts : List Lexeme) → Spells p ts → Spells q ts) → IsTrue (empties 12 p) → IsTrue (empties 12 q)
empty_side p q f h = spells_found [] q (f [] (spells_right [] p h))

same_end : (a b : Bool) → (IsTrue a → IsTrue b) → (IsTrue b → IsTrue a) → ending a ≡ ending b
same_end true true f g = refl
same_end true false f g = absurd (cc (f refl))
same_end false true f g = absurd (cc (g refl))
same_end false false f g = refl

same_next : (o r : Option Part) (d w : Bool) (ts us : List Lexeme) → IsWithinLeft o r → IsWithinLeft r o → ((p q : Part) → AreSame p q → judge p ts ≡ judge q ts)
    → going o d w (λ q. judge q ts) us ≡ going r d w (λ q. judge q ts) us
same_next None None d w ts us f g ih = refl
same_next None (Some q) d w ts us f g ih = absurd g
same_next (Some p) None d w ts us f g ih = absurd f
same_next (Some p) (Some q) true w ts us f g ih = refl
same_next (Some p) (Some q) false true ts us f g ih = refl
same_next (Some p) (Some q) false false ts us f g ih = ih p q (record { there = f; back = g })

step_same : (t : Lexeme) (ts : List Lexeme) (p q : Part) → AreSameAt t p q → ((p q : Part) → AreSame p q → judge p ts ≡ judge q ts) → judge p (t ∷ ts) ≡ judge q (t ∷ ts)
step_same t ts p q s ih =
    same_next (left_of t p) (left_of t q) (too_deep (depth_of t p)) (too_wide t) ts (t ∷ ts) (within_step t p q s.there) (within_step t q p s.back) ih
    ∙ ap (λ d. going (left_of t q) (too_deep d) (too_wide t) (λ r. judge r ts) (t ∷ ts)) (same_depth t p q s)

pub judge_same : (ts : List Lexeme) (p q : Part) → AreSame p q → judge p ts ≡ judge q ts
judge_same [] p q s = same_end (empties 12 p) (empties 12 q) (empty_side p q s.there.spells) (empty_side q p s.back.spells)
judge_same (t ∷ ts) p q s = step_same t ts p q (same_at t p q s) (judge_same ts)

-- parts that are the same from the first token on
pub judge_at : (t : Lexeme) (ts : List Lexeme) (p q : Part) → AreSameAt t p q → judge p (t ∷ ts) ≡ judge q (t ∷ ts)
judge_at t ts p q s = step_same t ts p q s (judge_same ts)
