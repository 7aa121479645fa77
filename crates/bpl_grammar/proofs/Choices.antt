-- Which way the tokens go, by the first of them.
use Rattle.std.specs.Prelude.{◌≡◌, ℕ, ◌+◌, Bool, true, false, ◌||◌, List, [], ◌∷◌, IsTrue, Option, Some, None, option_map}
use Rattle.std.proofs.Common.{refl, ⊎_elim, ap, ◌∙◌}
use Rattle.bpl_grammar.specs.Lexeme.{Lexeme}
use Rattle.bpl_grammar.specs.Part.{Part, ◌⨟◌, ◌∣◌, maybe, many}
use Rattle.bpl_grammar.specs.Spelling.{Takes, Spells, both, left, right, absent, present, no_more, again}
use Rattle.bpl_grammar.specs.Nesting.{Lies, first, later, left as lies_left, right as lies_right, present as lies_present, once, again as lies_again}
use Rattle.bpl_grammar.specs.Derivative.{empties, either, onto, left_of}
use Rattle.bpl_grammar.specs.Depth.{depth_of}
use Rattle.bpl_grammar.specs.Judge.{Fate, syntax, fails, ending, going, too_deep, too_wide, judge}
use Rattle.bpl_grammar.specs.Follows.{IsReached, IsWithinAt}
use Rattle.bpl_grammar.specs.Reads.{sunk, is_there, starts, opens}
use Rattle.bpl_grammar.proofs.First.{onto_there, takes_starts, lies_starts}
use Rattle.bpl_grammar.proofs.Same.{judge_same, judge_at}
use Rattle.bpl_grammar.proofs.Sunk.{up, down, lies_up, lies_down, empties_sunk, left_sunk, reached}

-- a part that can't begin with the token goes no further than any other

never_spells : (t : Lexeme) (p : Part) (ts : List Lexeme) → starts p t ≡ false → Spells p (t ∷ ts) → ⊥
never_spells t p ts h d = ⊎_elim (λ e. absurd (cc (e))) (λ e. absurd (cc (e, h))) (takes_starts t ts [] p d)

never_lies : (t : Lexeme) (p : Part) (ts : List Lexeme) (n : ℕ) → starts p t ≡ false → Lies p (t ∷ ts) n → ⊥
never_lies t p ts n h l = absurd (cc (lies_starts t ts p n l, h))

pub never : (t : Lexeme) (p q : Part) → starts p t ≡ false → IsWithinAt t p q
never t p q h = record { spells = λ ts d. absurd (never_spells t p ts h d); lies = λ ts n l. absurd (never_lies t p ts n h l) }

-- of two parts the one that goes further

both_spells : (t : Lexeme) (p q : Part) → IsWithinAt t q p → (ts : List Lexeme) → Spells (p ∣ q) (t ∷ ts) → Spells p (t ∷ ts)
both_spells t p q w ts (left d) = d
both_spells t p q w ts (right d) = w.spells ts d

both_lies : (t : Lexeme) (p q : Part) → IsWithinAt t q p → (ts : List Lexeme) (n : ℕ) → Lies (p ∣ q) (t ∷ ts) n → IsReached p (t ∷ ts) n
both_lies t p q w ts n (lies_left l) = reached l
both_lies t p q w ts n (lies_right l) = w.lies ts n l

pub first_at : (t : Lexeme) (ts : List Lexeme) (p q : Part) → IsWithinAt t q p → judge (p ∣ q) (t ∷ ts) ≡ judge p (t ∷ ts)
first_at t ts p q w = judge_at t ts (p ∣ q) p (record {
  there = record { spells = both_spells t p q w; lies = both_lies t p q w };
  back = record { spells = λ us d. left d; lies = λ us n l. reached (lies_left l) };
})

other_spells : (t : Lexeme) (p q : Part) → IsWithinAt t p q → (ts : List Lexeme) → Spells (p ∣ q) (t ∷ ts) → Spells q (t ∷ ts)
other_spells t p q w ts (left d) = w.spells ts d
other_spells t p q w ts (right d) = d

other_lies : (t : Lexeme) (p q : Part) → IsWithinAt t p q → (ts : List Lexeme) (n : ℕ) → Lies (p ∣ q) (t ∷ ts) n → IsReached q (t ∷ ts) n
other_lies t p q w ts n (lies_left l) = w.lies ts n l
other_lies t p q w ts n (lies_right l) = reached l

pub second_at : (t : Lexeme) (ts : List Lexeme) (p q : Part) → IsWithinAt t p q → judge (p ∣ q) (t ∷ ts) ≡ judge q (t ∷ ts)
second_at t ts p q w = judge_at t ts (p ∣ q) q (record {
  there = record { spells = other_spells t p q w; lies = other_lies t p q w };
  back = record { spells = λ us d. right d; lies = λ us n l. reached (lies_right l) };
})

end_first : (a b : Bool) → b ≡ false → ending (a || b) ≡ ending a
end_first true b h = refl
end_first false b h = ap ending h

end_second : (a b : Bool) → a ≡ false → ending (a || b) ≡ ending b
end_second a b h = rw h refl

-- an alternative that isn't empty and can't begin with the token is none
pub judge_first : (ts : List Lexeme) (p q : Part) → opens q ts ≡ false → empties 12 q ≡ false → judge (p ∣ q) ts ≡ judge p ts
judge_first [] p q h e = end_first (empties 12 p) (empties 12 q) e
judge_first (t ∷ ts) p q h e = first_at t ts p q (never t q p h)

pub judge_second : (ts : List Lexeme) (p q : Part) → opens p ts ≡ false → empties 12 p ≡ false → judge (p ∣ q) ts ≡ judge q ts
judge_second [] p q h e = end_second (empties 12 p) (empties 12 q) e
judge_second (t ∷ ts) p q h e = second_at t ts p q (never t p q h)

-- the same where one alternative begins with the token
pub judge_opened : (ts : List Lexeme) (p q : Part) → opens q ts ≡ false → IsTrue (opens p ts) → judge (p ∣ q) ts ≡ judge p ts
judge_opened [] p q h e = absurd (cc)
judge_opened (t ∷ ts) p q h e = first_at t ts p q (never t q p h)

-- a part that isn't empty, and another behind it

starts_over : (b : Bool) → b ≡ false → (l m : Option Part) (q : Part) → is_there {A = Part} (elim b [ true ↦ either (onto l q) m | false ↦ onto l q ]) ≡ is_there l
starts_over b e l m q = rw e (onto_there l q)

pub map_there : (n : ℕ) (o : Option Part) → is_there (option_map (sunk n) o) ≡ is_there o
map_there n None = refl
map_there n (Some p) = refl

pub starts_sunk : (n : ℕ) (t : Lexeme) (p k : Part) → empties 12 p ≡ false → starts (sunk n p ⨟ k) t ≡ starts p t
starts_sunk n t p k e = starts_over (empties 12 (sunk n p)) (empties_sunk n p ∙ e) (left_of t (sunk n p)) (left_of t k) k ∙ (ap is_there (left_sunk n t p) ∙ map_there n (left_of t p))

pub opens_sunk : (n : ℕ) (ts : List Lexeme) (p k : Part) → empties 12 p ≡ false → opens (sunk n p ⨟ k) ts ≡ opens p ts
opens_sunk n [] p k e = refl
opens_sunk n (t ∷ ts) p k e = starts_sunk n t p k e

pub empties_then : (n : ℕ) (p k : Part) → empties 12 p ≡ false → empties 12 (sunk n p ⨟ k) ≡ false
empties_then n p k e = rw (empties_sunk n p ∙ e) refl

-- where it can't begin with the token, the fault stands there

fails_over : (o : Option Part) (d w : Bool) (f : Part → Fate) (ts : List Lexeme) → is_there o ≡ false → going o d w f ts ≡ fails syntax ts
fails_over None d w f ts h = refl
fails_over (Some p) d w f ts h = absurd (cc)

pub judge_stuck : (n : ℕ) (p k : Part) (ts : List Lexeme) → empties 12 p ≡ false → opens p ts ≡ false → judge (sunk n p ⨟ k) ts ≡ fails syntax ts
judge_stuck n p k [] e h = ap ending (empties_then n p k e)
judge_stuck n p k (t ∷ ts) e h = fails_over (left_of t (sunk n p ⨟ k)) (too_deep (depth_of t (sunk n p ⨟ k))) (too_wide t) (λ q. judge q ts) (t ∷ ts) (starts_sunk n t p k e ∙ h)

-- alternatives, options and repetitions, where they stand

choice_spells : (n : ℕ) (p q k : Part) (ts : List Lexeme) → Spells (sunk n (p ∣ q) ⨟ k) ts → Spells ((sunk n p ⨟ k) ∣ (sunk n q ⨟ k)) ts
choice_spells n p q k ts (both {us = us} d h) = split us (down n d) h
  where
    split : (us : List Lexeme) → Takes (p ∣ q) ts us → Spells k us → Spells ((sunk n p ⨟ k) ∣ (sunk n q ⨟ k)) ts
    split us (left d) h = left (both (up n d) h)
    split us (right d) h = right (both (up n d) h)

spells_choice : (n : ℕ) (p q k : Part) (ts : List Lexeme) → Spells ((sunk n p ⨟ k) ∣ (sunk n q ⨟ k)) ts → Spells (sunk n (p ∣ q) ⨟ k) ts
spells_choice n p q k ts (left (both d h)) = both (up n (left (down n d))) h
spells_choice n p q k ts (right (both d h)) = both (up n (right (down n d))) h

choice_lies : (n : ℕ) (p q k : Part) (ts : List Lexeme) (m : ℕ) → Lies (sunk n (p ∣ q) ⨟ k) ts m → IsReached ((sunk n p ⨟ k) ∣ (sunk n q ⨟ k)) ts m
choice_lies n p q k ts m (first l) = let d = lies_down n (p ∣ q) ts m l in split d.depth d.sum d.lies
  where
    split : (j : ℕ) → m ≡ n + j → Lies (p ∣ q) ts j → IsReached ((sunk n p ⨟ k) ∣ (sunk n q ⨟ k)) ts m
    split j e (lies_left l) = reached (lies_left (first (lies_up n j m e l)))
    split j e (lies_right l) = reached (lies_right (first (lies_up n j m e l)))
choice_lies n p q k ts m (later {us = us} d l) = split us (down n d) l
  where
    split : (us : List Lexeme) → Takes (p ∣ q) ts us → Lies k us m → IsReached ((sunk n p ⨟ k) ∣ (sunk n q ⨟ k)) ts m
    split us (left d) l = reached (lies_left (later (up n d) l))
    split us (right d) l = reached (lies_right (later (up n d) l))

lies_choice : (n : ℕ) (p q k : Part) (ts : List Lexeme) (m : ℕ) → Lies ((sunk n p ⨟ k) ∣ (sunk n q ⨟ k)) ts m → IsReached (sunk n (p ∣ q) ⨟ k) ts m
lies_choice n p q k ts m (lies_left (first l)) = let d = lies_down n p ts m l in reached (first (lies_up n d.depth m d.sum (lies_left d.lies)))
lies_choice n p q k ts m (lies_left (later d l)) = reached (later (up n (left (down n d))) l)
lies_choice n p q k ts m (lies_right (first l)) = let d = lies_down n q ts m l in reached (first (lies_up n d.depth m d.sum (lies_right d.lies)))
lies_choice n p q k ts m (lies_right (later d l)) = reached (later (up n (right (down n d))) l)

pub judge_choice : (n : ℕ) (p q k : Part) (ts : List Lexeme) → judge (sunk n (p ∣ q) ⨟ k) ts ≡ judge ((sunk n p ⨟ k) ∣ (sunk n q ⨟ k)) ts
judge_choice n p q k ts = judge_same ts (sunk n (p ∣ q) ⨟ k) ((sunk n p ⨟ k) ∣ (sunk n q ⨟ k)) (record {
  there = record { spells = choice_spells n p q k; lies = choice_lies n p q k };
  back = record { spells = spells_choice n p q k; lies = lies_choice n p q k };
})

maybe_spells : (n : ℕ) (p k : Part) (ts : List Lexeme) → Spells (sunk n (maybe p) ⨟ k) ts → Spells ((sunk n p ⨟ k) ∣ k) ts
maybe_spells n p k ts (both {us = us} d h) = split us (down n d) h
  where
    split : (us : List Lexeme) → Takes (maybe p) ts us → Spells k us → Spells ((sunk n p ⨟ k) ∣ k) ts
    split us absent h = right h
    split us (present d) h = left (both (up n d) h)

spells_maybe : (n : ℕ) (p k : Part) (ts : List Lexeme) → Spells ((sunk n p ⨟ k) ∣ k) ts → Spells (sunk n (maybe p) ⨟ k) ts
spells_maybe n p k ts (left (both d h)) = both (up n (present (down n d))) h
spells_maybe n p k ts (right h) = both (up n absent) h

maybe_lies : (n : ℕ) (p k : Part) (ts : List Lexeme) (m : ℕ) → Lies (sunk n (maybe p) ⨟ k) ts m → IsReached ((sunk n p ⨟ k) ∣ k) ts m
maybe_lies n p k ts m (first l) = let d = lies_down n (maybe p) ts m l in split d.depth d.sum d.lies
  where
    split : (j : ℕ) → m ≡ n + j → Lies (maybe p) ts j → IsReached ((sunk n p ⨟ k) ∣ k) ts m
    split j e (lies_present l) = reached (lies_left (first (lies_up n j m e l)))
maybe_lies n p k ts m (later {us = us} d l) = split us (down n d) l
  where
    split : (us : List Lexeme) → Takes (maybe p) ts us → Lies k us m → IsReached ((sunk n p ⨟ k) ∣ k) ts m
    split us absent l = reached (lies_right l)
    split us (present d) l = reached (lies_left (later (up n d) l))

lies_maybe : (n : ℕ) (p k : Part) (ts : List Lexeme) (m : ℕ) → Lies ((sunk n p ⨟ k) ∣ k) ts m → IsReached (sunk n (maybe p) ⨟ k) ts m
lies_maybe n p k ts m (lies_left (first l)) = let d = lies_down n p ts m l in reached (first (lies_up n d.depth m d.sum (lies_present d.lies)))
lies_maybe n p k ts m (lies_left (later d l)) = reached (later (up n (present (down n d))) l)
lies_maybe n p k ts m (lies_right l) = reached (later (up n absent) l)

pub judge_maybe : (n : ℕ) (p k : Part) (ts : List Lexeme) → judge (sunk n (maybe p) ⨟ k) ts ≡ judge ((sunk n p ⨟ k) ∣ k) ts
judge_maybe n p k ts = judge_same ts (sunk n (maybe p) ⨟ k) ((sunk n p ⨟ k) ∣ k) (record {
  there = record { spells = maybe_spells n p k; lies = maybe_lies n p k };
  back = record { spells = spells_maybe n p k; lies = lies_maybe n p k };
})

-- one of them, and then more
abbrev pub once_more : ℕ → Part → Part → Part
once_more n p k = sunk n p ⨟ (sunk n (many p) ⨟ k)

many_spells : (n : ℕ) (p k : Part) (ts : List Lexeme) → Spells (sunk n (many p) ⨟ k) ts → Spells (once_more n p k ∣ k) ts
many_spells n p k ts (both {us = us} d h) = split us (down n d) h
  where
    split : (us : List Lexeme) → Takes (many p) ts us → Spells k us → Spells (once_more n p k ∣ k) ts
    split us no_more h = right h
    split us (again d e) h = left (both (up n d) (both (up n e) h))

spells_many : (n : ℕ) (p k : Part) (ts : List Lexeme) → Spells (once_more n p k ∣ k) ts → Spells (sunk n (many p) ⨟ k) ts
spells_many n p k ts (left (both d (both e h))) = both (up n (again (down n d) (down n e))) h
spells_many n p k ts (right h) = both (up n no_more) h

many_lies : (n : ℕ) (p k : Part) (ts : List Lexeme) (m : ℕ) → Lies (sunk n (many p) ⨟ k) ts m → IsReached (once_more n p k ∣ k) ts m
many_lies n p k ts m (first l) = let d = lies_down n (many p) ts m l in split d.depth d.sum d.lies
  where
    split : (j : ℕ) → m ≡ n + j → Lies (many p) ts j → IsReached (once_more n p k ∣ k) ts m
    split j e (once l) = reached (lies_left (first (lies_up n j m e l)))
    split j e (lies_again d l) = reached (lies_left (later (up n d) (first (lies_up n j m e l))))
many_lies n p k ts m (later {us = us} d l) = split us (down n d) l
  where
    split : (us : List Lexeme) → Takes (many p) ts us → Lies k us m → IsReached (once_more n p k ∣ k) ts m
    split us no_more l = reached (lies_right l)
    split us (again d e) l = reached (lies_left (later (up n d) (later (up n e) l)))

lies_many : (n : ℕ) (p k : Part) (ts : List Lexeme) (m : ℕ) → Lies (once_more n p k ∣ k) ts m → IsReached (sunk n (many p) ⨟ k) ts m
lies_many n p k ts m (lies_left (first l)) = let d = lies_down n p ts m l in reached (first (lies_up n d.depth m d.sum (once d.lies)))
lies_many n p k ts m (lies_left (later {us = us} d (first l))) = let e = lies_down n (many p) us m l in reached (first (lies_up n e.depth m e.sum (lies_again (down n d) e.lies)))
lies_many n p k ts m (lies_left (later d (later e l))) = reached (later (up n (again (down n d) (down n e))) l)
lies_many n p k ts m (lies_right l) = reached (later (up n no_more) l)

pub judge_many : (n : ℕ) (p k : Part) (ts : List Lexeme) → judge (sunk n (many p) ⨟ k) ts ≡ judge (once_more n p k ∣ k) ts
judge_many n p k ts = judge_same ts (sunk n (many p) ⨟ k) (once_more n p k ∣ k) (record {
  there = record { spells = many_spells n p k; lies = many_lies n p k };
  back = record { spells = spells_many n p k; lies = lies_many n p k };
})
