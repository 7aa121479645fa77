-- What may follow an expression may follow it with more of the expression in between.
use Rattle.std.specs.Prelude.{◌≡◌, ℕ, suc, ◌+◌, Bool, true, false, List, ◌∷◌, IsTrue, Option, Some, None, ◌⊎◌}
use Rattle.std.proofs.Common.{refl, inl, inr, ap, sym, ◌∙◌, arith}
use Rattle.bpl_grammar.specs.Lexeme.{Lexeme}
use Rattle.bpl_grammar.specs.Part.{Part, ◌⨟◌, ◌∣◌, maybe, many, nothing}
use Rattle.bpl_grammar.specs.Spelling.{Takes, Spells, both, left, right, absent, present, no_more, again}
use Rattle.bpl_grammar.specs.Nesting.{Lies, first, later, left as lies_left, right as lies_right, present as lies_present, once, again as lies_again}
use Rattle.bpl_grammar.specs.Derivative.{empties, either, onto, left_of}
use Rattle.bpl_grammar.specs.Reads.{sunk, is_there, starts}
use Rattle.bpl_grammar.specs.Terminal.{Terminal, firsts}
use Rattle.bpl_grammar.specs.Follows.{Operation, index, factor, term, relation, conjunct, disjunct, consequent, equivalent, operation, any_operation, IsReached, Follows, Bars, all_apart}
use Rattle.bpl_grammar.proofs.First.{either_there, onto_there, takes_begins, lies_starts}
use Rattle.bpl_grammar.proofs.Firsts.{starts_firsts}
use Rattle.bpl_grammar.proofs.Sunk.{up, down, lies_up, lies_down, left_sunk, reached}
use Rattle.bpl_grammar.proofs.Choices.{never, starts_sunk, map_there}
use Rattle.bpl_grammar.proofs.Operations.{any_apart, same_operation, not_empty}

-- an operation, and then more of the tail
pub record Taken (p : Part) (ts us : List Lexeme) : Type 0 where
  pub by : Operation
  pub middle : List Lexeme
  pub front : Takes (operation by) ts middle
  pub back : Takes p middle us

pub record Laid (p : Part) (ts : List Lexeme) (m : ℕ) : Type 0 where
  pub by : Operation
  pub there : Lies (operation by) ts m ⊎ ((us : List Lexeme) × Takes (operation by) ts us × Lies p us m)

-- a part of operations alone, perhaps of none
pub record IsTail (p : Part) : Type 0 where
  pub none : (ts : List Lexeme) → Takes p ts ts
  pub takes : (ts us : List Lexeme) → Takes p ts us → (ts ≡ us) ⊎ Taken p ts us
  pub lies : (ts : List Lexeme) (m : ℕ) → Lies p ts m → Laid p ts m

many_takes : (o : Operation) (ts us : List Lexeme) → Takes (many (operation o)) ts us → (ts ≡ us) ⊎ Taken (many (operation o)) ts us
many_takes o ts us no_more = inl refl
many_takes o ts us (again {us = vs} d e) = inr (record { by = o; middle = vs; front = d; back = e })

many_lies : (o : Operation) (ts : List Lexeme) (m : ℕ) → Lies (many (operation o)) ts m → Laid (many (operation o)) ts m
many_lies o ts m (once l) = record { by = o; there = inl l }
many_lies o ts m (lies_again {us = us} d l) = record { by = o; there = inr (us, d, l) }

pub tail_many : (o : Operation) → IsTail (many (operation o))
tail_many o = record { none = λ ts. no_more; takes = many_takes o; lies = many_lies o }

maybe_takes : (o : Operation) (ts us : List Lexeme) → Takes (maybe (operation o)) ts us → (ts ≡ us) ⊎ Taken (maybe (operation o)) ts us
maybe_takes o ts us absent = inl refl
maybe_takes o ts us (present d) = inr (record { by = o; middle = us; front = d; back = absent })

maybe_lies : (o : Operation) (ts : List Lexeme) (m : ℕ) → Lies (maybe (operation o)) ts m → Laid (maybe (operation o)) ts m
maybe_lies o ts m (lies_present l) = record { by = o; there = inl l }

pub tail_maybe : (o : Operation) → IsTail (maybe (operation o))
tail_maybe o = record { none = λ ts. absent; takes = maybe_takes o; lies = maybe_lies o }

abbrev pub runs : Operation → Operation → Part
runs o r = many (operation o) ∣ many (operation r)

runs_takes : (o r : Operation) (ts us : List Lexeme) → Takes (runs o r) ts us → (ts ≡ us) ⊎ Taken (runs o r) ts us
runs_takes o r ts us (left no_more) = inl refl
runs_takes o r ts us (left (again {us = vs} d e)) = inr (record { by = o; middle = vs; front = d; back = left e })
runs_takes o r ts us (right no_more) = inl refl
runs_takes o r ts us (right (again {us = vs} d e)) = inr (record { by = r; middle = vs; front = d; back = right e })

runs_lies : (o r : Operation) (ts : List Lexeme) (m : ℕ) → Lies (runs o r) ts m → Laid (runs o r) ts m
runs_lies o r ts m (lies_left (once l)) = record { by = o; there = inl l }
runs_lies o r ts m (lies_left (lies_again {us = us} d l)) = record { by = o; there = inr (us, d, lies_left l) }
runs_lies o r ts m (lies_right (once l)) = record { by = r; there = inl l }
runs_lies o r ts m (lies_right (lies_again {us = us} d l)) = record { by = r; there = inr (us, d, lies_right l) }

pub tail_runs : (o r : Operation) → IsTail (runs o r)
tail_runs o r = record { none = λ ts. left no_more; takes = runs_takes o r; lies = runs_lies o r }

-- what follows, behind such a part

starts_of : (t : Lexeme) (ts us : List Lexeme) (o : Operation) → Takes (operation o) (t ∷ ts) us → IsTrue (starts (operation o) t)
starts_of t ts us o d = takes_begins t ts us (operation o) (not_empty o) d

module _ (n : ℕ) (p k : Part) (w : IsTail p) (f : Follows n k) (o : Operation) (t : Lexeme) (s : IsTrue (starts (operation o) t)) where
  past_spells : (ts : List Lexeme) → Spells (sunk n (operation o) ⨟ k) (t ∷ ts) → Spells (sunk n (operation o) ⨟ (sunk n p ⨟ k)) (t ∷ ts)
  past_spells ts (both {us = vs} d h) = both d (both (up n (w.none vs)) h)

  split_spells : (ts us : List Lexeme) → ((t ∷ ts) ≡ us) ⊎ Taken p (t ∷ ts) us → Spells k us → Spells (sunk n (operation o) ⨟ (sunk n p ⨟ k)) (t ∷ ts)
  split_spells ts us (inl e) h = past_spells ts ((f o t s).spells ts (rw e h))
  split_spells ts us (inr x) h =
      let same : o ≡ x.by = same_operation o x.by t s (starts_of t ts x.middle x.by x.front) in
      both (up n (rw same x.front)) (both (up n x.back) h)

  tail_spells : (ts : List Lexeme) → Spells (sunk n p ⨟ k) (t ∷ ts) → Spells (sunk n (operation o) ⨟ (sunk n p ⨟ k)) (t ∷ ts)
  tail_spells ts (both {us = us} d h) = split_spells ts us (w.takes (t ∷ ts) us (down n d)) h

  past_lies : (ts : List Lexeme) (m : ℕ) → Lies (sunk n (operation o) ⨟ k) (t ∷ ts) m → Lies (sunk n (operation o) ⨟ (sunk n p ⨟ k)) (t ∷ ts) m
  past_lies ts m (first l) = first l
  past_lies ts m (later {us = vs} d l) = later d (later (up n (w.none vs)) l)

  reach_past : (ts : List Lexeme) (m : ℕ) → IsReached (sunk n (operation o) ⨟ k) (t ∷ ts) m → IsReached (sunk n (operation o) ⨟ (sunk n p ⨟ k)) (t ∷ ts) m
  reach_past ts m r = (r.0, r.1, past_lies ts r.0 r.2)

  inner_lies : (ts : List Lexeme) (m j : ℕ) → m ≡ n + j → (x : Laid p (t ∷ ts) j) → Lies (operation x.by) (t ∷ ts) j ⊎ ((us : List Lexeme) × Takes (operation x.by) (t ∷ ts) us × Lies p us j)
      → IsReached (sunk n (operation o) ⨟ (sunk n p ⨟ k)) (t ∷ ts) m
  inner_lies ts m j e x (inl l) =
      let same : o ≡ x.by = same_operation o x.by t s (lies_starts t ts (operation x.by) j l) in
      reached (first (lies_up n j m e (rw same l)))
  inner_lies ts m j e x (inr y) =
      let same : o ≡ x.by = same_operation o x.by t s (starts_of t ts y.0 x.by y.1) in
      reached (later (up n (rw same y.1)) (first (lies_up n j m e y.2)))

  outer_lies : (ts us : List Lexeme) (m : ℕ) → ((t ∷ ts) ≡ us) ⊎ Taken p (t ∷ ts) us → Lies k us m → IsReached (sunk n (operation o) ⨟ (sunk n p ⨟ k)) (t ∷ ts) m
  outer_lies ts us m (inl e) l = reach_past ts m ((f o t s).lies ts m (rw e l))
  outer_lies ts us m (inr x) l =
      let same : o ≡ x.by = same_operation o x.by t s (starts_of t ts x.middle x.by x.front) in
      reached (later (up n (rw same x.front)) (later (up n x.back) l))

  tail_lies : (ts : List Lexeme) (m : ℕ) → Lies (sunk n p ⨟ k) (t ∷ ts) m → IsReached (sunk n (operation o) ⨟ (sunk n p ⨟ k)) (t ∷ ts) m
  tail_lies ts m (first l) =
      let d = lies_down n p (t ∷ ts) m l in
      let x = w.lies (t ∷ ts) d.depth d.lies in
      inner_lies ts m d.depth d.sum x x.there
  tail_lies ts m (later {us = us} d l) = outer_lies ts us m (w.takes (t ∷ ts) us (down n d)) l

pub tail_follows : (n : ℕ) (p k : Part) → IsTail p → Follows n k → Follows n (sunk n p ⨟ k)
tail_follows n p k w f = λ o t s. record { spells = tail_spells n p k w f o t s; lies = tail_lies n p k w f o t s }

-- one nesting deeper, what is within is no less deep

deeper_spells : (n : ℕ) (p k : Part) (ts : List Lexeme) → Spells (sunk n p ⨟ k) ts → Spells (sunk (suc n) p ⨟ k) ts
deeper_spells n p k ts (both d h) = both (up (suc n) (down n d)) h

deeper_reached : (n : ℕ) (p k : Part) (ts : List Lexeme) (m : ℕ) → Lies (sunk n p ⨟ k) ts m → IsReached (sunk (suc n) p ⨟ k) ts m
deeper_reached n p k ts m (first l) =
    let d = lies_down n p ts m l in
    (suc m, omega arith, first (lies_up (suc n) d.depth (suc m) (omega (arith, d.sum)) d.lies))
deeper_reached n p k ts m (later d l) = reached (later (up (suc n) (down n d)) l)

reach_deeper : (n : ℕ) (p k : Part) (ts : List Lexeme) (m : ℕ) → IsReached (sunk n p ⨟ k) ts m → IsReached (sunk (suc n) p ⨟ k) ts m
reach_deeper n p k ts m r =
    let s = deeper_reached n p k ts r.0 r.2 in
    (s.0, omega (arith, r.1, s.1), s.2)

pub deeper_follows : (n : ℕ) (k : Part) → Follows n k → Follows (suc n) k
deeper_follows n k f = λ o t s. record {
  spells = λ ts d. deeper_spells n (operation o) k (t ∷ ts) ((f o t s).spells ts d);
  lies = λ ts m l. reach_deeper n (operation o) k (t ∷ ts) m ((f o t s).lies ts m l);
}

-- parts that bar tokens

over : (b : Bool) (l m : Option Part) (q : Part) → is_there l ≡ false → is_there m ≡ false → is_there {A = Part} (elim b [ true ↦ either (onto l q) m | false ↦ onto l q ]) ≡ false
over true l m q e f = either_there (onto l q) m ∙ rw (onto_there l q ∙ e) f
over false l m q e f = onto_there l q ∙ e

pub bars_part : (cs : List Terminal) (p : Part) → IsTrue (all_apart cs (firsts p)) → Bars cs p
bars_part cs p a = λ t h. starts_firsts t p ∙ any_apart cs (firsts p) t h a

pub bars_then : (cs : List Terminal) (n : ℕ) (p k : Part) → empties 12 p ≡ false → IsTrue (all_apart cs (firsts p)) → Bars cs (sunk n p ⨟ k)
bars_then cs n p k e a = λ t h. starts_sunk n t p k e ∙ bars_part cs p a t h

pub bars_over : (cs : List Terminal) (n : ℕ) (p k : Part) → IsTrue (all_apart cs (firsts p)) → Bars cs k → Bars cs (sunk n p ⨟ k)
bars_over cs n p k a b = λ t h. over (empties 12 (sunk n p)) (left_of t (sunk n p)) (left_of t k) k (ap is_there (left_sunk n t p) ∙ (map_there n (left_of t p) ∙ bars_part cs p a t h)) (b t h)

pub bars_nothing : (cs : List Terminal) → Bars cs nothing
bars_nothing cs = λ t h. refl

-- the operations from one on, and all that go on with an expression

abbrev from_equivalent : Part
from_equivalent = operation equivalent

abbrev from_consequent : Part
from_consequent = operation consequent ∣ from_equivalent

abbrev from_disjunct : Part
from_disjunct = operation disjunct ∣ from_consequent

abbrev from_conjunct : Part
from_conjunct = operation conjunct ∣ from_disjunct

abbrev from_relation : Part
from_relation = operation relation ∣ from_conjunct

abbrev from_term : Part
from_term = operation term ∣ from_relation

abbrev from_factor : Part
from_factor = operation factor ∣ from_term

either_first : (a b : Option Part) → IsTrue (is_there a) → IsTrue (is_there (either a b))
either_first None b h = absurd (cc)
either_first (Some p) None h = refl
either_first (Some p) (Some q) h = refl

either_second : (a b : Option Part) → IsTrue (is_there b) → IsTrue (is_there (either a b))
either_second None b h = h
either_second (Some p) None h = absurd (cc)
either_second (Some p) (Some q) h = refl

is_first : (t : Lexeme) (p q : Part) → IsTrue (starts p t) → IsTrue (starts (p ∣ q) t)
is_first t p q h = either_first (left_of t p) (left_of t q) h

is_second : (t : Lexeme) (p q : Part) → IsTrue (starts q t) → IsTrue (starts (p ∣ q) t)
is_second t p q h = either_second (left_of t p) (left_of t q) h

among : (t : Lexeme) (o : Operation) → IsTrue (starts (operation o) t) → IsTrue (starts any_operation t)
among t index h = is_first t (operation index) from_factor h
among t factor h = is_second t (operation index) from_factor (is_first t (operation factor) from_term h)
among t term h = is_second t (operation index) from_factor (is_second t (operation factor) from_term (is_first t (operation term) from_relation h))
among t relation h = is_second t (operation index) from_factor (is_second t (operation factor) from_term (is_second t (operation term) from_relation (is_first t (operation relation) from_conjunct h)))
among t conjunct h = is_second t (operation index) from_factor (is_second t (operation factor) from_term (is_second t (operation term) from_relation (is_second t (operation relation) from_conjunct (is_first t (operation conjunct) from_disjunct h))))
among t disjunct h = is_second t (operation index) from_factor (is_second t (operation factor) from_term (is_second t (operation term) from_relation (is_second t (operation relation) from_conjunct (is_second t (operation conjunct) from_disjunct (is_first t (operation disjunct) from_consequent h)))))
among t consequent h = is_second t (operation index) from_factor (is_second t (operation factor) from_term (is_second t (operation term) from_relation (is_second t (operation relation) from_conjunct (is_second t (operation conjunct) from_disjunct (is_second t (operation disjunct) from_consequent (is_first t (operation consequent) from_equivalent h))))))
among t equivalent h = is_second t (operation index) from_factor (is_second t (operation factor) from_term (is_second t (operation term) from_relation (is_second t (operation relation) from_conjunct (is_second t (operation conjunct) from_disjunct (is_second t (operation disjunct) from_consequent (is_second t (operation consequent) from_equivalent h))))))

-- what bars them all may follow
pub bars_follows : (n : ℕ) (k : Part) → Bars (firsts any_operation) k → Follows n k
bars_follows n k b = λ o t s. never t k (sunk n (operation o) ⨟ k) (b t (sym (starts_firsts t any_operation) ∙ among t o s))
