-- Parts that take and lie alike: how such parts are made of others.
use Rattle.std.specs.Prelude.{ℕ, List}
use Rattle.bpl_grammar.specs.Lexeme.{Lexeme}
use Rattle.bpl_grammar.specs.Part.{Part, ◌⨟◌, ◌∣◌, maybe}
use Rattle.bpl_grammar.specs.Spelling.{Takes, both, left, right, absent, present}
use Rattle.bpl_grammar.specs.Nesting.{Lies, first, later, left as lies_left, right as lies_right, present as lies_present}
use Rattle.bpl_grammar.proofs.Sunk.{AreAlike}

-- what p takes q takes, and as deep
pub record Goes (p q : Part) : Type 0 where
  pub takes : (ts us : List Lexeme) → Takes p ts us → Takes q ts us
  pub lies : (ts : List Lexeme) (n : ℕ) → Lies p ts n → Lies q ts n

there : (p q : Part) → AreAlike p q → Goes p q
there p q a = record { takes = a.takes; lies = a.lies }

back : (p q : Part) → AreAlike p q → Goes q p
back p q a = record { takes = a.takes_back; lies = a.lies_back }

pub alike_of : (p q : Part) → Goes p q → Goes q p → AreAlike p q
alike_of p q f g = record { takes = f.takes; lies = f.lies; takes_back = g.takes; lies_back = g.lies }

pub alike_same : (p : Part) → AreAlike p p
alike_same p = record { takes = λ ts us d. d; lies = λ ts n l. l; takes_back = λ ts us d. d; lies_back = λ ts n l. l }

pub alike_back : (p q : Part) → AreAlike p q → AreAlike q p
alike_back p q a = alike_of q p (back p q a) (there p q a)

pub alike_through : (p q r : Part) → AreAlike p q → AreAlike q r → AreAlike p r
alike_through p q r a b = record {
  takes = λ ts us d. b.takes ts us (a.takes ts us d);
  lies = λ ts n l. b.lies ts n (a.lies ts n l);
  takes_back = λ ts us d. a.takes_back ts us (b.takes_back ts us d);
  lies_back = λ ts n l. a.lies_back ts n (b.lies_back ts n l);
}

-- one after another

seq_takes : (p q r s : Part) → Goes p r → Goes q s → (ts us : List Lexeme) → Takes (p ⨟ q) ts us → Takes (r ⨟ s) ts us
seq_takes p q r s f g ts us (both {us = vs} d e) = both (f.takes ts vs d) (g.takes vs us e)

seq_lies : (p q r s : Part) → Goes p r → Goes q s → (ts : List Lexeme) (n : ℕ) → Lies (p ⨟ q) ts n → Lies (r ⨟ s) ts n
seq_lies p q r s f g ts n (first l) = first (f.lies ts n l)
seq_lies p q r s f g ts n (later {us = vs} d l) = later (f.takes ts vs d) (g.lies vs n l)

seq_goes : (p q r s : Part) → Goes p r → Goes q s → Goes (p ⨟ q) (r ⨟ s)
seq_goes p q r s f g = record { takes = seq_takes p q r s f g; lies = seq_lies p q r s f g }

pub alike_seq : (p q r s : Part) → AreAlike p r → AreAlike q s → AreAlike (p ⨟ q) (r ⨟ s)
alike_seq p q r s a b = alike_of (p ⨟ q) (r ⨟ s) (seq_goes p q r s (there p r a) (there q s b)) (seq_goes r s p q (back p r a) (back q s b))

order_takes : (p q r : Part) (ts us : List Lexeme) → Takes ((p ⨟ q) ⨟ r) ts us → Takes (p ⨟ (q ⨟ r)) ts us
order_takes p q r ts us (both (both d e) h) = both d (both e h)

order_lies : (p q r : Part) (ts : List Lexeme) (n : ℕ) → Lies ((p ⨟ q) ⨟ r) ts n → Lies (p ⨟ (q ⨟ r)) ts n
order_lies p q r ts n (first (first l)) = first l
order_lies p q r ts n (first (later d l)) = later d (first l)
order_lies p q r ts n (later (both d e) l) = later d (later e l)

takes_order : (p q r : Part) (ts us : List Lexeme) → Takes (p ⨟ (q ⨟ r)) ts us → Takes ((p ⨟ q) ⨟ r) ts us
takes_order p q r ts us (both d (both e h)) = both (both d e) h

lies_order : (p q r : Part) (ts : List Lexeme) (n : ℕ) → Lies (p ⨟ (q ⨟ r)) ts n → Lies ((p ⨟ q) ⨟ r) ts n
lies_order p q r ts n (first l) = first (first l)
lies_order p q r ts n (later d (first l)) = first (later d l)
lies_order p q r ts n (later d (later e l)) = later (both d e) l

pub alike_order : (p q r : Part) → AreAlike ((p ⨟ q) ⨟ r) (p ⨟ (q ⨟ r))
alike_order p q r = record { takes = order_takes p q r; lies = order_lies p q r; takes_back = takes_order p q r; lies_back = lies_order p q r }

-- one or the other

or_takes : (p q r s : Part) → Goes p r → Goes q s → (ts us : List Lexeme) → Takes (p ∣ q) ts us → Takes (r ∣ s) ts us
or_takes p q r s f g ts us (left d) = left (f.takes ts us d)
or_takes p q r s f g ts us (right d) = right (g.takes ts us d)

or_lies : (p q r s : Part) → Goes p r → Goes q s → (ts : List Lexeme) (n : ℕ) → Lies (p ∣ q) ts n → Lies (r ∣ s) ts n
or_lies p q r s f g ts n (lies_left l) = lies_left (f.lies ts n l)
or_lies p q r s f g ts n (lies_right l) = lies_right (g.lies ts n l)

or_goes : (p q r s : Part) → Goes p r → Goes q s → Goes (p ∣ q) (r ∣ s)
or_goes p q r s f g = record { takes = or_takes p q r s f g; lies = or_lies p q r s f g }

pub alike_or : (p q r s : Part) → AreAlike p r → AreAlike q s → AreAlike (p ∣ q) (r ∣ s)
alike_or p q r s a b = alike_of (p ∣ q) (r ∣ s) (or_goes p q r s (there p r a) (there q s b)) (or_goes r s p q (back p r a) (back q s b))

turn_goes : (p q : Part) → Goes (p ∣ q) (q ∣ p)
turn_goes p q = record { takes = turn_takes; lies = turn_lies }
  where
    turn_takes : (ts us : List Lexeme) → Takes (p ∣ q) ts us → Takes (q ∣ p) ts us
    turn_takes ts us (left d) = right d
    turn_takes ts us (right d) = left d

    turn_lies : (ts : List Lexeme) (n : ℕ) → Lies (p ∣ q) ts n → Lies (q ∣ p) ts n
    turn_lies ts n (lies_left l) = lies_right l
    turn_lies ts n (lies_right l) = lies_left l

pub alike_turn : (p q : Part) → AreAlike (p ∣ q) (q ∣ p)
alike_turn p q = alike_of (p ∣ q) (q ∣ p) (turn_goes p q) (turn_goes q p)

group_takes : (p q r : Part) (ts us : List Lexeme) → Takes ((p ∣ q) ∣ r) ts us → Takes (p ∣ (q ∣ r)) ts us
group_takes p q r ts us (left (left d)) = left d
group_takes p q r ts us (left (right d)) = right (left d)
group_takes p q r ts us (right d) = right (right d)

group_lies : (p q r : Part) (ts : List Lexeme) (n : ℕ) → Lies ((p ∣ q) ∣ r) ts n → Lies (p ∣ (q ∣ r)) ts n
group_lies p q r ts n (lies_left (lies_left l)) = lies_left l
group_lies p q r ts n (lies_left (lies_right l)) = lies_right (lies_left l)
group_lies p q r ts n (lies_right l) = lies_right (lies_right l)

takes_group : (p q r : Part) (ts us : List Lexeme) → Takes (p ∣ (q ∣ r)) ts us → Takes ((p ∣ q) ∣ r) ts us
takes_group p q r ts us (left d) = left (left d)
takes_group p q r ts us (right (left d)) = left (right d)
takes_group p q r ts us (right (right d)) = right d

lies_group : (p q r : Part) (ts : List Lexeme) (n : ℕ) → Lies (p ∣ (q ∣ r)) ts n → Lies ((p ∣ q) ∣ r) ts n
lies_group p q r ts n (lies_left l) = lies_left (lies_left l)
lies_group p q r ts n (lies_right (lies_left l)) = lies_left (lies_right l)
lies_group p q r ts n (lies_right (lies_right l)) = lies_right l

alike_group : (p q r : Part) → AreAlike ((p ∣ q) ∣ r) (p ∣ (q ∣ r))
alike_group p q r = record { takes = group_takes p q r; lies = group_lies p q r; takes_back = takes_group p q r; lies_back = lies_group p q r }

-- some alternatives and a last one
pub alike_last : (p q r s : Part) → AreAlike (q ∣ r) s → AreAlike ((p ∣ q) ∣ r) (p ∣ s)
alike_last p q r s a = alike_through ((p ∣ q) ∣ r) (p ∣ (q ∣ r)) (p ∣ s) (alike_group p q r) (alike_or p (q ∣ r) p s (alike_same p) a)

-- two that begin alike, as one with a choice behind it

share_takes : (p q r : Part) (ts us : List Lexeme) → Takes ((p ⨟ q) ∣ (p ⨟ r)) ts us → Takes (p ⨟ (q ∣ r)) ts us
share_takes p q r ts us (left (both d e)) = both d (left e)
share_takes p q r ts us (right (both d e)) = both d (right e)

share_lies : (p q r : Part) (ts : List Lexeme) (n : ℕ) → Lies ((p ⨟ q) ∣ (p ⨟ r)) ts n → Lies (p ⨟ (q ∣ r)) ts n
share_lies p q r ts n (lies_left (first l)) = first l
share_lies p q r ts n (lies_left (later d l)) = later d (lies_left l)
share_lies p q r ts n (lies_right (first l)) = first l
share_lies p q r ts n (lies_right (later d l)) = later d (lies_right l)

takes_share : (p q r : Part) (ts us : List Lexeme) → Takes (p ⨟ (q ∣ r)) ts us → Takes ((p ⨟ q) ∣ (p ⨟ r)) ts us
takes_share p q r ts us (both d (left e)) = left (both d e)
takes_share p q r ts us (both d (right e)) = right (both d e)

lies_share : (p q r : Part) (ts : List Lexeme) (n : ℕ) → Lies (p ⨟ (q ∣ r)) ts n → Lies ((p ⨟ q) ∣ (p ⨟ r)) ts n
lies_share p q r ts n (first l) = lies_left (first l)
lies_share p q r ts n (later d (lies_left l)) = lies_left (later d l)
lies_share p q r ts n (later d (lies_right l)) = lies_right (later d l)

pub alike_share : (p q r : Part) → AreAlike ((p ⨟ q) ∣ (p ⨟ r)) (p ⨟ (q ∣ r))
alike_share p q r = record { takes = share_takes p q r; lies = share_lies p q r; takes_back = takes_share p q r; lies_back = lies_share p q r }

-- the same where nothing follows the one

perhaps_takes : (p q : Part) (ts us : List Lexeme) → Takes ((p ⨟ q) ∣ p) ts us → Takes (p ⨟ maybe q) ts us
perhaps_takes p q ts us (left (both d e)) = both d (present e)
perhaps_takes p q ts us (right d) = both d absent

perhaps_lies : (p q : Part) (ts : List Lexeme) (n : ℕ) → Lies ((p ⨟ q) ∣ p) ts n → Lies (p ⨟ maybe q) ts n
perhaps_lies p q ts n (lies_left (first l)) = first l
perhaps_lies p q ts n (lies_left (later d l)) = later d (lies_present l)
perhaps_lies p q ts n (lies_right l) = first l

takes_perhaps : (p q : Part) (ts us : List Lexeme) → Takes (p ⨟ maybe q) ts us → Takes ((p ⨟ q) ∣ p) ts us
takes_perhaps p q ts us (both d (present e)) = left (both d e)
takes_perhaps p q ts us (both d absent) = right d

lies_perhaps : (p q : Part) (ts : List Lexeme) (n : ℕ) → Lies (p ⨟ maybe q) ts n → Lies ((p ⨟ q) ∣ p) ts n
lies_perhaps p q ts n (first l) = lies_right l
lies_perhaps p q ts n (later d (lies_present l)) = lies_left (later d l)

pub alike_perhaps : (p q : Part) → AreAlike ((p ⨟ q) ∣ p) (p ⨟ maybe q)
alike_perhaps p q = record { takes = perhaps_takes p q; lies = perhaps_lies p q; takes_back = takes_perhaps p q; lies_back = lies_perhaps p q }

-- an option before another part

option_takes : (p q : Part) (ts us : List Lexeme) → Takes (maybe p ⨟ q) ts us → Takes ((p ⨟ q) ∣ q) ts us
option_takes p q ts us (both absent e) = right e
option_takes p q ts us (both (present d) e) = left (both d e)

option_lies : (p q : Part) (ts : List Lexeme) (n : ℕ) → Lies (maybe p ⨟ q) ts n → Lies ((p ⨟ q) ∣ q) ts n
option_lies p q ts n (first (lies_present l)) = lies_left (first l)
option_lies p q ts n (later absent l) = lies_right l
option_lies p q ts n (later (present d) l) = lies_left (later d l)

takes_option : (p q : Part) (ts us : List Lexeme) → Takes ((p ⨟ q) ∣ q) ts us → Takes (maybe p ⨟ q) ts us
takes_option p q ts us (left (both d e)) = both (present d) e
takes_option p q ts us (right e) = both absent e

lies_option : (p q : Part) (ts : List Lexeme) (n : ℕ) → Lies ((p ⨟ q) ∣ q) ts n → Lies (maybe p ⨟ q) ts n
lies_option p q ts n (lies_left (first l)) = first (lies_present l)
lies_option p q ts n (lies_left (later d l)) = later (present d) l
lies_option p q ts n (lies_right l) = later absent l

pub alike_option : (p q : Part) → AreAlike (maybe p ⨟ q) ((p ⨟ q) ∣ q)
alike_option p q = record { takes = option_takes p q; lies = option_lies p q; takes_back = takes_option p q; lies_back = lies_option p q }

-- the fourth of some alternatives, beside the first

fourth_takes : (p q r s t : Part) (ts us : List Lexeme) → Takes (p ∣ (q ∣ (r ∣ (s ∣ t)))) ts us → Takes ((p ∣ s) ∣ (q ∣ (r ∣ t))) ts us
fourth_takes p q r s t ts us (left d) = left (left d)
fourth_takes p q r s t ts us (right (left d)) = right (left d)
fourth_takes p q r s t ts us (right (right (left d))) = right (right (left d))
fourth_takes p q r s t ts us (right (right (right (left d)))) = left (right d)
fourth_takes p q r s t ts us (right (right (right (right d)))) = right (right (right d))

fourth_lies : (p q r s t : Part) (ts : List Lexeme) (n : ℕ) → Lies (p ∣ (q ∣ (r ∣ (s ∣ t)))) ts n → Lies ((p ∣ s) ∣ (q ∣ (r ∣ t))) ts n
fourth_lies p q r s t ts n (lies_left l) = lies_left (lies_left l)
fourth_lies p q r s t ts n (lies_right (lies_left l)) = lies_right (lies_left l)
fourth_lies p q r s t ts n (lies_right (lies_right (lies_left l))) = lies_right (lies_right (lies_left l))
fourth_lies p q r s t ts n (lies_right (lies_right (lies_right (lies_left l)))) = lies_left (lies_right l)
fourth_lies p q r s t ts n (lies_right (lies_right (lies_right (lies_right l)))) = lies_right (lies_right (lies_right l))

takes_fourth : (p q r s t : Part) (ts us : List Lexeme) → Takes ((p ∣ s) ∣ (q ∣ (r ∣ t))) ts us → Takes (p ∣ (q ∣ (r ∣ (s ∣ t)))) ts us
takes_fourth p q r s t ts us (left (left d)) = left d
takes_fourth p q r s t ts us (left (right d)) = right (right (right (left d)))
takes_fourth p q r s t ts us (right (left d)) = right (left d)
takes_fourth p q r s t ts us (right (right (left d))) = right (right (left d))
takes_fourth p q r s t ts us (right (right (right d))) = right (right (right (right d)))

lies_fourth : (p q r s t : Part) (ts : List Lexeme) (n : ℕ) → Lies ((p ∣ s) ∣ (q ∣ (r ∣ t))) ts n → Lies (p ∣ (q ∣ (r ∣ (s ∣ t)))) ts n
lies_fourth p q r s t ts n (lies_left (lies_left l)) = lies_left l
lies_fourth p q r s t ts n (lies_left (lies_right l)) = lies_right (lies_right (lies_right (lies_left l)))
lies_fourth p q r s t ts n (lies_right (lies_left l)) = lies_right (lies_left l)
lies_fourth p q r s t ts n (lies_right (lies_right (lies_left l))) = lies_right (lies_right (lies_left l))
lies_fourth p q r s t ts n (lies_right (lies_right (lies_right l))) = lies_right (lies_right (lies_right (lies_right l)))

pub alike_fourth : (p q r s t : Part) → AreAlike (p ∣ (q ∣ (r ∣ (s ∣ t)))) ((p ∣ s) ∣ (q ∣ (r ∣ t)))
alike_fourth p q r s t = record { takes = fourth_takes p q r s t; lies = fourth_lies p q r s t; takes_back = takes_fourth p q r s t; lies_back = lies_fourth p q r s t }
