-- The parts of a term, and terms that stand in kept ones.
use Rattle.std.specs.Prelude.{ℕ, ◌<◌, ◌+◌, true, List, [], ◌∷◌, ◌++◌, length, get_or, Option, Some, None}
use Rattle.std.specs.Bool.{⊤}
use Rattle.logic_core.specs.Tree.{Tree, num, truth, free, bound, linear, mul, read, write, choose, call, negation, all, some, equal, at_most, for_all, exists, Parts, no_parts, part, Patterns, no_patterns, pattern}
use Rattle.logic_core.specs.Subterm.{listed}
use Rattle.term_bank.specs.declared.places.Way.{Way}
use Rattle.term_bank.specs.declared.places.Step.{Step}
use Rattle.term_bank.specs.declared.places.Step.TheVariants.{Whole, Within}

abbrev pub atoms : Parts → List Tree
atoms no_parts = []
atoms (part k t ps) = t ∷ atoms ps

abbrev pub lists : Patterns → List (List Tree)
lists no_patterns = []
lists (pattern ts ps) = listed ts ∷ lists ps

-- the parts of a term but for triggers
abbrev pub direct : Tree → List Tree
direct (num n) = []
direct (truth b) = []
direct (free v) = []
direct (bound v) = []
direct (linear ps c) = atoms ps
direct (mul a b) = a ∷ b ∷ []
direct (read a b) = a ∷ b ∷ []
direct (write a b c) = a ∷ b ∷ c ∷ []
direct (choose a b c) = a ∷ b ∷ c ∷ []
direct (call f ts) = listed ts
direct (negation a) = a ∷ []
direct (all ts) = listed ts
direct (some ts) = listed ts
direct (equal a b) = a ∷ b ∷ []
direct (at_most a b) = a ∷ b ∷ []
direct (for_all ss ps a) = a ∷ []
direct (exists ss ps a) = a ∷ []

-- its triggers
abbrev pub triggers : Tree → List (List Tree)
triggers (num n) = []
triggers (truth b) = []
triggers (free v) = []
triggers (bound v) = []
triggers (linear ps c) = []
triggers (mul a b) = []
triggers (read a b) = []
triggers (write a b c) = []
triggers (choose a b c) = []
triggers (call f ts) = []
triggers (negation a) = []
triggers (all ts) = []
triggers (some ts) = []
triggers (equal a b) = []
triggers (at_most a b) = []
triggers (for_all ss ps a) = lists ps
triggers (exists ss ps a) = lists ps

-- its direct parts, or those of one of its triggers
abbrev pub row_of : Tree → Option ℕ → List Tree
row_of t None = direct t
row_of t (Some i) = get_or (triggers t) i []

-- the part that lies this way, or the term itself where there is none
abbrev pub part_or_self : Tree → Way → Tree
part_or_self t w = get_or (row_of t w.pattern) w.item t

-- where a step leads from the terms to which those before it lead
abbrev pub led : List Tree → Step → Tree
led ts (Whole t) = t
led ts (Within p w) = part_or_self (get_or ts p (truth true)) w

abbrev pub led_from : List Tree → List Step → List Tree
led_from ts [] = ts
led_from ts (s ∷ ss) = led_from (ts ++ led ts s ∷ []) ss

-- the terms to which the steps lead
abbrev pub all_led : List Step → List Tree
all_led ss = led_from [] ss

-- a step leads on from one before it
abbrev pub IsBehind : ℕ → Step → Type 0
IsBehind n (Whole t) = ⊤
IsBehind n (Within p w) = p < n

abbrev pub AreBehind : ℕ → List Step → Type 0
AreBehind n [] = ⊤
AreBehind n (s ∷ ss) = IsBehind n s × AreBehind (n + 1) ss
