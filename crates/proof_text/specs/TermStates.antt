-- Reading a term byte by byte. A state is what is open around the place, innermost first, and where in it the place is.
use Rattle.std.specs.Prelude.{ℕ, zero, suc, ◌+◌, nat_eq, ℤ, pos, Bool, true, false, if◌then◌else◌, Option, None, Some, option_map, List, [], ◌∷◌, ◌++◌}
use Rattle.logic_core.specs.Tree.{Kind, int, boolean, map, Tree, num, truth, free, bound, linear, mul, read, write, choose, call, negation, all, some, equal, at_most, for_all, exists}
use Rattle.logic_core.specs.View.{trees_of, parts_of, patterns_of}
use Rattle.proof_text.specs.Digit.{digit, more_number, more_integer, first_negative}
use Rattle.proof_text.specs.declared.hole.Pair.{Pair}
use Rattle.proof_text.specs.declared.hole.Pair.TheVariants as pair
use Rattle.proof_text.specs.declared.hole.Triple.{Triple}
use Rattle.proof_text.specs.declared.hole.Triple.TheVariants as triple
use Rattle.proof_text.specs.declared.hole.Binder.{Binder}
use Rattle.proof_text.specs.declared.hole.Binder.TheVariants as binder
use Rattle.proof_text.specs.declared.hole.Many.{Many}
use Rattle.proof_text.specs.declared.hole.Many.TheVariants as many
use Rattle.proof_text.specs.declared.hole.Hole.{Hole}
use Rattle.proof_text.specs.declared.hole.Hole.TheVariants as hole
use Rattle.proof_text.specs.declared.hole.Full.{Full}
use Rattle.proof_text.specs.declared.hole.Full.TheVariants as full
use Rattle.proof_text.specs.declared.hole.Behind.{Behind}
use Rattle.proof_text.specs.declared.hole.Behind.TheVariants as behind
use Rattle.proof_text.specs.declared.term_state.Letter.{Letter}
use Rattle.proof_text.specs.declared.term_state.Letter.TheVariants as letter
use Rattle.proof_text.specs.declared.term_state.Signed.{Signed}
use Rattle.proof_text.specs.declared.term_state.Signed.TheVariants as signed
use Rattle.proof_text.specs.declared.term_state.TermCursor.{TermCursor}
use Rattle.proof_text.specs.declared.term_state.TermCursor.TheVariants.{Item, Opened, Less, Due, Lettered, SignedDue, Minus, Digits, Sorts, After, Whole}
use Rattle.proof_text.specs.declared.term_state.TermState.{TermState}

-- what stands at a byte in a table
abbrev pub at_byte : {A : Type 0} → ℕ → List (ℕ × A) → Option A
at_byte c [] = None
at_byte c (m ∷ ms) = if nat_eq c m.0 then Some m.1 else at_byte c ms

-- the first that there is
abbrev pub or_else : {A : Type 0} → Option A → Option A → Option A
or_else None b = b
or_else (Some a) b = Some a

-- behind a part: at a space, and at the parenthesis that closes
abbrev pub by_stop : {A : Type 0} → ℕ → Option A → Option A → Option A
by_stop c space close = if nat_eq c 32 then space else (if nat_eq c 41 then close else None)

abbrev pub pair_of : Pair → Tree → Tree → Tree
pair_of pair.Mul x y = mul x y
pair_of pair.Read x y = read x y
pair_of pair.Eq x y = equal x y
pair_of pair.Le x y = at_most x y

abbrev pub triple_of : Triple → Tree → Tree → Tree → Tree
triple_of triple.Write x y z = write x y z
triple_of triple.If x y z = choose x y z

abbrev pub many_of : Many → List Tree → Tree
many_of (many.Call f) ts = call f (trees_of ts)
many_of many.And ts = all (trees_of ts)
many_of many.Or ts = some (trees_of ts)

abbrev pub bound_of : Binder → List Kind → List (List Tree) → Tree → Tree
bound_of binder.ForAll ss ps t = for_all ss (patterns_of ps) t
bound_of binder.Exists ss ps t = exists ss (patterns_of ps) t

-- a form that has all its parts
abbrev pub full_of : Full → Tree
full_of (full.Not t) = negation t
full_of (full.Pair p a b) = pair_of p a b
full_of (full.Triple q a b c) = triple_of q a b c
full_of (full.Quantifier b ss ps t) = bound_of b ss ps t

-- what stands behind a term that fills the hole
abbrev pub filled : Hole → Tree → Behind
filled hole.Not t = behind.Close (full.Not t)
filled (hole.Left p) t = behind.Space (hole.Right p t)
filled (hole.Right p a) t = behind.Close (full.Pair p a t)
filled (hole.First q) t = behind.Space (hole.Second q t)
filled (hole.Second q a) t = behind.Space (hole.Third q a t)
filled (hole.Third q a b) t = behind.Close (full.Triple q a b t)
filled (hole.Member m ts) t = behind.Many m (ts ++ t ∷ [])
filled (hole.Scaled ps k) t = behind.Parts (ps ++ (k, t) ∷ [])
filled (hole.Body b ss ps) t = behind.Close (full.Quantifier b ss ps t)
filled (hole.Pattern b ss ps ts) t = behind.Pattern b ss ps (ts ++ t ∷ [])

module _ (hs : List Hole) where
  abbrev pub at : TermCursor → TermState
  at c = record { holes = hs; cursor = c }

  abbrev pub into : Hole → TermState
  into h = record { holes = h ∷ hs; cursor = Item }

-- a term is complete: it is the whole, or fills the innermost hole
abbrev pub completed : List Hole → Tree → TermState
completed [] t = at [] (Whole t)
completed (h ∷ hs) t = at hs (After (filled h t))

-- the sort of maps, so many times, to this sort
abbrev pub nested : ℕ → Kind → Kind
nested zero s = s
nested (suc m) s = map (nested m s)

module _ (hs : List Hole) where
  abbrev pub item_moves : List (ℕ × TermState)
  item_moves = (40, at hs Opened) ∷ (84, completed hs (truth true)) ∷ (70, completed hs (truth false)) ∷ (118, at hs (Due letter.Free)) ∷ (107, at hs (Due letter.Bound)) ∷ (45, at hs (Minus signed.Number)) ∷ []

  -- the bytes that name what is in parentheses
  abbrev pub head_moves : List (ℕ × TermState)
  head_moves = (43, at hs (After (behind.Parts []))) ∷ (42, at hs (After (behind.Space (hole.Left pair.Mul)))) ∷ (114, at hs (After (behind.Space (hole.Left pair.Read)))) ∷ (61, at hs (After (behind.Space (hole.Left pair.Eq))))
      ∷ (119, at hs (After (behind.Space (hole.First triple.Write)))) ∷ (63, at hs (After (behind.Space (hole.First triple.If)))) ∷ (102, at hs (Due letter.Call)) ∷ (33, at hs (After (behind.Space hole.Not)))
      ∷ (38, at hs (After (behind.Many many.And []))) ∷ (124, at hs (After (behind.Many many.Or []))) ∷ (60, at hs Less)
      ∷ (65, at hs (After (behind.Sorts binder.ForAll))) ∷ (69, at hs (After (behind.Sorts binder.Exists))) ∷ []

  abbrev pub less_moves : List (ℕ × TermState)
  less_moves = (61, at hs (After (behind.Space (hole.Left pair.Le)))) ∷ []

  abbrev pub sign_moves : Signed → List (ℕ × TermState)
  sign_moves s = (45, at hs (Minus s)) ∷ []

  abbrev pub sort_moves : Binder → List Kind → ℕ → List (ℕ × TermState)
  sort_moves b ss m = (105, at hs (Sorts b (ss ++ nested m int ∷ []) 0)) ∷ (98, at hs (Sorts b (ss ++ nested m boolean ∷ []) 0)) ∷ (109, at hs (Sorts b ss (m + 1))) ∷ []

  -- no sorts at all, or the end of some
  abbrev pub sorts_end : Binder → List Kind → ℕ → List (ℕ × TermState)
  sorts_end b ss (suc m) = []
  sorts_end b [] zero = (45, at hs (After (behind.Space (hole.Body b [] [])))) ∷ []
  sorts_end b (s ∷ ss) zero = (32, into hs (hole.Body b (s ∷ ss) [])) ∷ []

  -- a space behind a part, and the parenthesis that closes a form
  abbrev pub behind_space : Behind → Option TermState
  behind_space (behind.Space h) = Some (into hs h)
  behind_space (behind.Close f) = None
  behind_space (behind.Many m ts) = Some (into hs (hole.Member m ts))
  behind_space (behind.Parts ps) = Some (at hs (SignedDue (signed.Coefficient ps)))
  behind_space (behind.Sum ps k) = Some (into hs (hole.Scaled ps k))
  behind_space (behind.Sorts b) = Some (at hs (Sorts b [] 0))
  behind_space (behind.Pattern b ss ps ts) = Some (into hs (hole.Pattern b ss ps ts))

  abbrev pub behind_close : Behind → Option TermState
  behind_close (behind.Space h) = None
  behind_close (behind.Close f) = Some (completed hs (full_of f))
  behind_close (behind.Many m ts) = Some (completed hs (many_of m ts))
  behind_close (behind.Parts ps) = None
  behind_close (behind.Sum ps k) = Some (completed hs (linear (parts_of ps) k))
  behind_close (behind.Sorts b) = None
  behind_close (behind.Pattern b ss ps ts) = Some (at hs (After (behind.Space (hole.Body b ss (ps ++ ts ∷ [])))))

-- the binder, sorts and triggers of a hole for a quantifier's body
abbrev pub body_of : Hole → Option (Binder × List Kind × List (List Tree))
body_of (hole.Body b ss ps) = Some (b, ss, ps)
body_of h = None

-- a trigger may begin where the innermost hole is a quantifier's
abbrev pub trigger_in : List Hole → Option (Binder × List Kind × List (List Tree)) → List (ℕ × TermState)
trigger_in hs None = []
trigger_in hs (Some p) = (116, at hs (After (behind.Pattern p.0 p.1 p.2 []))) ∷ []

abbrev pub trigger_moves : List Hole → List (ℕ × TermState)
trigger_moves [] = []
trigger_moves (h ∷ hs) = trigger_in hs (body_of h)

-- a number that ends
abbrev pub lettered : Letter → ℕ → List Hole → TermState
lettered letter.Free v hs = completed hs (free v)
lettered letter.Bound v hs = completed hs (bound v)
lettered letter.Call v hs = at hs (After (behind.Many (many.Call v) []))

abbrev pub counted : Signed → ℤ → List Hole → TermState
counted signed.Number n hs = completed hs (num n)
counted (signed.Coefficient ps) n hs = at hs (After (behind.Sum ps n))

abbrev pub behind_step : List Hole → TermCursor → ℕ → Option TermState
behind_step hs (After a) c = by_stop c (behind_space hs a) (behind_close hs a)
behind_step hs Item c = None
behind_step hs Opened c = None
behind_step hs Less c = None
behind_step hs (Due l) c = None
behind_step hs (Lettered l v) c = None
behind_step hs (SignedDue s) c = None
behind_step hs (Minus s) c = None
behind_step hs (Digits s n) c = None
behind_step hs (Sorts b ss m) c = None
behind_step hs (Whole t) c = None

abbrev pub next_behind : TermState → ℕ → Option TermState
next_behind st c = behind_step st.holes st.cursor c

-- the state behind one more byte, where a term's text may go on with it
abbrev pub term_step : List Hole → TermCursor → ℕ → Option TermState
term_step hs Item c = or_else (at_byte c (item_moves hs)) (option_map (λ d. at hs (Digits signed.Number (pos d))) (digit c))
term_step hs Opened c = or_else (at_byte c (head_moves hs)) (at_byte c (trigger_moves hs))
term_step hs Less c = at_byte c (less_moves hs)
term_step hs (Due l) c = option_map (λ d. at hs (Lettered l d)) (digit c)
term_step hs (Lettered l v) c = or_else (option_map (λ w. at hs (Lettered l w)) (more_number v c)) (next_behind (lettered l v hs) c)
term_step hs (SignedDue s) c = or_else (at_byte c (sign_moves hs s)) (option_map (λ d. at hs (Digits s (pos d))) (digit c))
term_step hs (Minus s) c = option_map (λ n. at hs (Digits s n)) (first_negative c)
term_step hs (Digits s n) c = or_else (option_map (λ m. at hs (Digits s m)) (more_integer n c)) (next_behind (counted s n hs) c)
term_step hs (Sorts b ss m) c = or_else (at_byte c (sort_moves hs b ss m)) (at_byte c (sorts_end hs b ss m))
term_step hs (After a) c = by_stop c (behind_space hs a) (behind_close hs a)
term_step hs (Whole t) c = next_behind (completed hs t) c

abbrev pub is_empty : {A : Type 0} → List A → Bool
is_empty [] = true
is_empty (x ∷ xs) = false

-- nothing is open any more
abbrev pub alone : List Hole → Option Tree → Option Tree
alone hs None = None
alone hs (Some t) = if is_empty hs then Some t else None

abbrev pub named : Letter → ℕ → Option Tree
named letter.Free v = Some (free v)
named letter.Bound v = Some (bound v)
named letter.Call v = None

abbrev pub plain : Signed → ℤ → Option Tree
plain signed.Number n = Some (num n)
plain (signed.Coefficient ps) n = None

-- the term that has been read, where it may end here
abbrev pub finished : List Hole → TermCursor → Option Tree
finished hs Item = None
finished hs Opened = None
finished hs Less = None
finished hs (Due l) = None
finished hs (Lettered l v) = alone hs (named l v)
finished hs (SignedDue s) = None
finished hs (Minus s) = None
finished hs (Digits s n) = alone hs (plain s n)
finished hs (Sorts b ss m) = None
finished hs (After a) = None
finished hs (Whole t) = alone hs (Some t)

abbrev pub present : Option Tree → Bool
present None = false
present (Some t) = true
