-- The reader reads the text of each term whose numbers fit their types, and no other's.
use Rattle.std.proofs.Common.{◌≡◌, ℕ, suc, ◌+◌, ◌*◌, ◌<◌, ◌-◌, ◌^◌, nat_eq, nat_lt, ℤ, pos, negsuc, Bool, true, false, ◌&&◌, ◌||◌, if◌then◌else◌, Option, None, Some, option_map, List, [], ◌∷◌, ◌++◌, refl, ap, sym, ◌∙◌, append_assoc, arith}
use Rattle.std.proofs.lemmas.List.{append-nil}
use Rattle.std.proofs.lemmas.Bool.Decides.{nat_tests}
use Rattle.logic_core.specs.Tree.{Kind, int, boolean, map, Tree, num, truth, free, bound, linear, mul, read, write, choose, call, negation, all, some, equal, at_most, for_all, exists, Trees, no_trees, tree, Parts, no_parts, part, Patterns, no_patterns, pattern}
use Rattle.logic_core.specs.View.{trees_of, parts_of, patterns_of}
use Rattle.logic_core.specs.Wide.{fits, when}
use Rattle.obligation_text.specs.Numbers.{number_text, signed_text}
use Rattle.obligation_text.proofs.Printed.{sort_onto, together_onto, sorts_onto, onto, trees_onto, parts_onto, triggers_onto}
use Rattle.proof_core.specs.Proof.{Step}
use Rattle.proof_text.specs.Reading.{is_number, term_fits, terms_fit, parts_fit, triggers_fit}
use Rattle.proof_text.specs.Digit.{digit, more_integer}
use Rattle.proof_text.specs.TermStates.{or_else, pair_of, triple_of, many_of, bound_of, nested}
use Rattle.proof_text.specs.TermStates.{at as in_holes}
use Rattle.proof_text.specs.States.{inside, run}
use Rattle.proof_text.specs.declared.hole.Pair.{Pair}
use Rattle.proof_text.specs.declared.hole.Pair.TheVariants as pair
use Rattle.proof_text.specs.declared.hole.Triple.{Triple}
use Rattle.proof_text.specs.declared.hole.Triple.TheVariants as triple
use Rattle.proof_text.specs.declared.hole.Binder.{Binder}
use Rattle.proof_text.specs.declared.hole.Binder.TheVariants as binder
use Rattle.proof_text.specs.declared.hole.Many.{Many}
use Rattle.proof_text.specs.declared.hole.Many.TheVariants as many
use Rattle.proof_text.specs.declared.hole.Hole.{Hole}
use Rattle.proof_text.specs.declared.hole.Hole.TheVariants as hole
use Rattle.proof_text.specs.declared.hole.Behind.TheVariants as behind
use Rattle.proof_text.specs.declared.term_state.Letter.{Letter}
use Rattle.proof_text.specs.declared.term_state.Letter.TheVariants as letter
use Rattle.proof_text.specs.declared.term_state.Signed.{Signed}
use Rattle.proof_text.specs.declared.term_state.Signed.TheVariants as signed
use Rattle.proof_text.specs.declared.term_state.TermCursor.TheVariants as term
use Rattle.proof_text.specs.declared.node.Argument.{Argument}
use Rattle.proof_text.specs.declared.node.Level.{Level}
use Rattle.proof_text.specs.declared.state.State.{State}
use Rattle.proof_text.specs.TermStates.{at_byte, item_moves, behind_step, next_behind, behind_space, behind_close, lettered, counted, term_step, finished}
use Rattle.proof_text.specs.States.{in_term as one_term, behind_term as one_behind}
use Rattle.proof_text.specs.declared.term_state.TermCursor.{TermCursor}
use Rattle.proof_text.proofs.NumbersComplete.{two_tests, or_when, digit_of, below_signs, above_digits, other_byte, no_stop, number_goes, integer_goes, negative_goes, negative_begins, step_at, CountsTo, counts}
use Rattle.proof_text.proofs.Nested.{nested_more}
use Rattle.proof_text.proofs.Endings.{stop, in_term, behind_term, free_alike, bound_alike, number_alike}

pub when_map : {A B : Type 0} (b : Bool) (x : A) (f : A → B) → option_map f (when b (Some x)) ≡ when b (Some (f x))
when_map true x f = refl
when_map false x f = refl

-- a byte that follows a part
abbrev pub Follows : List ℕ → Type 0
Follows s = (b : Bool) × (r : List ℕ) × (s ≡ stop b ∷ r)

-- lists as the reader gathers them
abbrev list_of : Trees → List Tree
list_of no_trees = []
list_of (tree t ts) = t ∷ list_of ts

abbrev parts_list : Parts → List (ℤ × Tree)
parts_list no_parts = []
parts_list (part k t ps) = (k, t) ∷ parts_list ps

abbrev patterns_list : Patterns → List (List Tree)
patterns_list no_patterns = []
patterns_list (pattern ts ps) = list_of ts ∷ patterns_list ps

same_trees : (ts : Trees) → trees_of (list_of ts) ≡ ts
same_trees no_trees = refl
same_trees (tree t ts) = ap (tree t) (same_trees ts)

same_parts : (ps : Parts) → parts_of (parts_list ps) ≡ ps
same_parts no_parts = refl
same_parts (part k t ps) = ap (part k t) (same_parts ps)

same_patterns : (ps : Patterns) → patterns_of (patterns_list ps) ≡ ps
same_patterns no_patterns = refl
same_patterns (pattern ts ps) = ap (λ us. pattern us (patterns_of (patterns_list ps))) (same_trees ts) ∙ ap (pattern ts) (same_patterns ps)

trees_front : (ts : Trees) (s : List ℕ) → Follows (trees_onto ts (41 ∷ s))
trees_front no_trees s = (false, s, refl)
trees_front (tree t ts) s = (true, onto t (trees_onto ts (41 ∷ s)), refl)

parts_front : (ps : Parts) (s : List ℕ) → Follows (parts_onto ps (32 ∷ s))
parts_front no_parts s = (true, s, refl)
parts_front (part k t ps) s = (true, signed_text k ++ 32 ∷ onto t (parts_onto ps (32 ∷ s)), refl)

triggers_front : (ps : Patterns) (s : List ℕ) → (r : List ℕ) × (triggers_onto ps (32 ∷ s) ≡ 32 ∷ r)
triggers_front no_patterns s = (s, refl)
triggers_front (pattern ts ps) s = (40 ∷ 116 ∷ trees_onto ts (41 ∷ triggers_onto ps (32 ∷ s)), refl)

-- no part goes on with a digit
no_next : (hs : List Hole) (c : TermCursor) (d : ℕ) → behind_step hs c (48 + d) ≡ None
no_next hs (term.After b) d = no_stop d (behind_space hs b) (behind_close hs b)
no_next hs term.Item d = refl
no_next hs term.Opened d = refl
no_next hs term.Less d = refl
no_next hs (term.Due l) d = refl
no_next hs (term.Lettered l v) d = refl
no_next hs (term.SignedDue s) d = refl
no_next hs (term.Minus s) d = refl
no_next hs (term.Digits s n) d = refl
no_next hs (term.Sorts b ks m) d = refl
no_next hs (term.Whole t) d = refl

no_item : (hs : List Hole) (d : ℕ) → d < 10 → at_byte (48 + d) (item_moves hs) ≡ None
no_item hs d l = other_byte (48 + d) (item_moves hs) (below_signs d 40 (omega arith), (above_digits d 84 l (omega arith), (above_digits d 70 l (omega arith), (above_digits d 118 l (omega arith), (above_digits d 107 l (omega arith), (below_signs d 45 (omega arith), tt))))))

pub no_sign : {A : Type 0} (d : ℕ) (x : A) → at_byte (48 + d) ((45, x) ∷ []) ≡ None
no_sign d x = other_byte (48 + d) ((45, x) ∷ []) (below_signs d 45 (omega arith), tt)

module _ (ls : List Level) (ss : List Step) (a : Argument) where
  abbrev pub inner : List Hole → TermCursor → State
  inner hs c = in_term ls ss a hs c

  abbrev behind_ : List Hole → Tree → State
  behind_ hs t = behind_term ls ss a hs t

  not_behind : (d : ℕ) → (nat_eq (48 + d) 32 || nat_eq (48 + d) 41) ≡ false
  not_behind d = ap (λ b. b || nat_eq (48 + d) 41) (below_signs d 32 (omega arith)) ∙ below_signs d 41 (omega arith)

  pub inside_digit : (hs : List Hole) (c : TermCursor) (d : ℕ) → step_at (inner hs c) (48 + d) ≡ option_map (λ u. inside ls ss a u) (term_step hs c (48 + d))
  inside_digit hs c d = ap (λ b. if b then one_behind ls ss a (in_holes hs c) (48 + d) (finished hs c) else one_term ls ss a (in_holes hs c) (48 + d)) (not_behind d)

  letter_counts : (hs : List Hole) (l : Letter) → CountsTo 0 (2 ^ 64) (inner hs (term.Due l)) (λ v. inner hs (term.Lettered l v))
  letter_counts hs l = record {
    begins = λ d b h. inside_digit hs (term.Due l) d ∙ ap (λ o. option_map (λ u. inside ls ss a u) (option_map (λ e. in_holes hs (term.Lettered l e)) o)) (digit_of d h);
    goes = λ v d p h. inside_digit hs (term.Lettered l v) d
        ∙ ap (λ o. option_map (λ u. inside ls ss a u) (or_else (option_map (λ e. in_holes hs (term.Lettered l e)) o) (next_behind (lettered l v hs) (48 + d)))) (number_goes v d p h)
        ∙ ap (λ o. option_map (λ u. inside ls ss a u) (or_else (option_map (λ e. in_holes hs (term.Lettered l e)) (when (nat_lt (10 * v + d) (2 ^ 64)) (Some (10 * v + d)))) o)) (no_next (lettered l v hs).holes (lettered l v hs).cursor d)
        ∙ ap (λ o. option_map (λ u. inside ls ss a u) o) (or_when (nat_lt (10 * v + d) (2 ^ 64)) (10 * v + d) (λ e. in_holes hs (term.Lettered l e)))
        ∙ when_map (nat_lt (10 * v + d) (2 ^ 64)) (in_holes hs (term.Lettered l (10 * v + d))) (λ u. inside ls ss a u);
  }

  -- the next digit of an integer
  integer_next : (hs : List Hole) (s : Signed) (n m : ℤ) (t : Bool) (d : ℕ) → more_integer n (48 + d) ≡ when t (Some m) → step_at (inner hs (term.Digits s n)) (48 + d) ≡ when t (Some (inner hs (term.Digits s m)))
  integer_next hs s n m t d e = inside_digit hs (term.Digits s n) d
      ∙ ap (λ o. option_map (λ u. inside ls ss a u) (or_else (option_map (λ k. in_holes hs (term.Digits s k)) o) (next_behind (counted s n hs) (48 + d)))) e
      ∙ ap (λ o. option_map (λ u. inside ls ss a u) (or_else (option_map (λ k. in_holes hs (term.Digits s k)) (when t (Some m))) o)) (no_next (counted s n hs).holes (counted s n hs).cursor d)
      ∙ ap (λ o. option_map (λ u. inside ls ss a u) o) (or_when t m (λ k. in_holes hs (term.Digits s k)))
      ∙ when_map t (in_holes hs (term.Digits s m)) (λ u. inside ls ss a u)

  signed_counts : (hs : List Hole) (s : Signed) → CountsTo 0 (2 ^ 127) (inner hs (term.SignedDue s)) (λ v. inner hs (term.Digits s (pos v)))
  signed_counts hs s = record {
    begins = λ d b h. inside_digit hs (term.SignedDue s) d
        ∙ ap (λ o. option_map (λ u. inside ls ss a u) (or_else o (option_map (λ e. in_holes hs (term.Digits s (pos e))) (digit (48 + d))))) (no_sign d _)
        ∙ ap (λ o. option_map (λ u. inside ls ss a u) (option_map (λ e. in_holes hs (term.Digits s (pos e))) o)) (digit_of d h);
    goes = λ v d p h. integer_next hs s (pos v) (pos (10 * v + d)) (nat_lt (10 * v + d) (2 ^ 127)) d (integer_goes v d p h);
  }

  pub item_counts : (hs : List Hole) → CountsTo 0 (2 ^ 127) (inner hs term.Item) (λ v. inner hs (term.Digits signed.Number (pos v)))
  item_counts hs = record {
    begins = λ d b h. inside_digit hs term.Item d
        ∙ ap (λ o. option_map (λ u. inside ls ss a u) (or_else o (option_map (λ e. in_holes hs (term.Digits signed.Number (pos e))) (digit (48 + d))))) (no_item hs d h)
        ∙ ap (λ o. option_map (λ u. inside ls ss a u) (option_map (λ e. in_holes hs (term.Digits signed.Number (pos e))) o)) (digit_of d h);
    goes = λ v d p h. integer_next hs signed.Number (pos v) (pos (10 * v + d)) (nat_lt (10 * v + d) (2 ^ 127)) d (integer_goes v d p h);
  }

  minus_counts : (hs : List Hole) (s : Signed) → CountsTo 1 (2 ^ 127 + 1) (inner hs (term.Minus s)) (λ v. inner hs (term.Digits s (negsuc (v - 1))))
  minus_counts hs s = record {
    begins = λ d b h. inside_digit hs (term.Minus s) d ∙ ap (λ o. option_map (λ u. inside ls ss a u) (option_map (λ k. in_holes hs (term.Digits s k)) o)) (negative_begins d (omega (arith, b)) h);
    goes = λ v d p h. integer_next hs s (negsuc (v - 1)) (negsuc (10 * v + d - 1)) (nat_lt (10 * v + d) (2 ^ 127 + 1)) d (negative_goes v d p h);
  }

  negative_reads : (hs : List Hole) (s : Signed) (m : ℕ) (r : List ℕ) → run (inner hs (term.Minus s)) (number_text (suc m) ++ r) ≡ when (fits (negsuc m)) (run (inner hs (term.Digits s (negsuc m))) r)
  negative_reads hs s m r = counts 1 (2 ^ 127 + 1) (inner hs (term.Minus s)) (λ v. inner hs (term.Digits s (negsuc (v - 1)))) (omega arith) (omega arith) (minus_counts hs s) (suc m) (omega arith) r
      ∙ ap (λ b. when b (run (inner hs (term.Digits s (negsuc (suc m - 1)))) r)) (let e : nat_lt (suc m) (2 ^ 127 + 1) ≡ nat_lt m (2 ^ 127) = grind (arith, nat_tests) in e)
      ∙ ap (λ k. when (nat_lt m (2 ^ 127)) (run (inner hs (term.Digits s (negsuc k))) r)) (let e : suc m - 1 ≡ m = omega arith in e)

  integer_reads : (hs : List Hole) (s : Signed) (n : ℤ) (r : List ℕ) → run (inner hs (term.SignedDue s)) (signed_text n ++ r) ≡ when (fits n) (run (inner hs (term.Digits s n)) r)
  integer_reads hs s (pos n) r = counts 0 (2 ^ 127) (inner hs (term.SignedDue s)) (λ v. inner hs (term.Digits s (pos v))) (omega arith) (omega arith) (signed_counts hs s) n (omega arith) r
  integer_reads hs s (negsuc m) r = negative_reads hs s m r

  pub number_reads : (hs : List Hole) (n : ℤ) (r : List ℕ) → run (inner hs term.Item) (signed_text n ++ r) ≡ when (fits n) (run (inner hs (term.Digits signed.Number n)) r)
  number_reads hs (pos n) r = counts 0 (2 ^ 127) (inner hs term.Item) (λ v. inner hs (term.Digits signed.Number (pos v))) (omega arith) (omega arith) (item_counts hs) n (omega arith) r
  number_reads hs (negsuc m) r = negative_reads hs signed.Number m r

  letter_reads : (hs : List Hole) (l : Letter) (v : ℕ) (r : List ℕ) → run (inner hs (term.Due l)) (number_text v ++ r) ≡ when (is_number v) (run (inner hs (term.Lettered l v)) r)
  letter_reads hs l v r = counts 0 (2 ^ 64) (inner hs (term.Due l)) (λ w. inner hs (term.Lettered l w)) (omega arith) (omega arith) (letter_counts hs l) v (omega arith) r

  -- what ends at the byte that follows
  ends_alike : (st u : State) (s : List ℕ) → Follows s → ((b : Bool) (r : List ℕ) → run st (stop b ∷ r) ≡ run u (stop b ∷ r)) → run st s ≡ run u s
  ends_alike st u s f h = ap (run st) f.2 ∙ h f.0 f.1 ∙ sym (ap (run u) f.2)

  call_alike : (hs : List Hole) (f : ℕ) (b : Bool) (r : List ℕ) → run (inner hs (term.Lettered letter.Call f)) (stop b ∷ r) ≡ run (inner hs (term.After (behind.Many (many.Call f) []))) (stop b ∷ r)
  call_alike hs f true r = refl
  call_alike hs f false r = refl

  coefficient_alike : (hs : List Hole) (ps : List (ℤ × Tree)) (n : ℤ) (b : Bool) (r : List ℕ) → run (inner hs (term.Digits (signed.Coefficient ps) n)) (stop b ∷ r) ≡ run (inner hs (term.After (behind.Sum ps n))) (stop b ∷ r)
  coefficient_alike hs ps n true r = refl
  coefficient_alike hs ps n false r = refl

  -- sorts
  sort_reads : (k : Kind) (hs : List Hole) (b : Binder) (ks : List Kind) (m : ℕ) (r : List ℕ) → run (inner hs (term.Sorts b ks m)) (sort_onto k r) ≡ run (inner hs (term.Sorts b (ks ++ nested m k ∷ []) 0)) r
  sort_reads int hs b ks m r = refl
  sort_reads boolean hs b ks m r = refl
  sort_reads (map k) hs b ks m r = sort_reads k hs b ks (m + 1) r ∙ ap (λ x. run (inner hs (term.Sorts b (ks ++ x ∷ []) 0)) r) (nested_more m k)

  together_reads : (js : List Kind) (hs : List Hole) (b : Binder) (ks : List Kind) (r : List ℕ) → run (inner hs (term.Sorts b ks 0)) (together_onto js r) ≡ run (inner hs (term.Sorts b (ks ++ js) 0)) r
  together_reads [] hs b ks r = ap (λ x. run (inner hs (term.Sorts b x 0)) r) (sym (append-nil ks))
  together_reads (j ∷ js) hs b ks r = sort_reads j hs b ks 0 (together_onto js r) ∙ together_reads js hs b (ks ++ j ∷ []) r ∙ ap (λ x. run (inner hs (term.Sorts b x 0)) r) (append_assoc ks (j ∷ []) js)

  sorts_read : (ks : List Kind) (hs : List Hole) (b : Binder) (r : List ℕ) → run (inner hs (term.Sorts b [] 0)) (sorts_onto ks (32 ∷ r)) ≡ run (inner hs (term.After (behind.Space (hole.Body b ks [])))) (32 ∷ r)
  sorts_read [] hs b r = refl
  sorts_read (k ∷ ks) hs b r = together_reads (k ∷ ks) hs b [] (32 ∷ r)

  abbrev Reads : Tree → Type 0
  Reads t = (hs : List Hole) (s : List ℕ) → Follows s → run (inner hs term.Item) (onto t s) ≡ when (term_fits t) (run (behind_ hs t) s)

  pair_reads : (p : Pair) (x y : Tree) (hs : List Hole) (s : List ℕ) → Reads x → Reads y → run (inner hs (term.After (behind.Space (hole.Left p)))) (32 ∷ onto x (32 ∷ onto y (41 ∷ s))) ≡ when (term_fits x && term_fits y) (run (behind_ hs (pair_of p x y)) s)
  pair_reads p x y hs s rx ry = two_tests (term_fits x) (term_fits y) _ (run (behind_ (hole.Left p ∷ hs) x) (32 ∷ onto y (41 ∷ s))) _
      (rx (hole.Left p ∷ hs) (32 ∷ onto y (41 ∷ s)) (true, onto y (41 ∷ s), refl)) (ry (hole.Right p x ∷ hs) (41 ∷ s) (false, s, refl))

  triple_reads : (q : Triple) (x y z : Tree) (hs : List Hole) (s : List ℕ) → Reads x → Reads y → Reads z
      → run (inner hs (term.After (behind.Space (hole.First q)))) (32 ∷ onto x (32 ∷ onto y (32 ∷ onto z (41 ∷ s)))) ≡ when (term_fits x && (term_fits y && term_fits z)) (run (behind_ hs (triple_of q x y z)) s)
  triple_reads q x y z hs s rx ry rz = two_tests (term_fits x) (term_fits y && term_fits z) _ (run (behind_ (hole.First q ∷ hs) x) (32 ∷ onto y (32 ∷ onto z (41 ∷ s)))) _
      (rx (hole.First q ∷ hs) (32 ∷ onto y (32 ∷ onto z (41 ∷ s))) (true, onto y (32 ∷ onto z (41 ∷ s)), refl))
      (two_tests (term_fits y) (term_fits z) _ (run (behind_ (hole.Second q x ∷ hs) y) (32 ∷ onto z (41 ∷ s))) _
      (ry (hole.Second q x ∷ hs) (32 ∷ onto z (41 ∷ s)) (true, onto z (41 ∷ s), refl)) (rz (hole.Third q x y ∷ hs) (41 ∷ s) (false, s, refl)))

  four_tests : {A : Type 0} (x y z c : Bool) (v : Option A) → when x (when y (when (z && c) v)) ≡ when ((x && (y && z)) && c) v
  four_tests true true z c v = refl
  four_tests true false z c v = refl
  four_tests false y z c v = refl

  three_tests : {A : Type 0} (x y z : Bool) (v : Option A) → when x (when (y && z) v) ≡ when ((x && y) && z) v
  three_tests true y z v = refl
  three_tests false y z v = refl

  quantified_reads : (x : Option State) (b : Binder) (ks : List Kind) (ps : Patterns) (t : Tree) (hs : List Hole) (s : List ℕ)
      → run (inner hs (term.After (behind.Space (hole.Body b ks [])))) (triggers_onto ps (32 ∷ onto t (41 ∷ s))) ≡ x
      → run (inner hs (term.Sorts b [] 0)) (sorts_onto ks (triggers_onto ps (32 ∷ onto t (41 ∷ s)))) ≡ x
  quantified_reads x b ks ps t hs s h = let f = triggers_front ps (onto t (41 ∷ s)) in
      ap (λ r. run (inner hs (term.Sorts b [] 0)) (sorts_onto ks r)) f.1 ∙ sorts_read ks hs b f.0 ∙ ap (run (inner hs (term.After (behind.Space (hole.Body b ks []))))) (sym f.1) ∙ h

  mutual
    pub term_reads : (t : Tree) → Reads t
    term_reads (num n) hs s f = number_reads hs n s ∙ ap (when (fits n)) (ends_alike (inner hs (term.Digits signed.Number n)) (behind_ hs (num n)) s f (number_alike ls ss a hs n))
    term_reads (truth true) hs s f = refl
    term_reads (truth false) hs s f = refl
    term_reads (free v) hs s f = letter_reads hs letter.Free v s ∙ ap (when (is_number v)) (ends_alike (inner hs (term.Lettered letter.Free v)) (behind_ hs (free v)) s f (free_alike ls ss a hs v))
    term_reads (bound v) hs s f = letter_reads hs letter.Bound v s ∙ ap (when (is_number v)) (ends_alike (inner hs (term.Lettered letter.Bound v)) (behind_ hs (bound v)) s f (bound_alike ls ss a hs v))
    term_reads (linear ps c) hs s f = parts_read ps [] c hs s ∙ ap (λ qs. when (parts_fit ps && fits c) (run (behind_ hs (linear qs c)) s)) (same_parts ps)
    term_reads (mul x y) hs s f = pair_reads pair.Mul x y hs s (term_reads x) (term_reads y)
    term_reads (read x y) hs s f = pair_reads pair.Read x y hs s (term_reads x) (term_reads y)
    term_reads (write x y z) hs s f = triple_reads triple.Write x y z hs s (term_reads x) (term_reads y) (term_reads z)
    term_reads (choose x y z) hs s f = triple_reads triple.If x y z hs s (term_reads x) (term_reads y) (term_reads z)
    term_reads (call g ts) hs s f = two_tests (is_number g) (terms_fit ts) _ (run (inner hs (term.Lettered letter.Call g)) (trees_onto ts (41 ∷ s))) _
        (letter_reads hs letter.Call g (trees_onto ts (41 ∷ s)))
        (ends_alike (inner hs (term.Lettered letter.Call g)) (inner hs (term.After (behind.Many (many.Call g) []))) (trees_onto ts (41 ∷ s)) (trees_front ts s) (call_alike hs g)
        ∙ members_read ts (many.Call g) [] hs s ∙ ap (λ us. when (terms_fit ts) (run (behind_ hs (call g us)) s)) (same_trees ts))
    term_reads (negation x) hs s f = term_reads x (hole.Not ∷ hs) (41 ∷ s) (false, s, refl)
    term_reads (all ts) hs s f = members_read ts many.And [] hs s ∙ ap (λ us. when (terms_fit ts) (run (behind_ hs (all us)) s)) (same_trees ts)
    term_reads (some ts) hs s f = members_read ts many.Or [] hs s ∙ ap (λ us. when (terms_fit ts) (run (behind_ hs (some us)) s)) (same_trees ts)
    term_reads (equal x y) hs s f = pair_reads pair.Eq x y hs s (term_reads x) (term_reads y)
    term_reads (at_most x y) hs s f = pair_reads pair.Le x y hs s (term_reads x) (term_reads y)
    term_reads (for_all ks ps t) hs s f = quantified_reads _ binder.ForAll ks ps t hs s (triggers_read ps t binder.ForAll ks [] hs s (term_reads t)) ∙ ap (λ qs. when (triggers_fit ps && term_fits t) (run (behind_ hs (for_all ks qs t)) s)) (same_patterns ps)
    term_reads (exists ks ps t) hs s f = quantified_reads _ binder.Exists ks ps t hs s (triggers_read ps t binder.Exists ks [] hs s (term_reads t)) ∙ ap (λ qs. when (triggers_fit ps && term_fits t) (run (behind_ hs (exists ks qs t)) s)) (same_patterns ps)

    members_read : (ts : Trees) (m : Many) (got : List Tree) (hs : List Hole) (s : List ℕ)
        → run (inner hs (term.After (behind.Many m got))) (trees_onto ts (41 ∷ s)) ≡ when (terms_fit ts) (run (behind_ hs (many_of m (got ++ list_of ts))) s)
    members_read no_trees m got hs s = ap (λ us. run (behind_ hs (many_of m us)) s) (sym (append-nil got))
    members_read (tree t ts) m got hs s = two_tests (term_fits t) (terms_fit ts) _ (run (behind_ (hole.Member m got ∷ hs) t) (trees_onto ts (41 ∷ s))) _
        (term_reads t (hole.Member m got ∷ hs) (trees_onto ts (41 ∷ s)) (trees_front ts s))
        (members_read ts m (got ++ t ∷ []) hs s ∙ ap (λ us. when (terms_fit ts) (run (behind_ hs (many_of m us)) s)) (append_assoc got (t ∷ []) (list_of ts)))

    pattern_reads : (ts : Trees) (b : Binder) (ks : List Kind) (ps : List (List Tree)) (got : List Tree) (hs : List Hole) (s : List ℕ)
        → run (inner hs (term.After (behind.Pattern b ks ps got))) (trees_onto ts (41 ∷ s)) ≡ when (terms_fit ts) (run (inner hs (term.After (behind.Space (hole.Body b ks (ps ++ (got ++ list_of ts) ∷ []))))) s)
    pattern_reads no_trees b ks ps got hs s = ap (λ us. run (inner hs (term.After (behind.Space (hole.Body b ks (ps ++ us ∷ []))))) s) (sym (append-nil got))
    pattern_reads (tree t ts) b ks ps got hs s = two_tests (term_fits t) (terms_fit ts) _ (run (behind_ (hole.Pattern b ks ps got ∷ hs) t) (trees_onto ts (41 ∷ s))) _
        (term_reads t (hole.Pattern b ks ps got ∷ hs) (trees_onto ts (41 ∷ s)) (trees_front ts s))
        (pattern_reads ts b ks ps (got ++ t ∷ []) hs s ∙ ap (λ us. when (terms_fit ts) (run (inner hs (term.After (behind.Space (hole.Body b ks (ps ++ us ∷ []))))) s)) (append_assoc got (t ∷ []) (list_of ts)))

    parts_read : (ps : Parts) (got : List (ℤ × Tree)) (c : ℤ) (hs : List Hole) (s : List ℕ)
        → run (inner hs (term.After (behind.Parts got))) (parts_onto ps (32 ∷ signed_text c ++ 41 ∷ s)) ≡ when (parts_fit ps && fits c) (run (behind_ hs (linear (parts_of (got ++ parts_list ps)) c)) s)
    parts_read no_parts got c hs s = integer_reads hs (signed.Coefficient got) c (41 ∷ s)
        ∙ ap (when (fits c)) (coefficient_alike hs got c false s ∙ ap (λ qs. run (behind_ hs (linear (parts_of qs) c)) s) (sym (append-nil got)))
    parts_read (part k t ps) got c hs s = integer_reads hs (signed.Coefficient got) k (32 ∷ onto t (parts_onto ps (32 ∷ signed_text c ++ 41 ∷ s)))
        ∙ ap (when (fits k)) (coefficient_alike hs got k true (onto t (parts_onto ps (32 ∷ signed_text c ++ 41 ∷ s)))
        ∙ term_reads t (hole.Scaled got k ∷ hs) (parts_onto ps (32 ∷ signed_text c ++ 41 ∷ s)) (parts_front ps (signed_text c ++ 41 ∷ s))
        ∙ ap (when (term_fits t)) (parts_read ps (got ++ (k, t) ∷ []) c hs s ∙ ap (λ qs. when (parts_fit ps && fits c) (run (behind_ hs (linear (parts_of qs) c)) s)) (append_assoc got ((k, t) ∷ []) (parts_list ps))))
        ∙ four_tests (fits k) (term_fits t) (parts_fit ps) (fits c) (run (behind_ hs (linear (parts_of (got ++ (k, t) ∷ parts_list ps)) c)) s)

    triggers_read : (ps : Patterns) (t : Tree) (b : Binder) (ks : List Kind) (got : List (List Tree)) (hs : List Hole) (s : List ℕ) → Reads t
        → run (inner hs (term.After (behind.Space (hole.Body b ks got)))) (triggers_onto ps (32 ∷ onto t (41 ∷ s))) ≡ when (triggers_fit ps && term_fits t) (run (behind_ hs (bound_of b ks (got ++ patterns_list ps) t)) s)
    triggers_read no_patterns t b ks got hs s rt = rt (hole.Body b ks got ∷ hs) (41 ∷ s) (false, s, refl) ∙ ap (λ qs. when (term_fits t) (run (behind_ hs (bound_of b ks qs t)) s)) (sym (append-nil got))
    triggers_read (pattern ts ps) t b ks got hs s rt = pattern_reads ts b ks got [] hs (triggers_onto ps (32 ∷ onto t (41 ∷ s)))
        ∙ ap (when (terms_fit ts)) (triggers_read ps t b ks (got ++ list_of ts ∷ []) hs s rt
        ∙ ap (λ qs. when (triggers_fit ps && term_fits t) (run (behind_ hs (bound_of b ks qs t)) s)) (append_assoc got (list_of ts ∷ []) (patterns_list ps)))
        ∙ three_tests (terms_fit ts) (triggers_fit ps) (term_fits t) (run (behind_ hs (bound_of b ks (got ++ list_of ts ∷ patterns_list ps) t)) s)
