-- A step of a term's reader shows one byte more.
use Rattle.std.proofs.Common.{◌≡◌, ℕ, zero, suc, ◌+◌, ℤ, pos, true, false, Option, None, Some, option_map, List, [], ◌∷◌, ◌++◌, refl, ap, sym, ◌∙◌, arith}
use Rattle.logic_core.specs.Tree.{Kind, int, boolean, Tree, num, truth, free, bound, linear}
use Rattle.logic_core.specs.View.{trees_of, parts_of, patterns_of}
use Rattle.obligation_text.specs.Numbers.{number_text, signed_text}
use Rattle.obligation_text.proofs.Printed.{sort_onto, together_onto, sorts_onto, onto, trees_onto, parts_onto, triggers_onto}
use Rattle.proof_text.specs.Digit.{digit, more_number, more_integer, first_negative}
use Rattle.proof_text.specs.TermStates.{at_byte, by_stop, many_of, full_of, filled, at, completed, nested, item_moves, head_moves, less_moves, sign_moves, sort_moves, sorts_end, behind_space, behind_close, trigger_moves, lettered, counted, behind_step, next_behind, term_step, finished}
use Rattle.proof_text.specs.declared.hole.Pair.TheVariants as pair
use Rattle.proof_text.specs.declared.hole.Triple.TheVariants as triple
use Rattle.proof_text.specs.declared.hole.Binder.{Binder}
use Rattle.proof_text.specs.declared.hole.Binder.TheVariants as binder
use Rattle.proof_text.specs.declared.hole.Many.{Many}
use Rattle.proof_text.specs.declared.hole.Many.TheVariants as many
use Rattle.proof_text.specs.declared.hole.Hole.{Hole}
use Rattle.proof_text.specs.declared.hole.Hole.TheVariants as hole
use Rattle.proof_text.specs.declared.hole.Full.{Full}
use Rattle.proof_text.specs.declared.hole.Full.TheVariants as full
use Rattle.proof_text.specs.declared.hole.Behind.{Behind}
use Rattle.proof_text.specs.declared.hole.Behind.TheVariants as behind
use Rattle.proof_text.specs.declared.term_state.Letter.{Letter}
use Rattle.proof_text.specs.declared.term_state.Letter.TheVariants as letter
use Rattle.proof_text.specs.declared.term_state.Signed.{Signed}
use Rattle.proof_text.specs.declared.term_state.Signed.TheVariants as signed
use Rattle.proof_text.specs.declared.term_state.TermCursor.{TermCursor}
use Rattle.proof_text.specs.declared.term_state.TermCursor.TheVariants.{Item, Opened, Less, Due, Lettered, SignedDue, Minus, Digits, Sorts, After, Whole}
use Rattle.proof_text.specs.declared.term_state.TermState.{TermState}
use Rattle.proof_text.proofs.TermsShown.{binder_onto, body_onto, hole_onto, around, full_onto, behind_onto, letter_onto, signed_onto, maps, cursor_onto, shown, Grows, EachGrows, byte_grows, stop_grows, either_grows, more_number_is, more_integer_is, first_digit_is, first_negative_is, number_grows, number_begins}

-- lists with one more item behind
pub trees_more : (ts : List Tree) (t : Tree) (r : List ℕ) → trees_onto (trees_of (ts ++ t ∷ [])) r ≡ trees_onto (trees_of ts) (32 ∷ onto t r)
trees_more [] t r = refl
trees_more (u ∷ ts) t r = ap (λ l. 32 ∷ onto u l) (trees_more ts t r)

pub parts_more : (ps : List (ℤ × Tree)) (k : ℤ) (t : Tree) (r : List ℕ) → parts_onto (parts_of (ps ++ (k, t) ∷ [])) r ≡ parts_onto (parts_of ps) (32 ∷ signed_text k ++ 32 ∷ onto t r)
parts_more [] k t r = refl
parts_more (p ∷ ps) k t r = ap (λ l. 32 ∷ signed_text p.0 ++ 32 ∷ onto p.1 l) (parts_more ps k t r)

pub patterns_more : (ps : List (List Tree)) (ts : List Tree) (r : List ℕ) → triggers_onto (patterns_of (ps ++ ts ∷ [])) r ≡ triggers_onto (patterns_of ps) (32 ∷ 40 ∷ 116 ∷ trees_onto (trees_of ts) (41 ∷ r))
patterns_more [] ts r = refl
patterns_more (us ∷ ps) ts r = ap (λ l. 32 ∷ 40 ∷ 116 ∷ trees_onto (trees_of us) (41 ∷ l)) (patterns_more ps ts r)

together_more : (ss : List Kind) (s : Kind) (r : List ℕ) → together_onto (ss ++ s ∷ []) r ≡ together_onto ss (sort_onto s r)
together_more [] s r = refl
together_more (k ∷ ss) s r = ap (sort_onto k) (together_more ss s r)

nested_shown : (m : ℕ) (s : Kind) (r : List ℕ) → sort_onto (nested m s) r ≡ maps m (sort_onto s r)
nested_shown zero s r = refl
nested_shown (suc m) s r = ap (λ l. 109 ∷ l) (nested_shown m s r)

deeper : (m : ℕ) (r : List ℕ) → maps (m + 1) r ≡ maps m (109 ∷ r)
deeper zero r = refl
deeper (suc m) r = let e : suc m + 1 ≡ suc (m + 1) = omega arith in ap (λ k. maps k r) e ∙ ap (λ l. 109 ∷ l) (deeper m r)

sort_shown : (b : Binder) (ss : List Kind) (m : ℕ) (s : Kind) (r : List ℕ) → binder_onto b (32 ∷ together_onto (ss ++ nested m s ∷ []) r) ≡ binder_onto b (32 ∷ together_onto ss (maps m (sort_onto s r)))
sort_shown b ss m s r = ap (λ l. binder_onto b (32 ∷ l)) (together_more ss (nested m s) r ∙ ap (together_onto ss) (nested_shown m s r))

-- what is complete
full_closed : (f : Full) (r : List ℕ) → onto (full_of f) r ≡ full_onto f (41 ∷ r)
full_closed (full.Not t) r = refl
full_closed (full.Pair pair.Mul a b) r = refl
full_closed (full.Pair pair.Read a b) r = refl
full_closed (full.Pair pair.Eq a b) r = refl
full_closed (full.Pair pair.Le a b) r = refl
full_closed (full.Triple triple.Write a b c) r = refl
full_closed (full.Triple triple.If a b c) r = refl
full_closed (full.Quantifier binder.ForAll ss ps t) r = refl
full_closed (full.Quantifier binder.Exists ss ps t) r = refl

many_closed : (m : Many) (ts : List Tree) (r : List ℕ) → onto (many_of m ts) r ≡ behind_onto (behind.Many m ts) (41 ∷ r)
many_closed (many.Call f) ts r = refl
many_closed many.And ts r = refl
many_closed many.Or ts r = refl

many_more : (m : Many) (ts : List Tree) (t : Tree) (r : List ℕ) → behind_onto (behind.Many m (ts ++ t ∷ [])) r ≡ behind_onto (behind.Many m ts) (32 ∷ onto t r)
many_more (many.Call f) ts t r = ap (λ l. 40 ∷ 102 ∷ number_text f ++ l) (trees_more ts t r)
many_more many.And ts t r = ap (λ l. 40 ∷ 38 ∷ l) (trees_more ts t r)
many_more many.Or ts t r = ap (λ l. 40 ∷ 124 ∷ l) (trees_more ts t r)

pub filled_shown : (h : Hole) (t : Tree) (r : List ℕ) → behind_onto (filled h t) r ≡ hole_onto h (32 ∷ onto t r)
filled_shown hole.Not t r = refl
filled_shown (hole.Left p) t r = refl
filled_shown (hole.Right p a) t r = refl
filled_shown (hole.First q) t r = refl
filled_shown (hole.Second q a) t r = refl
filled_shown (hole.Third q a b) t r = refl
filled_shown (hole.Member m ts) t r = many_more m ts t r
filled_shown (hole.Scaled ps k) t r = ap (λ l. 40 ∷ 43 ∷ l) (parts_more ps k t r)
filled_shown (hole.Body b ss ps) t r = refl
filled_shown (hole.Pattern b ss ps ts) t r = ap (λ l. body_onto b ss ps (32 ∷ 40 ∷ 116 ∷ l)) (trees_more ts t r)

pub completed_shown : (hs : List Hole) (t : Tree) (r : List ℕ) → shown (completed hs t) r ≡ around hs (onto t r)
completed_shown [] t r = refl
completed_shown (h ∷ hs) t r = ap (around hs) (filled_shown h t r)

-- the text of what is open around these holes, and of the cursor
abbrev over : List Hole → TermCursor → List ℕ → List ℕ
over hs c r = around hs (cursor_onto c r)

space_grows : (hs : List Hole) (b : Behind) → Grows shown (over hs (After b)) 32 (behind_space hs b)
space_grows hs (behind.Space h) = λ r. refl
space_grows hs (behind.Close f) = tt
space_grows hs (behind.Many m ts) = λ r. refl
space_grows hs (behind.Parts ps) = λ r. refl
space_grows hs (behind.Sum ps k) = λ r. refl
space_grows hs (behind.Sorts b) = λ r. refl
space_grows hs (behind.Pattern b ss ps ts) = λ r. refl

close_grows : (hs : List Hole) (b : Behind) → Grows shown (over hs (After b)) 41 (behind_close hs b)
close_grows hs (behind.Space h) = tt
close_grows hs (behind.Close f) = λ r. completed_shown hs (full_of f) r ∙ ap (around hs) (full_closed f r)
close_grows hs (behind.Many m ts) = λ r. completed_shown hs (many_of m ts) r ∙ ap (around hs) (many_closed m ts r)
close_grows hs (behind.Parts ps) = tt
close_grows hs (behind.Sum ps k) = λ r. completed_shown hs (linear (parts_of ps) k) r
close_grows hs (behind.Sorts b) = tt
close_grows hs (behind.Pattern b ss ps ts) = λ r. ap (λ l. around hs (binder_onto b (32 ∷ sorts_onto ss l))) (patterns_more ps ts r)

behind_grows : (hs : List Hole) (b : Behind) (c : ℕ) → Grows shown (over hs (After b)) c (by_stop c (behind_space hs b) (behind_close hs b))
behind_grows hs b c = stop_grows shown (over hs (After b)) c (behind_space hs b) (behind_close hs b) (space_grows hs b) (close_grows hs b)

-- behind a number or a term that shows the same
module _ (f : List ℕ → List ℕ) (c : ℕ) where
  same_text : (g : List ℕ → List ℕ) (o : Option TermState) → ((r : List ℕ) → g r ≡ f r) → Grows shown g c o → Grows shown f c o
  same_text g None e h = tt
  same_text g (Some st) e h = λ r. h r ∙ e (c ∷ r)

  next_grows : (hs : List Hole) (cursor : TermCursor) → ((r : List ℕ) → over hs cursor r ≡ f r) → Grows shown f c (behind_step hs cursor c)
  next_grows hs (After b) e = same_text (over hs (After b)) (by_stop c (behind_space hs b) (behind_close hs b)) e (behind_grows hs b c)
  next_grows hs Item e = tt
  next_grows hs Opened e = tt
  next_grows hs Less e = tt
  next_grows hs (Due l) e = tt
  next_grows hs (Lettered l v) e = tt
  next_grows hs (SignedDue s) e = tt
  next_grows hs (Minus s) e = tt
  next_grows hs (Digits s n) e = tt
  next_grows hs (Sorts b ss m) e = tt
  next_grows hs (Whole t) e = tt

lettered_shown : (l : Letter) (v : ℕ) (hs : List Hole) (r : List ℕ) → shown (lettered l v hs) r ≡ over hs (Lettered l v) r
lettered_shown letter.Free v hs r = completed_shown hs (free v) r
lettered_shown letter.Bound v hs r = completed_shown hs (bound v) r
lettered_shown letter.Call v hs r = refl

counted_shown : (s : Signed) (n : ℤ) (hs : List Hole) (r : List ℕ) → shown (counted s n hs) r ≡ over hs (Digits s n) r
counted_shown signed.Number n hs r = completed_shown hs (num n) r
counted_shown (signed.Coefficient ps) n hs r = refl

sorts_end_grows : (hs : List Hole) (b : Binder) (ss : List Kind) (m : ℕ) → EachGrows shown (over hs (Sorts b ss m)) (sorts_end hs b ss m)
sorts_end_grows hs b [] (suc m) = tt
sorts_end_grows hs b (s ∷ ss) (suc m) = tt
sorts_end_grows hs b [] zero = (λ r. refl, tt)
sorts_end_grows hs b (s ∷ ss) zero = (λ r. refl, tt)

trigger_grows : (hs : List Hole) → EachGrows shown (over hs Opened) (trigger_moves hs)
trigger_grows [] = tt
trigger_grows (hole.Not ∷ hs) = tt
trigger_grows (hole.Left p ∷ hs) = tt
trigger_grows (hole.Right p a ∷ hs) = tt
trigger_grows (hole.First q ∷ hs) = tt
trigger_grows (hole.Second q a ∷ hs) = tt
trigger_grows (hole.Third q a b ∷ hs) = tt
trigger_grows (hole.Member m ts ∷ hs) = tt
trigger_grows (hole.Scaled ps k ∷ hs) = tt
trigger_grows (hole.Body b ss ps ∷ hs) = (λ r. refl, tt)
trigger_grows (hole.Pattern b ss ps ts ∷ hs) = tt

pub term_step_grows : (hs : List Hole) (cursor : TermCursor) (c : ℕ) → Grows shown (over hs cursor) c (term_step hs cursor c)
term_step_grows hs Item c = either_grows shown (over hs Item) c (at_byte c (item_moves hs)) (option_map (λ d. at hs (Digits signed.Number (pos d))) (digit c))
    (byte_grows shown (over hs Item) c (item_moves hs) (λ r. refl, (λ r. completed_shown hs (truth true) r, (λ r. completed_shown hs (truth false) r, (λ r. refl, (λ r. refl, (λ r. refl, tt)))))))
    (number_begins shown number_text (λ d. at hs (Digits signed.Number (pos d))) (around hs) [] c (digit c) (λ w r. refl) (first_digit_is c))
term_step_grows hs Opened c = either_grows shown (over hs Opened) c (at_byte c (head_moves hs)) (at_byte c (trigger_moves hs))
    (byte_grows shown (over hs Opened) c (head_moves hs) (λ r. refl, (λ r. refl, (λ r. refl, (λ r. refl, (λ r. refl, (λ r. refl, (λ r. refl, (λ r. refl, (λ r. refl, (λ r. refl, (λ r. refl, (λ r. refl, (λ r. refl, tt))))))))))))))
    (byte_grows shown (over hs Opened) c (trigger_moves hs) (trigger_grows hs))
term_step_grows hs Less c = byte_grows shown (over hs Less) c (less_moves hs) (λ r. refl, tt)
term_step_grows hs (Due l) c = number_begins shown number_text (λ d. at hs (Lettered l d)) (λ r. around hs (letter_onto l r)) [] c (digit c) (λ w r. refl) (first_digit_is c)
term_step_grows hs (Lettered l v) c = either_grows shown (over hs (Lettered l v)) c (option_map (λ w. at hs (Lettered l w)) (more_number v c)) (next_behind (lettered l v hs) c)
    (number_grows shown number_text (λ w. at hs (Lettered l w)) (λ r. around hs (letter_onto l r)) v c (more_number v c) (λ w r. refl) (more_number_is v c))
    (next_grows (over hs (Lettered l v)) c (lettered l v hs).holes (lettered l v hs).cursor (lettered_shown l v hs))
term_step_grows hs (SignedDue s) c = either_grows shown (over hs (SignedDue s)) c (at_byte c (sign_moves hs s)) (option_map (λ d. at hs (Digits s (pos d))) (digit c))
    (byte_grows shown (over hs (SignedDue s)) c (sign_moves hs s) (λ r. refl, tt))
    (number_begins shown number_text (λ d. at hs (Digits s (pos d))) (λ r. around hs (signed_onto s r)) [] c (digit c) (λ w r. refl) (first_digit_is c))
term_step_grows hs (Minus s) c = number_begins shown signed_text (λ n. at hs (Digits s n)) (λ r. around hs (signed_onto s r)) (45 ∷ []) c (first_negative c) (λ w r. refl) (first_negative_is c)
term_step_grows hs (Digits s n) c = either_grows shown (over hs (Digits s n)) c (option_map (λ m. at hs (Digits s m)) (more_integer n c)) (next_behind (counted s n hs) c)
    (number_grows shown signed_text (λ m. at hs (Digits s m)) (λ r. around hs (signed_onto s r)) n c (more_integer n c) (λ w r. refl) (more_integer_is n c))
    (next_grows (over hs (Digits s n)) c (counted s n hs).holes (counted s n hs).cursor (counted_shown s n hs))
term_step_grows hs (Sorts b ss m) c = either_grows shown (over hs (Sorts b ss m)) c (at_byte c (sort_moves hs b ss m)) (at_byte c (sorts_end hs b ss m))
    (byte_grows shown (over hs (Sorts b ss m)) c (sort_moves hs b ss m) (λ r. ap (around hs) (sort_shown b ss m int r), (λ r. ap (around hs) (sort_shown b ss m boolean r), (λ r. ap (λ l. around hs (binder_onto b (32 ∷ together_onto ss l))) (deeper m r), tt))))
    (byte_grows shown (over hs (Sorts b ss m)) c (sorts_end hs b ss m) (sorts_end_grows hs b ss m))
term_step_grows hs (After b) c = behind_grows hs b c
term_step_grows hs (Whole t) c = next_grows (over hs (Whole t)) c (completed hs t).holes (completed hs t).cursor (completed_shown hs t)

some_same : {A : Type 0} (a b : A) → Some a ≡ Some b → a ≡ b
some_same a b e = cc

-- what has been read of a term that may end is its text
pub finished_shown : (hs : List Hole) (cursor : TermCursor) (t : Tree) → finished hs cursor ≡ Some t → (r : List ℕ) → onto t r ≡ around hs (cursor_onto cursor r)
finished_shown hs Item t e r = absurd (cc)
finished_shown hs Opened t e r = absurd (cc)
finished_shown hs Less t e r = absurd (cc)
finished_shown hs (Due l) t e r = absurd (cc)
finished_shown [] (Lettered letter.Free v) t e r = ap (λ u. onto u r) (sym (some_same (free v) t e))
finished_shown (h ∷ hs) (Lettered letter.Free v) t e r = absurd (cc)
finished_shown [] (Lettered letter.Bound v) t e r = ap (λ u. onto u r) (sym (some_same (bound v) t e))
finished_shown (h ∷ hs) (Lettered letter.Bound v) t e r = absurd (cc)
finished_shown hs (Lettered letter.Call v) t e r = absurd (cc)
finished_shown hs (SignedDue s) t e r = absurd (cc)
finished_shown hs (Minus s) t e r = absurd (cc)
finished_shown [] (Digits signed.Number n) t e r = ap (λ u. onto u r) (sym (some_same (num n) t e))
finished_shown (h ∷ hs) (Digits signed.Number n) t e r = absurd (cc)
finished_shown hs (Digits (signed.Coefficient ps) n) t e r = absurd (cc)
finished_shown hs (Sorts b ss m) t e r = absurd (cc)
finished_shown hs (After b) t e r = absurd (cc)
finished_shown [] (Whole u) t e r = ap (λ v. onto v r) (sym (some_same u t e))
finished_shown (h ∷ hs) (Whole u) t e r = absurd (cc)
