-- The table of numbers, as the blocks from which another is reached are found, the highest first.
use Rattle.std.specs.Prelude.{◌≡◌, refl, ◌⊎◌, ℕ, zero, suc, ◌+◌, ◌-◌, ◌<◌, ◌≤◌, nat_eq, nat_lt, ◌==◌, Bool, true, false, ◌||◌, not, cond, is_some, List, [], ◌∷◌, ◌++◌, length, slice_index_or, position, option_map, unwrap_or, Option, Some, None}
use Rattle.std.specs.List.{list_any, position_or_len}
use Rattle.std.proofs.Common.{arith, ap, ◌∙◌}
use Rattle.std.proofs.lemmas.Bool.{eq-eqb, ne_eqb, eqb-true, eqb-false, or_left, or_right, or_cases, lt-ltb, le-ltb, cases_lt, cases_order}
use Rattle.logic_core.proofs.Booleans.{same_test as same_truth}
use mathlib.Core.Path.{subst, sym}
use mathlib.Core.Logic.{inl, inr}
use Rattle.passive_form.specs.declared.passive.Passive.{Passive}
use Rattle.passive_form.specs.Passive.{passive_block_at}
use Rattle.block_wp.specs.Equations.{reaching_from}
use Rattle.block_wp.specs.declared.reached.Reached.{Reached}
use Rattle.block_wp.specs.Numbers.{Falling, number_in, with_lower, IsNumbered}
use Rattle.block_wp.proofs.Junctions.{In}
use Rattle.block_wp.proofs.Reaching.{is_among, some_passes}
use Rattle.block_wp.proofs.EquationsSorted.{from_among}
use Rattle.block_wp.proofs.Falling.{From, from_less, from_push, falling_push}

abbrev place : ℕ → List ℕ → ℕ
place b xs = position_or_len (nat_eq b) xs

-- the place of a number in a list with another at its end
other_at_end : (b y : ℕ) → nat_eq b y ≡ false → (xs : List ℕ) → ((place b xs < length xs) × (place b (xs ++ y ∷ []) ≡ place b xs)) ⊎ ((place b xs ≡ length xs) × (place b (xs ++ y ∷ []) ≡ suc (length xs)))
other_at_end b y e [] = inr (refl, ap (λ t. cond (not t) 1 0) e)
other_at_end b y e (x ∷ xs) = by_test (nat_eq b x) (other_at_end b y e xs)
  where
    by_test : (t : Bool) → ((place b xs < length xs) × (place b (xs ++ y ∷ []) ≡ place b xs)) ⊎ ((place b xs ≡ length xs) × (place b (xs ++ y ∷ []) ≡ suc (length xs)))
        → ((cond (not t) (1 + place b xs) 0 < suc (length xs)) × (cond (not t) (1 + place b (xs ++ y ∷ [])) 0 ≡ cond (not t) (1 + place b xs) 0)) ⊎ ((cond (not t) (1 + place b xs) 0 ≡ suc (length xs)) × (cond (not t) (1 + place b (xs ++ y ∷ [])) 0 ≡ suc (suc (length xs))))
    by_test true h = inl (omega arith, refl)
    by_test false (inl h) = inl (omega (h.0, arith), omega (h.1, arith))
    by_test false (inr h) = inr (omega (h.0, arith), omega (h.1, arith))

-- a number that is nowhere before, at the end
itself_at_end : (b : ℕ) (xs : List ℕ) → length xs ≤ place b xs → place b (xs ++ b ∷ []) ≡ length xs
itself_at_end b [] h = ap (λ t. cond (not t) 1 0) (eq-eqb b b refl)
itself_at_end b (x ∷ xs) h = by_test (nat_eq b x) h (itself_at_end b xs)
  where
    by_test : (t : Bool) → suc (length xs) ≤ cond (not t) (1 + place b xs) 0 → (length xs ≤ place b xs → place b (xs ++ b ∷ []) ≡ length xs) → cond (not t) (1 + place b (xs ++ b ∷ [])) 0 ≡ suc (length xs)
    by_test true k f = absurd (omega (k, arith))
    by_test false k f = let e = f (omega (k, arith)) in omega (e, arith)

one_longer : (xs : List ℕ) (y : ℕ) → length (xs ++ y ∷ []) ≡ suc (length xs)
one_longer [] y = refl
one_longer (x ∷ xs) y = ap suc (one_longer xs y)

abbrev found : ℕ → ℕ → Option ℕ
found p n = cond (nat_lt p n) (Some p) None

other_position : (b y : ℕ) → nat_eq b y ≡ false → (xs : List ℕ) → position (nat_eq b) (xs ++ y ∷ []) ≡ position (nat_eq b) xs
other_position b y e xs = elim (other_at_end b y e xs) [
  | inl h ↦ let longer = one_longer xs y in
      let below : place b (xs ++ y ∷ []) < length (xs ++ y ∷ []) = omega (h.0, h.1, longer, arith) in
      ap (λ t. cond t (Some (place b (xs ++ y ∷ []))) None) (lt-ltb (place b (xs ++ y ∷ [])) (length (xs ++ y ∷ [])) below) ∙ ap Some h.1
      ∙ sym (ap (λ t. cond t (Some (place b xs)) None) (lt-ltb (place b xs) (length xs) h.0))
  | inr h ↦ let longer = one_longer xs y in
      ap (λ t. cond t (Some (place b (xs ++ y ∷ []))) None) (le-ltb (place b (xs ++ y ∷ [])) (length (xs ++ y ∷ [])) (omega (h.1, longer, arith)))
      ∙ sym (ap (λ t. cond t (Some (place b xs)) None) (le-ltb (place b xs) (length xs) (omega (h.0, arith))))
]

found_nowhere : (given p n : ℕ) → None ≡ option_map (λ q. given + q) (found p n) → n ≤ p
found_nowhere given p n e = elim (cases_lt p n) [
  | inl h ↦ let some : found p n ≡ Some p = ap (λ t. cond t (Some p) None) (lt-ltb p n h) in absurd (let c : None ≡ Some (given + p) = e ∙ ap (option_map (λ q. given + q)) some in cc)
  | inr h ↦ h
]

own_position : (given b : ℕ) (xs : List ℕ) → None ≡ option_map (λ q. given + q) (position (nat_eq b) xs) → position (nat_eq b) (xs ++ b ∷ []) ≡ Some (length xs)
own_position given b xs e =
    let at_end : place b (xs ++ b ∷ []) ≡ length xs = itself_at_end b xs (found_nowhere given (place b xs) (length xs) e) in
    let longer = one_longer xs b in
    ap (λ t. cond t (Some (place b (xs ++ b ∷ []))) None) (lt-ltb (place b (xs ++ b ∷ [])) (length (xs ++ b ∷ [])) (omega (at_end, longer, arith))) ∙ ap Some at_end

-- an item at another place than the end's
other_item : (xs : List (Option ℕ)) (y : Option ℕ) (i : ℕ) → (i ≡ length xs → ⊥) → slice_index_or (xs ++ y ∷ []) i None ≡ slice_index_or xs i None
other_item [] y zero apart = absurd (apart refl)
other_item [] y (suc i) apart = refl
other_item (x ∷ xs) y zero apart = refl
other_item (x ∷ xs) y (suc i) apart = other_item xs y i (λ e. apart (ap suc e))

item_at_end : (xs : List (Option ℕ)) (y : Option ℕ) (i : ℕ) → i ≡ length xs → slice_index_or (xs ++ y ∷ []) i None ≡ y
item_at_end [] y zero e = refl
item_at_end [] y (suc i) e = absurd cc
item_at_end (x ∷ xs) y zero e = absurd cc
item_at_end (x ∷ xs) y (suc i) e = item_at_end xs y i (omega (e, arith))

none_past : (xs : List (Option ℕ)) (i : ℕ) → length xs ≤ i → slice_index_or xs i None ≡ None
none_past [] i h = refl
none_past (x ∷ xs) zero h = absurd (omega (h, arith))
none_past (x ∷ xs) (suc i) h = none_past xs i (omega (h, arith))

one_entry : (xs : List (Option ℕ)) (y : Option ℕ) → length (xs ++ y ∷ []) ≡ suc (length xs)
one_entry [] y = refl
one_entry (x ∷ xs) y = ap suc (one_entry xs y)

-- the table has the blocks from this one to the last
pub record IsNumberedFrom (low : ℕ) (r : Reached) : Type 0 where
  pub counted : length r.table + low ≡ suc r.last
  pub above : From low r.blocks
  pub numbered : IsNumbered r

module _ (low : ℕ) (r : Reached) (joins : Bool) (h : IsNumberedFrom (suc low) r) where
  abbrev after : Reached
  after = with_lower r low joins (r.given + length r.blocks)

  abbrev entry : Option ℕ
  entry = cond joins (Some (r.given + length r.blocks)) None

  abbrev HasNumber : ℕ → Reached → Type 0
  HasNumber b q = number_in q b ≡ option_map (λ p. q.given + p) (position (nat_eq b) q.blocks)

  -- where the block isn't this one, its place stays
  other_place : (b : ℕ) → (b ≡ low → ⊥) → position (nat_eq b) after.blocks ≡ position (nat_eq b) r.blocks
  other_place b apart = by_test joins
    where
      by_test : (t : Bool) → position (nat_eq b) (cond t (r.blocks ++ low ∷ []) r.blocks) ≡ position (nat_eq b) r.blocks
      by_test true = other_position b low (ne_eqb b low apart) r.blocks
      by_test false = refl

  -- what the table has of it stays too
  other_entry : (b : ℕ) → (b ≡ low → ⊥) → number_in after b ≡ number_in r b
  other_entry b apart = elim (cases_lt r.last b) [
    | inl past ↦ ap (λ t. cond t None (slice_index_or after.table (r.last - b) None)) (lt-ltb r.last b past) ∙ sym (ap (λ t. cond t None (slice_index_or r.table (r.last - b) None)) (lt-ltb r.last b past))
    | inr within ↦ ap (λ n. cond (nat_lt r.last b) None n) (other_item r.table entry (r.last - b) (λ e. apart (let counted = h.counted in omega (e, counted, within, arith))))
  ]

  other_number : (b : ℕ) → (b ≡ low → ⊥) → HasNumber b after
  other_number b apart = other_entry b apart ∙ h.numbered.numbers b ∙ sym (ap (option_map (λ p. r.given + p)) (other_place b apart))

  low_within : nat_lt r.last low ≡ false
  low_within = let counted = h.counted in le-ltb r.last low (omega (counted, arith))

  its_index : r.last - low ≡ length r.table
  its_index = let counted = h.counted in omega (counted, arith)

  not_before : None ≡ option_map (λ q. r.given + q) (position (nat_eq low) r.blocks)
  not_before = sym (ap (λ t. cond t None (slice_index_or r.table (r.last - low) None)) low_within ∙ none_past r.table (r.last - low) (let e = its_index in omega (e, arith))) ∙ h.numbered.numbers low

  own_number : HasNumber low after
  own_number = ap (λ t. cond t None (slice_index_or after.table (r.last - low) None)) low_within ∙ item_at_end r.table entry (r.last - low) its_index ∙ by_test joins
    where
      by_test : (t : Bool) → cond t (Some (r.given + length r.blocks)) None ≡ option_map (λ p. r.given + p) (position (nat_eq low) (cond t (r.blocks ++ low ∷ []) r.blocks))
      by_test true = sym (ap (option_map (λ p. r.given + p)) (own_position r.given low r.blocks not_before))
      by_test false = not_before

  each_number : (b : ℕ) → HasNumber b after
  each_number b = elim (cases_order b low) [
    | inl e ↦ subst (λ c. HasNumber c after) (sym e) own_number
    | inr (inl less) ↦ other_number b (λ e. absurd (omega (e, less, arith)))
    | inr (inr more) ↦ other_number b (λ e. absurd (omega (e, more, arith)))
  ]

  blocks_kept : (t : Bool) → From low (cond t (r.blocks ++ low ∷ []) r.blocks) × Falling (cond t (r.blocks ++ low ∷ []) r.blocks)
  blocks_kept true = (from_push low r.blocks h.above, falling_push low r.blocks h.above h.numbered.falling)
  blocks_kept false = (from_less low r.blocks h.above, h.numbered.falling)

  pub lower_numbered : IsNumberedFrom low after
  lower_numbered = record {
    counted = let counted = h.counted in let longer = one_entry r.table entry in omega (counted, longer, arith);
    above = (blocks_kept joins).0;
    numbered = record { falling = (blocks_kept joins).1; numbers = each_number };
  }

-- nothing, and then the last block alone
abbrev nothing : ℕ → ℕ → Reached
nothing given last = record { given = given; last = last; blocks = []; table = [] }

nothing_numbered : (given last : ℕ) → IsNumberedFrom (suc last) (nothing given last)
nothing_numbered given last = record {
  counted = omega arith;
  above = tt;
  numbered = record { falling = tt; numbers = λ b. none_either (nat_lt last b) };
}
  where
    none : Option ℕ
    none = None

    none_either : (t : Bool) → cond t none none ≡ none
    none_either true = refl
    none_either false = refl

pub alone_numbered : (given last : ℕ) → IsNumberedFrom last (record { given = given; last = last; blocks = last ∷ []; table = Some given ∷ [] })
alone_numbered given last =
    subst (λ n. IsNumberedFrom last (record { given = given; last = last; blocks = last ∷ []; table = Some n ∷ [] })) (let e : given + 0 ≡ given = omega arith in e) (lower_numbered last (nothing given last) true (nothing_numbered given last))

-- whether a number stands in the list, by its place
among_placed : (c : ℕ) (xs : List ℕ) → place c xs < length xs → list_any (λ y. y == c) xs ≡ true
among_placed c [] h = absurd (omega (h, arith))
among_placed c (x ∷ xs) h = by_test (nat_eq c x) refl h (among_placed c xs)
  where
    by_test : (t : Bool) → nat_eq c x ≡ t → cond (not t) (1 + place c xs) 0 < suc (length xs) → (place c xs < length xs → list_any (λ y. y == c) xs ≡ true) → list_any (λ y. y == c) (x ∷ xs) ≡ true
    by_test true e k f = or_left (x == c) (list_any (λ y. y == c) xs) (eq-eqb x c (sym (eqb-true c x e)))
    by_test false e k f = or_right (x == c) (list_any (λ y. y == c) xs) (f (omega (k, arith)))

not_among : (c : ℕ) (xs : List ℕ) → length xs ≤ place c xs → list_any (λ y. y == c) xs ≡ false
not_among c [] h = refl
not_among c (x ∷ xs) h = by_test (nat_eq c x) refl h (not_among c xs)
  where
    by_test : (t : Bool) → nat_eq c x ≡ t → suc (length xs) ≤ cond (not t) (1 + place c xs) 0 → (length xs ≤ place c xs → list_any (λ y. y == c) xs ≡ false) → list_any (λ y. y == c) (x ∷ xs) ≡ false
    by_test true e k f = absurd (omega (k, arith))
    by_test false e k f = ap (λ t. t || list_any (λ y. y == c) xs) (ne_eqb x c (λ same. eqb-false c x e (sym same))) ∙ f (omega (k, arith))

pub has_number : (r : Reached) → IsNumbered r → (c : ℕ) → is_some (number_in r c) ≡ list_any (λ y. y == c) r.blocks
has_number r h c = ap is_some (h.numbers c) ∙ (elim (cases_lt (place c r.blocks) (length r.blocks)) [
  | inl k ↦ ap (λ t. is_some (option_map (λ p. r.given + p) (cond t (Some (place c r.blocks)) None))) (lt-ltb (place c r.blocks) (length r.blocks) k) ∙ sym (among_placed c r.blocks k)
  | inr k ↦ ap (λ t. is_some (option_map (λ p. r.given + p) (cond t (Some (place c r.blocks)) None))) (le-ltb (place c r.blocks) (length r.blocks) k) ∙ sym (not_among c r.blocks k)
])

-- those that have a number are those that are among the blocks
pub have_numbers : (r : Reached) → IsNumbered r → ◌≡◌ {A = ℕ → Bool} (λ c. is_some (number_in r c)) (λ x. list_any (λ y. y == x) r.blocks)
have_numbers r h = λ j c. has_number r h c j

some_passing : (p : ℕ → Bool) (xs : List ℕ) → list_any p xs ≡ true → (x : ℕ) × In x xs × (p x ≡ true)
some_passing p [] h = let c : false ≡ true = h in absurd cc
some_passing p (x ∷ xs) h = elim (or_cases (p x) (list_any p xs) h) [
  | inl e ↦ (x, inl refl, e)
  | inr k ↦ let r = some_passing p xs k in (r.0, inr r.1, r.2)
]

meets : (xs ys : List ℕ) → list_any (λ x. list_any (λ y. y == x) xs) ys ≡ true → list_any (λ x. list_any (λ y. y == x) ys) xs ≡ true
meets xs ys h = let r = some_passing (λ x. list_any (λ y. y == x) xs) ys h in some_passes (λ x. list_any (λ y. y == x) ys) xs r.0 (from_among r.0 xs r.2) (is_among ys r.0 r.1)

pub joins_same : (r : Reached) → IsNumbered r → (next : List ℕ) → list_any (λ c. is_some (number_in r c)) next ≡ list_any (λ x. list_any (λ y. y == x) next) r.blocks
joins_same r h next = ap (λ p. list_any p next) (have_numbers r h) ∙ same_truth (list_any (λ x. list_any (λ y. y == x) r.blocks) next) (list_any (λ x. list_any (λ y. y == x) next) r.blocks) (meets r.blocks next) (meets next r.blocks)

-- a step to the next lower block
module _ (g : Passive) (high low : ℕ) (next_lower : high ≡ suc low) (r r' : Reached) (h : IsNumberedFrom high r) (joins : Bool) (number : ℕ)
    (leads : joins ≡ list_any (λ c. is_some (number_in r c)) (passive_block_at g.blocks low).next) (counts : number ≡ r.given + length r.blocks) (lowered : r' ≡ with_lower r low joins number) where
  from_low : IsNumberedFrom (suc low) r
  from_low = subst (λ n. IsNumberedFrom n r) next_lower h

  pub step_numbered : IsNumberedFrom low r'
  step_numbered = subst (IsNumberedFrom low) (sym lowered) (subst (λ n. IsNumberedFrom low (with_lower r low joins n)) (sym counts) (lower_numbered low r joins from_low))

  pub step_left : reaching_from g low r'.blocks ≡ reaching_from g high r.blocks
  step_left =
      ap (λ (q : Reached). reaching_from g low q.blocks) lowered
      ∙ ap (λ b. reaching_from g low (cond b (r.blocks ++ low ∷ []) r.blocks)) (leads ∙ joins_same r from_low.numbered (passive_block_at g.blocks low).next)
      ∙ sym (ap (λ n. reaching_from g n r.blocks) next_lower)

-- what a number of the table is, or where there is none the first
pub its_number : (given n : ℕ) (o : Option ℕ) → Some n ≡ option_map (λ p. given + p) o → n ≡ given + unwrap_or o 0
its_number given n None e = absurd cc
its_number given n (Some p) e = cc

pub no_number : (given : ℕ) (o : Option ℕ) → None ≡ option_map (λ p. given + p) o → given ≡ given + unwrap_or o 0
no_number given None e = omega arith
no_number given (Some p) e = absurd cc
