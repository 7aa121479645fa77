-- The equations of a rising graph whose formulas are well sorted are well sorted: each block's definition calls only those of blocks above it.
use Rattle.std.specs.Prelude.{◌≡◌, refl, ◌⊎◌, ℕ, zero, suc, ◌+◌, ◌<◌, nat_eq, ◌==◌, Bool, true, false, cond, IsTrue, List, [], ◌∷◌, ◌++◌, map, length, take, reverse, filter, slice_index_or, slice_get, Option, Some, None, unwrap_or, position, All, Contains}
use Rattle.std.specs.List.{AllByRecursion, position_or_len, list_any}
use Rattle.std.proofs.Common.{arith, ap, ◌∙◌}
use Rattle.std.proofs.lemmas.Bool.{eqb-true, and_from, and_parts, or_cases, cond_both}
use Rattle.std.proofs.lemmas.List.{map-append, length-append, reverse-append}
use mathlib.Core.Path.{subst, sym}
use mathlib.Core.List.{append_assoc, append-nil}
use mathlib.Core.Logic.{inl, inr}
use Rattle.logic_core.specs.Tree.{Kind, boolean, Tree, truth, no_trees}
use Rattle.logic_core.specs.View.{trees_of}
use Rattle.logic_core.specs.Def.{Def}
use Rattle.logic_core.specs.Wide.{◌>>=◌, when}
use Rattle.logic_core.specs.Sorts.{is, sort_of, are, are_formulas, bodies_sorted}
use Rattle.logic_core.specs.WellSorted.{IsFormula, IsWellSorted}
use Rattle.logic_laws.proofs.SortFrame.{within_more, within_itself, within_none, sort_over}
use Rattle.flow_core.specs.declared.command.Command.{Command}
use Rattle.passive_form.specs.declared.passive.Passive.{Passive}
use Rattle.passive_form.specs.Passive.{passive_block_at, formula_in, formulas}
use Rattle.block_wp.specs.Equations.{reaching, block_call, conjunction, successors, negations, block_equation, assertion_equation, block_definition, formula_of, body_of, equations}
use Rattle.block_wp.specs.Broken.{EdgesRise, FormulasAreSorted}
use Rattle.block_wp.proofs.Junctions.{In}
use Rattle.block_wp.proofs.Reaching.{in_one}
use Rattle.block_wp.specs.Numbers.{Falling}
use Rattle.block_wp.proofs.Falling.{reaching_falls, split, in_front, place_of, before_it}
use Rattle.block_wp.proofs.SortedBlocks.{sorted_block, sorted_take, sorted_at}

bodies_joined : (vars : List Kind) (below xs ys : List Def) → bodies_sorted vars below xs ≡ true → bodies_sorted vars (below ++ xs) ys ≡ true → bodies_sorted vars below (xs ++ ys) ≡ true
bodies_joined vars below [] ys h k = subst (λ bs. bodies_sorted vars bs ys ≡ true) (append-nil below) k
bodies_joined vars below (d ∷ xs) ys h k =
    let p = and_parts (is d.sort (sort_of vars below (reverse d.params) d.body)) (bodies_sorted vars (below ++ d ∷ []) xs) h in
    and_from (is d.sort (sort_of vars below (reverse d.params) d.body)) (bodies_sorted vars (below ++ d ∷ []) (xs ++ ys)) p.0
    (bodies_joined vars (below ++ d ∷ []) xs ys p.1 (subst (λ bs. bodies_sorted vars bs ys ≡ true) (sym (append_assoc below (d ∷ []) xs)) k))

pub from_among : (x : ℕ) (xs : List ℕ) → list_any (λ y. y == x) xs ≡ true → In x xs
from_among x [] h = let c : false ≡ true = h in absurd cc
from_among x (y ∷ xs) h = elim (or_cases (y == x) (list_any (λ y. y == x) xs) h) [ inl e ↦ inl (eqb-true y x e) | inr k ↦ inr (from_among x xs k) ]

pub to_contains : (x : ℕ) (xs : List ℕ) → In x xs → Contains xs x
to_contains x [] h = absurd h
to_contains x (y ∷ xs) (inl e) = (0, omega arith, e)
to_contains x (y ∷ xs) (inr h) = let c = to_contains x xs h in (suc c.0, omega (c.1, arith), c.2)

pub out_reverse : (x : ℕ) (xs : List ℕ) → In x (reverse xs) → In x xs
out_reverse x [] h = h
out_reverse x (y ∷ xs) h = at_end (out_reverse x xs) (in_one x (reverse xs) (y ∷ []) (subst (In x) (reverse-append (y ∷ []) xs) h))
  where
    at_end : (In x (reverse xs) → In x xs) → In x (reverse xs) ⊎ In x (y ∷ []) → In x (y ∷ xs)
    at_end rest (inl k) = inr (rest k)
    at_end rest (inr (inl e)) = inl e
    at_end rest (inr (inr none)) = absurd none

-- what each item that passes has, where it is among them
filtered : (p : ℕ → Bool) (P : ℕ → Type 0) (xs : List ℕ) → ((x : ℕ) → In x xs → p x ≡ true → P x) → AllByRecursion P (filter p xs)
filtered p P [] f = tt
filtered p P (x ∷ xs) f = by_test (p x) refl (filtered p P xs (λ y h. f y (inr h)))
  where
    by_test : (b : Bool) → p x ≡ b → AllByRecursion P (filter p xs) → AllByRecursion P (cond b (x ∷ filter p xs) (filter p xs))
    by_test true e h = (f x (inl refl) e, h)
    by_test false e h = h

-- a definition added at this place
added_at : (defs : List Def) (f : ℕ → Def) (xs : List ℕ) (p : ℕ) → p < length xs → (x : ℕ) × (slice_get (defs ++ map f xs) (length defs + p) ≡ Some (f x))
added_at (d ∷ defs) f xs p below = let r = added_at defs f xs p below in (r.0, (let e : suc (length defs) + p ≡ suc (length defs + p) = omega arith in ap (slice_get (d ∷ defs ++ map f xs)) e) ∙ r.1)
added_at [] f [] p below = absurd (omega (below, arith))
added_at [] f (x ∷ xs) zero below = (x, (let e : 0 + 0 ≡ 0 = omega arith in ap (slice_get (f x ∷ map f xs)) e))
added_at [] f (x ∷ xs) (suc p) below =
    let r = added_at [] f xs p (omega (below, arith)) in
    let e : 0 + suc p ≡ suc (0 + p) = omega arith in
    (r.0, ap (slice_get (f x ∷ map f xs)) e ∙ r.1)

module _ (vars : List Kind) (defs : List Def) where
  abbrev Formula : Tree → Type 0
  Formula t = IsFormula vars defs t

  is_formula : (t : Tree) → Formula t → is boolean (sort_of vars defs [] t) ≡ true
  is_formula t e = ap (is boolean) e

  are_all : (ts : List Tree) → AllByRecursion Formula ts → are_formulas vars defs [] (trees_of ts) ≡ true
  are_all [] h = refl
  are_all (t ∷ ts) h = and_from (is boolean (sort_of vars defs [] t)) (are_formulas vars defs [] (trees_of ts)) (is_formula t h.0) (are_all ts h.1)

  or_parts : (As : List Tree) (N : Tree) → AllByRecursion Formula As → Formula N → AllByRecursion Formula (negations As ++ N ∷ [])
  or_parts [] N h n = (n, tt)
  or_parts (A ∷ As) N h n = (ap (λ b. when b (Some boolean)) (is_formula A h.0), or_parts As N h.1 n)

  equation_sorted : (As : List Tree) (N : Tree) → AllByRecursion Formula As → Formula N → Formula (block_equation As N)
  equation_sorted As N h n = ap (λ b. when b (Some boolean)) (are_all (negations As ++ N ∷ []) (or_parts As N h n))

  conjunction_sorted : (ts : List Tree) → AllByRecursion Formula ts → Formula (conjunction ts)
  conjunction_sorted [] h = refl
  conjunction_sorted (t ∷ []) h = h.0
  conjunction_sorted (t ∷ u ∷ ts) h = ap (λ b. when b (Some boolean)) (are_all (t ∷ u ∷ ts) h)

  mapped_formulas : (f : ℕ → Tree) (xs : List ℕ) → AllByRecursion (λ x. Formula (f x)) xs → AllByRecursion Formula (map f xs)
  mapped_formulas f [] h = tt
  mapped_formulas f (x ∷ xs) h = (h.0, mapped_formulas f xs h.1)

-- over more definitions
over_more : (vars : List Kind) (defs more : List Def) (t : Tree) → IsFormula vars defs t → IsFormula vars (defs ++ more) t
over_more vars defs more t e = sort_over vars defs vars (defs ++ more) (within_itself vars) (within_more defs more) t [] [] (within_none []) boolean e

formulas_over : (vars : List Kind) (defs more : List Def) (cs : List Command) → AllByRecursion (λ c. IsFormula vars defs (formula_in c)) cs → AllByRecursion (IsFormula vars (defs ++ more)) (formulas cs)
formulas_over vars defs more [] h = tt
formulas_over vars defs more (c ∷ cs) h = (over_more vars defs more (formula_in c) h.0, formulas_over vars defs more cs h.1)

module _ (g : Passive) (defs : List Def) (rises : EdgesRise g.blocks) (sorted : FormulasAreSorted defs g) (k at : ℕ) where
  abbrev given : ℕ
  given = length defs

  abbrev blocks : List ℕ
  blocks = reaching g k

  abbrev definition : ℕ → Def
  definition b = block_definition (body_of g given blocks k at b)

  abbrev place : ℕ → ℕ
  place b = unwrap_or (position (nat_eq b) blocks) 0

  -- the call of a block whose definition is there
  call_sorted : (front : List ℕ) (c : ℕ) → place c < length front → IsFormula g.vars (defs ++ map definition front) (block_call given blocks c)
  call_sorted front c below =
      let r = added_at defs definition front (place c) below in
      ap (λ (o : Option Def). o >>= λ d. when (are g.vars (defs ++ map definition front) [] d.params no_trees) (Some d.sort)) r.1

  last_sorted : (front : List ℕ) (b : ℕ) → IsFormula g.vars (defs ++ map definition front) (assertion_equation (passive_block_at g.blocks b) at)
  last_sorted front b =
      let cs = (passive_block_at g.blocks b).commands in
      let s = sorted_block defs g sorted b in
      equation_sorted g.vars (defs ++ map definition front) (formulas (take at cs)) (formula_of (slice_get cs at)) (formulas_over g.vars defs (map definition front) (take at cs) (sorted_take g.vars defs at cs s))
      (by_item (slice_get cs at) (λ c e. over_more g.vars defs (map definition front) (formula_in c) (sorted_at g.vars defs at cs c e s)))
    where
      by_item : (o : Option Command) → ((c : Command) → o ≡ Some c → IsFormula g.vars (defs ++ map definition front) (formula_in c)) → IsFormula g.vars (defs ++ map definition front) (formula_of o)
      by_item None f = refl
      by_item (Some c) f = f c refl

  earlier_sorted : (front : List ℕ) (b : ℕ) (rest : List ℕ) → blocks ≡ front ++ b ∷ rest
      → IsFormula g.vars (defs ++ map definition front) (block_equation (formulas (passive_block_at g.blocks b).commands) (successors given blocks (passive_block_at g.blocks b)))
  earlier_sorted front b rest e =
      let cs = (passive_block_at g.blocks b).commands in
      let next = (passive_block_at g.blocks b).next in
      let falls : Falling (front ++ b ∷ rest) = subst Falling e (reaching_falls g k) in
      let each : AllByRecursion (λ c. IsFormula g.vars (defs ++ map definition front) (block_call given blocks c)) (filter (λ x. list_any (λ y. y == x) next) (reverse blocks))
      = filtered (λ x. list_any (λ y. y == x) next) (λ c. IsFormula g.vars (defs ++ map definition front) (block_call given blocks c)) (reverse blocks) (λ c there passes.
      let above : b < c = rises b c (to_contains c next (from_among c next passes)) in
      let in_all : In c (front ++ b ∷ rest) = subst (In c) e (out_reverse c blocks there) in
      let before : position_or_len (nat_eq c) (front ++ b ∷ rest) < length front = in_front c front (b ∷ rest) (before_it b c front rest falls above in_all) in
      let there_before : position_or_len (nat_eq c) blocks < length front = subst (λ xs. position_or_len (nat_eq c) xs < length front) (sym e) before in
      let longer : length blocks ≡ length (front ++ b ∷ rest) = ap length e in
      let p : place c ≡ position_or_len (nat_eq c) blocks = place_of c blocks (omega (there_before, longer, length-append front (b ∷ rest), arith)) in
      call_sorted front c (omega (p, there_before, arith))) in
      equation_sorted g.vars (defs ++ map definition front) (formulas cs) (successors given blocks (passive_block_at g.blocks b)) (formulas_over g.vars defs (map definition front) cs (sorted_block defs g sorted b))
      (conjunction_sorted g.vars (defs ++ map definition front) (map (block_call given blocks) (filter (λ x. list_any (λ y. y == x) next) (reverse blocks)))
      (mapped_formulas g.vars (defs ++ map definition front) (block_call given blocks) (filter (λ x. list_any (λ y. y == x) next) (reverse blocks)) each))

  body_sorted : (front : List ℕ) (b : ℕ) (rest : List ℕ) → blocks ≡ front ++ b ∷ rest → IsFormula g.vars (defs ++ map definition front) (body_of g given blocks k at b)
  body_sorted front b rest e = cond_both (nat_eq b k) (assertion_equation (passive_block_at g.blocks b) at) (block_equation (formulas (passive_block_at g.blocks b).commands) (successors given blocks (passive_block_at g.blocks b)))
      (IsFormula g.vars (defs ++ map definition front)) (λ t. last_sorted front b) (λ t. earlier_sorted front b rest e)

  bodies_from : (rest front : List ℕ) → blocks ≡ front ++ rest → bodies_sorted g.vars (defs ++ map definition front) (map definition rest) ≡ true
  bodies_from [] front e = refl
  bodies_from (b ∷ rest) front e =
      let one_more : (defs ++ map definition front) ++ definition b ∷ [] ≡ defs ++ map definition (front ++ b ∷ [])
      = append_assoc defs (map definition front) (definition b ∷ []) ∙ ap (λ ds. defs ++ ds) (sym (map-append definition front (b ∷ []))) in
      and_from (is boolean (sort_of g.vars (defs ++ map definition front) [] (body_of g given blocks k at b))) (bodies_sorted g.vars ((defs ++ map definition front) ++ definition b ∷ []) (map definition rest))
      (ap (is boolean) (body_sorted front b rest e))
      (subst (λ ds. bodies_sorted g.vars ds (map definition rest) ≡ true) (sym one_more) (bodies_from rest (front ++ b ∷ []) (e ∙ sym (append_assoc front (b ∷ []) rest))))

  pub definitions_sorted : IsTrue (bodies_sorted g.vars [] defs) → IsTrue (bodies_sorted g.vars [] (equations g defs k at).defs)
  definitions_sorted h = bodies_joined g.vars [] defs (map definition blocks) h
      (subst (λ ds. bodies_sorted g.vars ds (map definition blocks) ≡ true) (append-nil defs) (bodies_from blocks [] refl))

  pub goal_sorted : IsFormula g.vars (equations g defs k at).defs (equations g defs k at).goal
  goal_sorted = cond_both (list_any (λ y. y == 0) blocks) (block_call given blocks 0) (truth true) (IsFormula g.vars (defs ++ map definition blocks))
      (λ t. let s = split 0 blocks (from_among 0 blocks t) in
      let longer : length blocks ≡ length (s.front ++ 0 ∷ s.rest) = ap length s.joined in
      let shorter : position_or_len (nat_eq 0) blocks < length blocks = omega (s.place, longer, length-append s.front (0 ∷ s.rest), arith) in
      let p : place 0 ≡ position_or_len (nat_eq 0) blocks = place_of 0 blocks shorter in
      call_sorted blocks 0 (omega (p, shorter, arith)))
      (λ t. refl)

  -- so with axioms over the given definitions it is a well-sorted obligation
  pub obligation_sorted : IsTrue (bodies_sorted g.vars [] defs) → (axioms : List Tree) → All (IsFormula g.vars defs) axioms
      → IsWellSorted (record { vars = g.vars; defs = (equations g defs k at).defs; axioms = axioms; goal = (equations g defs k at).goal })
  obligation_sorted h axioms a = record {
    definitions = definitions_sorted h;
    axioms = λ i d below. over_more g.vars defs (map definition blocks) (slice_index_or axioms i d) (a i d below);
    goal = goal_sorted;
  }
