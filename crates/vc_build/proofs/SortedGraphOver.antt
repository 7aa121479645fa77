-- A term of a callee's contract has its sort over the caller's variables, where those of the call stand with their sorts.
use Rattle.std.specs.Prelude.{◌≡◌, refl, ℕ, zero, suc, ◌+◌, ◌-◌, ◌<◌, ◌≤◌, nat_eq, nat_lt, Bool, true, false, cond, List, [], ◌∷◌, ◌++◌, map, length, slice_get, slice_index_or, position, unwrap_or, option_map, Option, Some, None}
use Rattle.std.proofs.Common.{subst, sym, ap, ◌∙◌, inl, inr, arith, eqb-true}
use Rattle.std.proofs.lemmas.Bool.{cases_lt, lt-ltb, le-ltb}
use Rattle.std.proofs.lemmas.List.{length-map}
use Rattle.std.proofs.lemmas.List.Quantifiers.{position-Some}
use Rattle.logic_core.specs.Tree.{Kind, Tree}
use Rattle.logic_core.specs.Variables.{renamed}
use Rattle.logic_core.proofs.ThereIs.{There}
use Rattle.logic_laws.proofs.SortedNumbers.{HasVariable, HasDefinition, mentions_there, formula_is_sorted}
use Rattle.logic_laws.proofs.RenamedSorts
use Rattle.bpl_model.specs.Module.{Local, Proc, Module}
use Rattle.bpl_model.specs.Numbering.{defs_of, const_sorts, global_sorts, local_sorts, contract_sorts, sorts_of, first_global, first_entry, first_in, first_out}
use Rattle.bpl_model.specs.Contract.{modified}
use Rattle.bpl_model.specs.Typed.{HasSort}
use Rattle.bpl_model.specs.Cut.{owned, owned_global, result, old_global, over, own_variables}
use Rattle.bpl_blocks.proofs.PlainOver.{contract_length}
use Rattle.bpl_blocks.proofs.RunPlaced.{Placed, placed_left, placed_right, global_sort}

front : {A : Type 0} (xs ys : List A) (i : ℕ) → i < length xs → slice_get (xs ++ ys) i ≡ slice_get xs i
front [] ys i h = absurd (omega (h, arith))
front (x ∷ xs) ys zero h = refl
front (x ∷ xs) ys (suc i) h = front xs ys i (omega (h, arith))

behind : {A : Type 0} (xs ys : List A) (i n : ℕ) → n ≡ length xs + i → slice_get (xs ++ ys) n ≡ slice_get ys i
behind [] ys i n e = let same : n ≡ i = omega (e, arith) in ap (slice_get ys) same
behind (x ∷ xs) ys i zero e = absurd (omega (e, arith))
behind (x ∷ xs) ys i (suc n) e = behind xs ys i n (omega (e, arith))

early : {A : Type 0} (xs ys us vs : List A) (i : ℕ) → i < length xs + length ys → slice_get (xs ++ (ys ++ us)) i ≡ slice_get (xs ++ (ys ++ vs)) i
early [] ys us vs i h = front ys us i (omega (h, arith)) ∙ sym (front ys vs i (omega (h, arith)))
early (x ∷ xs) ys us vs zero h = refl
early (x ∷ xs) ys us vs (suc i) h = early xs ys us vs i (omega (h, arith))

there_below : {A : Type 0} (xs : List A) (v : ℕ) → There (slice_get xs v) → v < length xs
there_below [] v h = let c : false ≡ true = h in absurd cc
there_below (x ∷ xs) zero h = omega arith
there_below (x ∷ xs) (suc v) h = let r = there_below xs v h in omega (r, arith)

placed_get : (ks : List Kind) (f : Local → Local) → ((l : Local) → (f l).sort ≡ l.sort) → (ls : List Local) (n i : ℕ) → Placed ks n (map f ls) → i < length ls → slice_get ks (n + i) ≡ slice_get (local_sorts ls) i
placed_get ks f same [] n i h l = absurd (omega (l, arith))
placed_get ks f same (x ∷ ls) n zero h l = let e : n + 0 ≡ n = omega arith in ap (slice_get ks) e ∙ (h.0 ∙ ap Some (same x))
placed_get ks f same (x ∷ ls) n (suc i) h l = let e : n + suc i ≡ n + 1 + i = omega arith in ap (slice_get ks) e ∙ placed_get ks f same ls (n + 1) i h.1 (omega (l, arith))

module _ (m : Module) (r q : Proc) (n : ℕ) (pl : Placed (sorts_of m r) n (own_variables m q n)) where
  abbrev kept_one : ℕ → Local
  kept_one g = owned_global (slice_get m.globals (g - first_global m))

  placed_olds : (ks : List Kind) (gs : List ℕ) (k i : ℕ) → Placed ks k (map kept_one gs) → i < length gs → slice_get ks (k + i) ≡ Some (kept_one (slice_index_or gs i 0)).sort
  placed_olds ks [] k i h l = absurd (omega (l, arith))
  placed_olds ks (g ∷ gs) k zero h l = let e : k + 0 ≡ k = omega arith in ap (slice_get ks) e ∙ h.0
  placed_olds ks (g ∷ gs) k (suc i) h l = let e : k + suc i ≡ k + 1 + i = omega arith in ap (slice_get ks) e ∙ placed_olds ks gs (k + 1) i h.1 (omega (l, arith))

  abbrev sorts : List Kind
  sorts = sorts_of m r

  abbrev contract : List Kind
  contract = contract_sorts m q

  over_by : (u : ℕ) (a b c : Bool) → nat_lt u (first_entry m) ≡ a → nat_lt u (first_in m) ≡ b → nat_lt u (first_out m q) ≡ c
      → over m q n u ≡ cond a u (cond b (old_global m q n (u - length m.globals)) (cond c (n + (u - first_in m)) (n + length q.ins + length (modified m q) + (u - first_out m q))))
  over_by u a b c e f g = λ i. cond (e i) u (cond (f i) (old_global m q n (u - length m.globals)) (cond (g i) (n + (u - first_in m)) (n + length q.ins + length (modified m q) + (u - first_out m q))))

  olds : List Local
  olds = map kept_one (modified m q)

  consts_are : length (const_sorts m) ≡ length m.consts
  consts_are = length-map m.consts (λ c. c.sort)

  globals_are : length (global_sorts m) ≡ length m.globals
  globals_are = length-map m.globals (λ g. g.sort)

  ins_placed : Placed (sorts_of m r) n (map owned q.ins)
  ins_placed = placed_left (sorts_of m r) n (map owned q.ins) (map kept_one (modified m q) ++ map (result m q n) q.outs) pl

  rest_placed : Placed (sorts_of m r) (n + length q.ins) (map kept_one (modified m q) ++ map (result m q n) q.outs)
  rest_placed =
      let i : n + length (map owned q.ins) ≡ n + length q.ins = omega (arith, length-map q.ins owned) in
      subst (λ j. Placed (sorts_of m r) j (map kept_one (modified m q) ++ map (result m q n) q.outs)) i (placed_right (sorts_of m r) n (map owned q.ins) (map kept_one (modified m q) ++ map (result m q n) q.outs) pl)

  olds_placed : Placed (sorts_of m r) (n + length q.ins) (map kept_one (modified m q))
  olds_placed = placed_left (sorts_of m r) (n + length q.ins) (map kept_one (modified m q)) (map (result m q n) q.outs) rest_placed

  outs_placed : Placed (sorts_of m r) (n + length q.ins + length (modified m q)) (map (result m q n) q.outs)
  outs_placed =
      let j : n + length q.ins + length (map kept_one (modified m q)) ≡ n + length q.ins + length (modified m q) = omega (arith, length-map (modified m q) kept_one) in
      subst (λ j. Placed (sorts_of m r) j (map (result m q n) q.outs)) j (placed_right (sorts_of m r) (n + length q.ins) (map kept_one (modified m q)) (map (result m q n) q.outs) rest_placed)

  same_early : (v : ℕ) → v < first_entry m → slice_get (sorts_of m r) v ≡ slice_get (contract_sorts m q) v
  same_early v h = early (const_sorts m) (global_sorts m) (global_sorts m ++ (local_sorts r.ins ++ (local_sorts r.outs ++ local_sorts r.locals))) (global_sorts m ++ (local_sorts q.ins ++ local_sorts q.outs)) v (omega (h, consts_are, globals_are, arith))

  as_global : (v : ℕ) → first_entry m ≤ v → v < first_in m → slice_get (contract_sorts m q) v ≡ slice_get (contract_sorts m q) (v - length m.globals)
  as_global v lo hi =
      let i = v - first_entry m in
      let after = local_sorts q.ins ++ local_sorts q.outs in
      let l : i < length (global_sorts m) = omega (lo, hi, globals_are, arith) in
      behind (const_sorts m) (global_sorts m ++ (global_sorts m ++ after)) (length (global_sorts m) + i) v (omega (lo, consts_are, globals_are, arith))
      ∙ (behind (global_sorts m) (global_sorts m ++ after) i (length (global_sorts m) + i) refl ∙ (front (global_sorts m) after i l
      ∙ (sym (front (global_sorts m) (global_sorts m ++ after) i l) ∙ sym (behind (const_sorts m) (global_sorts m ++ (global_sorts m ++ after)) i (v - length m.globals) (omega (lo, consts_are, globals_are, arith))))))

  old_sort : (g : ℕ) → first_global m ≤ g → g < first_entry m → slice_get (sorts_of m r) (old_global m q n g) ≡ slice_get (sorts_of m r) g
  old_sort g lo hi = by_position (position (nat_eq g) (modified m q)) refl
    where
      by_position : (o : Option ℕ) → position (nat_eq g) (modified m q) ≡ o → slice_get (sorts_of m r) (unwrap_or (option_map (λ i. n + length q.ins + i) o) g) ≡ slice_get (sorts_of m r) g
      by_position None e = refl
      by_position (Some i) e =
          let f = position-Some (nat_eq g) (modified m q) i 0 e in
          let same : g ≡ slice_index_or (modified m q) i 0 = eqb-true g (slice_index_or (modified m q) i 0) f.1 in
          placed_olds (sorts_of m r) (modified m q) (n + length q.ins) i olds_placed f.0 ∙ (ap (λ x. Some (kept_one x).sort) (sym same) ∙ sym (global_sort m r g lo hi))

  over_sort : (v : ℕ) → v < length (contract_sorts m q) → slice_get (sorts_of m r) (over m q n v) ≡ slice_get (contract_sorts m q) v
  over_sort v below = elim (cases_lt v (first_entry m)) [
    | inl y ↦ ap (slice_get (sorts_of m r)) (over_by v true (nat_lt v (first_in m)) (nat_lt v (first_out m q)) (lt-ltb v (first_entry m) y) refl refl) ∙ same_early v y
    | inr y ↦ elim (cases_lt v (first_in m)) [
      | inl z ↦ (let g = v - length m.globals in
          ap (slice_get (sorts_of m r)) (over_by v false true (nat_lt v (first_out m q)) (le-ltb v (first_entry m) y) (lt-ltb v (first_in m) z) refl)
          ∙ (old_sort g (omega (y, z, arith)) (omega (y, z, arith)) ∙ (same_early g (omega (y, z, arith)) ∙ sym (as_global v y z))))
      | inr z ↦ elim (cases_lt v (first_out m q)) [
        | inl w ↦ (let i = v - first_in m in
            let ins = local_sorts q.ins in
            let ins_are : length ins ≡ length q.ins = length-map q.ins (λ l. l.sort) in
            let G = length (global_sorts m) in
            ap (slice_get (sorts_of m r)) (over_by v false false true (le-ltb v (first_entry m) (omega (arith, z))) (le-ltb v (first_in m) z) (lt-ltb v (first_out m q) w))
            ∙ (placed_get (sorts_of m r) owned (λ l. refl) q.ins n i ins_placed (omega (z, w, arith))
            ∙ sym (behind (const_sorts m) (global_sorts m ++ (global_sorts m ++ (ins ++ local_sorts q.outs))) (G + (G + i)) v (omega (z, consts_are, globals_are, arith))
            ∙ (behind (global_sorts m) (global_sorts m ++ (ins ++ local_sorts q.outs)) (G + i) (G + (G + i)) refl
            ∙ (behind (global_sorts m) (ins ++ local_sorts q.outs) i (G + i) refl ∙ front ins (local_sorts q.outs) i (omega (z, w, ins_are, arith)))))))
        | inr w ↦ (let i = v - first_out m q in
            let ins = local_sorts q.ins in
            let ins_are : length ins ≡ length q.ins = length-map q.ins (λ l. l.sort) in
            let G = length (global_sorts m) in
            let all = contract_length m q in
            ap (slice_get (sorts_of m r)) (over_by v false false false (le-ltb v (first_entry m) (omega (arith, w))) (le-ltb v (first_in m) (omega (arith, w))) (le-ltb v (first_out m q) w))
            ∙ (placed_get (sorts_of m r) (result m q n) (λ l. refl) q.outs (n + length q.ins + length (modified m q)) i outs_placed (omega (w, below, all, arith))
            ∙ sym (behind (const_sorts m) (global_sorts m ++ (global_sorts m ++ (ins ++ local_sorts q.outs))) (G + (G + (length ins + i))) v (omega (w, consts_are, globals_are, ins_are, arith))
            ∙ (behind (global_sorts m) (global_sorts m ++ (ins ++ local_sorts q.outs)) (G + (length ins + i)) (G + (G + (length ins + i))) refl
            ∙ (behind (global_sorts m) (ins ++ local_sorts q.outs) (length ins + i) (G + (length ins + i)) refl ∙ behind ins (local_sorts q.outs) i (length ins + i) refl)))))
      ]
    ]
  ]

  pub renamed_sort : (k : Kind) (E : Tree) → HasSort (contract_sorts m q) (defs_of m) k E → HasSort (sorts_of m r) (defs_of m) k (renamed (over m q n) E)
  renamed_sort k E e =
      let same = RenamedSorts.same_sort (λ x. x) (over m q n) (contract_sorts m q) (sorts_of m r) (defs_of m) (defs_of m) (HasVariable (contract_sorts m q) (defs_of m)) (HasDefinition (contract_sorts m q) (defs_of m))
      (λ v h. over_sort v (there_below (contract_sorts m q) v h)) (λ f h g. refl) E [] (mentions_there (contract_sorts m q) (defs_of m) E [] (formula_is_sorted (contract_sorts m q) (defs_of m) [] E k e)) in
      same ∙ e
