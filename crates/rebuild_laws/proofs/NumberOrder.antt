-- The numbers of the constants, globals and entry values that are met are, in order, those of their names; so the new numbers keep the order where the names stand in one order.
use Rattle.std.specs.Prelude.{◌≡◌, ℕ, zero, suc, ◌+◌, ◌-◌, ◌<◌, ◌≤◌, Bool, true, false, IsTrue, cond, List, [], ◌∷◌, ◌++◌, map, length, filter, slice_get, Option, Some, None}
use Rattle.std.specs.List.{range_with_len}
use Rattle.std.proofs.Common.{refl, ap, sym, ◌∙◌, subst, arith}
use Rattle.std.proofs.lemmas.List.{map-append}
use Rattle.std.proofs.lemmas.List.Elements.{filter-append}
use Rattle.bpl_ast.specs.Statement.{Decl}
use Rattle.bpl_model.specs.Module.{Proc, Module}
use Rattle.bpl_model.specs.Numbering.{const_sorts, first_global, first_entry, first_in}
use Rattle.bpl_scopes.specs.Scopes.{Text, Entity, a_constant, a_global, Table, table_of, Counts, no_counts, counts_after, entity_of}
use Rattle.bpl_declaration_faults.specs.DeclFaults.{fault_of}
use Rattle.bpl_resolve.specs.Elaborate.{module_of}
use Rattle.bpl_resolve.proofs.ModuleSorts.{numbered_entity}
use Rattle.rebuild_laws.specs.Twins.{Twins}
use Rattle.rebuild_laws.proofs.NamedNumbers.{constant_names, global_names, place_below, is_named, constants_counted, globals_counted}
use Rattle.rebuild_laws.proofs.NumbersOfNames.{constant_at, global_at}
use Rattle.rebuild_laws.proofs.SameNames.{by_kind, kind_constant, kind_global, kind_entry, of_name, number_in, is_met, constant_met, global_met, vars_met, there, new_constant, new_global, new_entry, new_low}
use Rattle.rebuild_laws.proofs.MetNumbers.{consts_are, globals_are, NewVariable, new_const, new_glob, new_ent, new_variable, new_met, new_below, new_back}
use Rattle.rebuild_laws.specs.Numbers.{LowNumbers, Low}

range_split : (a m n : ℕ) → range_with_len a (m + n) ≡ range_with_len a m ++ range_with_len (a + m) n
range_split a zero n = let e : 0 + n ≡ n = omega arith in let z : a + 0 ≡ a = omega arith in (λ i. range_with_len a (e i)) ∙ (λ i. range_with_len (sym z i) n)
range_split a (suc m) n =
    let e : suc m + n ≡ suc (m + n) = omega arith in
    let z : (a + 1) + m ≡ a + suc m = omega arith in
    ap (range_with_len a) e ∙ ap (λ w. a ∷ w) (range_split (a + 1) m n ∙ ap (λ w. range_with_len (a + 1) m ++ range_with_len w n) z)

-- numbers that follow one another, of which a test lets through those of certain names
segment : (P : Text → Bool) (num : Text → ℕ) (h : ℕ → Bool) (ns : List Text) (a : ℕ)
    → ((j : ℕ) → j < length ns → h (a + j) ≡ of_name false P (slice_get ns j))
    → ((j : ℕ) (n : Text) → slice_get ns j ≡ Some n → num n ≡ a + j)
    → filter h (range_with_len a (length ns)) ≡ map num (filter P ns)
segment P num h [] a f g = refl
segment P num h (n ∷ ns) a f g =
    let z : a + 0 ≡ a = omega arith in
    let rest = segment P num h ns (a + 1)
    (λ j l. let w : (a + 1) + j ≡ a + suc j = omega arith in ap h w ∙ f (suc j) (omega (arith, l)))
    (λ j m e. let w : (a + 1) + j ≡ a + suc j = omega arith in g (suc j) m e ∙ sym w) in
    by (h a) (P n) (ap h (sym z) ∙ f 0 (omega arith)) (g 0 n refl ∙ z) rest
  where
    by : (b c : Bool) → b ≡ c → num n ≡ a → filter h (range_with_len (a + 1) (length ns)) ≡ map num (filter P ns)
        → cond b (a ∷ filter h (range_with_len (a + 1) (length ns))) (filter h (range_with_len (a + 1) (length ns))) ≡ map num (cond c (n ∷ filter P ns) (filter P ns))
    by true true e m r = λ i. sym m i ∷ r i
    by true false e m r = absurd (cc)
    by false true e m r = absurd (cc)
    by false false e m r = r

-- what agrees on the names that pass
each_met : (P : Text → Bool) (f g : Text → ℕ) (ns : List Text) → ((j : ℕ) (n : Text) → slice_get ns j ≡ Some n → f n ≡ g n) → map f (filter P ns) ≡ map g (filter P ns)
each_met P f g [] h = refl
each_met P f g (n ∷ ns) h = by (P n) (h 0 n refl) (each_met P f g ns (λ j m e. h (suc j) m e))
  where
    by : (b : Bool) → f n ≡ g n → map f (filter P ns) ≡ map g (filter P ns) → map f (cond b (n ∷ filter P ns) (filter P ns)) ≡ map g (cond b (n ∷ filter P ns) (filter P ns))
    by true e r = λ i. e i ∷ r i
    by false e r = r

map_twice : (f : ℕ → ℕ) (g : Text → ℕ) (ns : List Text) → map f (map g ns) ≡ map (λ n. f (g n)) ns
map_twice f g [] = refl
map_twice f g (n ∷ ns) = ap (λ w. f (g n) ∷ w) (map_twice f g ns)

module _ (ds : List Decl) (p : Proc) (none : fault_of ds ≡ None) where
  abbrev C : Counts
  C = counts_after no_counts ds

  abbrev number_here : Text → ℕ
  number_here n = number_in (entity_of (table_of ds) n)

  abbrev as_global : Text → ℕ
  as_global n = C.constants + number_here n

  abbrev as_entry : Text → ℕ
  as_entry n = C.constants + (C.globals + number_here n)

  abbrev constants_met : List Text
  constants_met = filter (is_met ds p) (constant_names ds)

  abbrev globals_met : List Text
  globals_met = filter (is_met ds p) (global_names ds)

  pub constant_number : (j : ℕ) (n : Text) → slice_get (constant_names ds) j ≡ Some n → number_here n ≡ j
  constant_number j n e = ap number_in (constant_at ds none j n e).1

  pub global_number_is : (j : ℕ) (n : Text) → slice_get (global_names ds) j ≡ Some n → number_here n ≡ j
  global_number_is j n e = ap number_in (global_at ds none j n e).1

  pub all_met : filter (vars_met ds p) (range_with_len 0 (length (constant_names ds) + (length (global_names ds) + length (global_names ds)))) ≡ map number_here constants_met ++ (map as_global globals_met ++ map as_entry globals_met)
  all_met =
      let c = length (constant_names ds) in
      let g = length (global_names ds) in
      let cs = constants_counted ds in
      let gs = globals_counted ds in
      ap (filter (vars_met ds p)) (range_split 0 c (g + g) ∙ ap (λ w. range_with_len 0 c ++ w) (range_split (0 + c) g g))
      ∙ (filter-append (vars_met ds p) (range_with_len 0 c) (range_with_len (0 + c) g ++ range_with_len ((0 + c) + g) g)
      ∙ (ap (λ w. filter (vars_met ds p) (range_with_len 0 c) ++ w) (filter-append (vars_met ds p) (range_with_len (0 + c) g) (range_with_len ((0 + c) + g) g))
      ∙ (λ i. first i ++ (second i ++ third i))))
    where
      first : filter (vars_met ds p) (range_with_len 0 (length (constant_names ds))) ≡ map number_here constants_met
      first =
          segment (is_met ds p) number_here (vars_met ds p) (constant_names ds) 0
          (λ j l. let cs = constants_counted ds in let z : 0 + j ≡ j = omega arith in ap (vars_met ds p) z ∙ kind_constant C.constants C.globals (constant_met ds p) (global_met ds p) (global_met ds p) j (omega (arith, l, cs)))
          (λ j n e. let z : 0 + j ≡ j = omega arith in constant_number j n e ∙ sym z)

      second : filter (vars_met ds p) (range_with_len (0 + length (constant_names ds)) (length (global_names ds))) ≡ map as_global globals_met
      second =
          segment (is_met ds p) as_global (vars_met ds p) (global_names ds) (0 + length (constant_names ds))
          (λ j l. let cs = constants_counted ds in let gs = globals_counted ds in let z : (0 + length (constant_names ds)) + j ≡ C.constants + j = omega (arith, cs) in
          ap (vars_met ds p) z ∙ kind_global C.constants C.globals (constant_met ds p) (global_met ds p) (global_met ds p) j (omega (arith, l, gs)))
          (λ j n e. let cs = constants_counted ds in let m = global_number_is j n e in omega (arith, cs, m))

      third : filter (vars_met ds p) (range_with_len ((0 + length (constant_names ds)) + length (global_names ds)) (length (global_names ds))) ≡ map as_entry globals_met
      third =
          segment (is_met ds p) as_entry (vars_met ds p) (global_names ds) ((0 + length (constant_names ds)) + length (global_names ds))
          (λ j l. let cs = constants_counted ds in let gs = globals_counted ds in let z : ((0 + length (constant_names ds)) + length (global_names ds)) + j ≡ C.constants + (C.globals + j) = omega (arith, cs, gs) in
          ap (vars_met ds p) z ∙ kind_entry C.constants C.globals (constant_met ds p) (global_met ds p) (global_met ds p) j)
          (λ j n e. let cs = constants_counted ds in let gs = globals_counted ds in let m = global_number_is j n e in omega (arith, cs, gs, m))

-- of two programs in which the names that are met stand in one order
module _ (ds : List Decl) (p : Proc) (es : List Decl) (q : Proc) (twins : Twins ds p es q) (back : Twins es q ds p) (none : fault_of ds ≡ None) (none_there : fault_of es ≡ None)
    (constants_in_order : filter (is_met ds p) (constant_names ds) ≡ filter (is_met es q) (constant_names es))
    (globals_in_order : filter (is_met ds p) (global_names ds) ≡ filter (is_met es q) (global_names es)) where
  abbrev D : Counts
  D = counts_after no_counts es

  abbrev new_of : ℕ → ℕ
  new_of v = new_low ds es v

  abbrev M : Module
  M = module_of ds

  abbrev N : Module
  N = module_of es

  new_constants : map new_of (map (number_here ds p none) (constants_met ds p none)) ≡ map (number_here es q none_there) (constants_met ds p none)
  new_constants =
      map_twice new_of (number_here ds p none) (constants_met ds p none)
      ∙ each_met (is_met ds p) (λ n. new_of (number_here ds p none n)) (number_here es q none_there) (constant_names ds) (λ j n e.
      let l = place_below (constant_names ds) j n e in let cs = constants_counted ds in
      ap new_of (constant_number ds p none j n e) ∙ (kind_constant (C ds p none).constants (C ds p none).globals (new_constant ds es) (new_global ds es) (new_entry ds es) j (omega (arith, l, cs)) ∙ ap (there ds es) e))

  new_globals : map new_of (map (as_global ds p none) (globals_met ds p none)) ≡ map (as_global es q none_there) (globals_met ds p none)
  new_globals =
      map_twice new_of (as_global ds p none) (globals_met ds p none)
      ∙ each_met (is_met ds p) (λ n. new_of (as_global ds p none n)) (as_global es q none_there) (global_names ds) (λ j n e.
      let l = place_below (global_names ds) j n e in let gs = globals_counted ds in
      ap (λ w. new_of ((C ds p none).constants + w)) (global_number_is ds p none j n e)
      ∙ (kind_global (C ds p none).constants (C ds p none).globals (new_constant ds es) (new_global ds es) (new_entry ds es) j (omega (arith, l, gs)) ∙ ap (λ o. D.constants + there ds es o) e))

  new_entries : map new_of (map (as_entry ds p none) (globals_met ds p none)) ≡ map (as_entry es q none_there) (globals_met ds p none)
  new_entries =
      map_twice new_of (as_entry ds p none) (globals_met ds p none)
      ∙ each_met (is_met ds p) (λ n. new_of (as_entry ds p none n)) (as_entry es q none_there) (global_names ds) (λ j n e.
      ap (λ w. new_of ((C ds p none).constants + ((C ds p none).globals + w))) (global_number_is ds p none j n e)
      ∙ (kind_entry (C ds p none).constants (C ds p none).globals (new_constant ds es) (new_global ds es) (new_entry ds es) j ∙ ap (λ o. D.constants + (D.globals + there ds es o)) e))

  -- as many variables as the module has constants, globals and entry values
  abbrev count : List Decl → ℕ
  count xs = length (constant_names xs) + (length (global_names xs) + length (global_names xs))

  in_order : filter (vars_met es q) (range_with_len 0 (count es)) ≡ map new_of (filter (vars_met ds p) (range_with_len 0 (count ds)))
  in_order =
      all_met es q none_there
      ∙ ((λ i. map (number_here es q none_there) (sym constants_in_order i) ++ (map (as_global es q none_there) (sym globals_in_order i) ++ map (as_entry es q none_there) (sym globals_in_order i)))
      ∙ ((λ i. sym new_constants i ++ (sym new_globals i ++ sym new_entries i))
      ∙ ((ap (λ w. map new_of (map (number_here ds p none) (constants_met ds p none)) ++ w) (sym (map-append new_of (map (as_global ds p none) (globals_met ds p none)) (map (as_entry ds p none) (globals_met ds p none))))
      ∙ sym (map-append new_of (map (number_here ds p none) (constants_met ds p none)) (map (as_global ds p none) (globals_met ds p none) ++ map (as_entry ds p none) (globals_met ds p none))))
      ∙ ap (map new_of) (sym (all_met ds p none)))))

  first_here : first_in M ≡ count ds
  first_here = let a = consts_are ds none in let b = globals_are ds none in let c = constants_counted ds in let d = globals_counted ds in omega (arith, a, b, c, d)

  first_there : first_in N ≡ count es
  first_there = let a = consts_are es none_there in let b = globals_are es none_there in let c = constants_counted es in let d = globals_counted es in omega (arith, a, b, c, d)

  becomes : (v : ℕ) → Low M N (vars_met ds p) (vars_met es q) (new_low ds es) (new_low es ds) v → NewVariable ds p es q twins back none none_there v
  becomes v h =
      let l = h.0 in let a = consts_are ds none in let b = globals_are ds none in
      new_variable ds p es q twins back none none_there v (omega (arith, l, a, b)) h.1

  passes : (v : ℕ) → Low M N (vars_met ds p) (vars_met es q) (new_low ds es) (new_low es ds) v → (new_of v < first_in N) × IsTrue (vars_met es q (new_of v))
  passes v h =
      let b = becomes v h in
      let l = new_below ds p es q twins back none none_there v b in
      let x = consts_are es none_there in let y = globals_are es none_there in
      (omega (arith, l, x, y), new_met ds p es q twins back none none_there v b)

  constant : (v : ℕ) → v < first_global M → IsTrue (vars_met ds p v) → (new_of v < first_global N) × (slice_get (const_sorts N) (new_of v) ≡ slice_get (const_sorts M) v)
  constant v l m = by (becomes v (low, m))
    where
      low : v < first_in M
      low = omega (arith, l)

      by : NewVariable ds p es q twins back none none_there v → (new_of v < first_global N) × (slice_get (const_sorts N) (new_of v) ≡ slice_get (const_sorts M) v)
      by (new_const h b e) =
          let x = consts_are es none_there in
          let k = place_below (constant_names es) b.new b.name (is_named es b.name (a_constant b.new b.new_type) b.is_there) in
          let c = constants_counted es in (
            omega (arith, e, x, k, c),
            ap (slice_get (const_sorts N)) e ∙ (numbered_entity es none_there b.name (a_constant b.new b.new_type) b.is_there ∙ (ap Some (sym b.same) ∙ sym (numbered_entity ds none b.name (a_constant v b.type) b.here))),
          )
      by (new_glob k h z b e) = let a = consts_are ds none in absurd (omega (arith, l, z, a))
      by (new_ent k h z b e) = let a = consts_are ds none in absurd (omega (arith, l, z, a))

  global : (v : ℕ) → first_global M ≤ v → v < first_entry M → IsTrue (vars_met ds p v) → (first_global N ≤ new_of v) × (new_of v < first_entry N)
  global v g l m = by (becomes v (low, m))
    where
      low : v < first_in M
      low = omega (arith, l)

      by : NewVariable ds p es q twins back none none_there v → (first_global N ≤ new_of v) × (new_of v < first_entry N)
      by (new_const h b e) = let a = consts_are ds none in absurd (omega (arith, g, h, a))
      by (new_glob k h z b e) =
          let x = consts_are es none_there in let y = globals_are es none_there in
          let k = place_below (global_names es) b.new b.name (is_named es b.name (a_global b.new b.new_type) b.is_there) in
          let c = globals_counted es in
          (omega (arith, e, x), omega (arith, e, x, y, k, c))
      by (new_ent k h z b e) = let a = consts_are ds none in let c = globals_are ds none in absurd (omega (arith, l, z, a, c))

  entry : (v : ℕ) → first_entry M ≤ v → v < first_in M → IsTrue (vars_met ds p v) → IsTrue (vars_met ds p (v - length M.globals)) × (new_of v ≡ new_of (v - length M.globals) + length N.globals)
  entry v g l m = by (becomes v (l, m))
    where
      by : NewVariable ds p es q twins back none none_there v → IsTrue (vars_met ds p (v - length M.globals)) × (new_of v ≡ new_of (v - length M.globals) + length N.globals)
      by (new_const h b e) = let a = consts_are ds none in absurd (omega (arith, g, h, a))
      by (new_glob k h z b e) = let a = consts_are ds none in let c = globals_are ds none in absurd (omega (arith, g, h, z, a, c))
      by (new_ent k h z b e) =
          let c = globals_are ds none in
          let y = globals_are es none_there in
          let w : v - length M.globals ≡ (C ds p none).constants + k = omega (arith, z, c) in
          let mine = kind_entry (C ds p none).constants (C ds p none).globals (constant_met ds p) (global_met ds p) (global_met ds p) k in
          let its = kind_global (C ds p none).constants (C ds p none).globals (constant_met ds p) (global_met ds p) (global_met ds p) k h in
          let new = kind_global (C ds p none).constants (C ds p none).globals (new_constant ds es) (new_global ds es) (new_entry ds es) k h in
          let named = ap (there ds es) b.at ∙ ap number_in b.is_there in
          let f = ap new_of w ∙ (new ∙ ap (λ n. D.constants + n) named) in
          (ap (vars_met ds p) w ∙ (its ∙ (sym mine ∙ (sym (ap (vars_met ds p) z) ∙ m))), omega (arith, e, f, y))

  pub low_numbers : LowNumbers M N (vars_met ds p) (vars_met es q) (new_low ds es) (new_low es ds)
  low_numbers = record {
    reached = filter (vars_met ds p) (range_with_len 0 (first_in M));
    here = refl;
    there = ap (λ k. filter (vars_met es q) (range_with_len 0 k)) first_there ∙ (in_order ∙ ap (λ k. map new_of (filter (vars_met ds p) (range_with_len 0 k))) (sym first_here));
    passes = passes;
    back = λ v h. new_back ds p es q twins back none none_there v (becomes v h);
    constant = constant;
    global = global;
    entry = entry;
  }
