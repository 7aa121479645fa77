-- What a Read of a Write reads, by the distance of the indices.
use Rattle.std.proofs.Common.{◌≡◌, ◌∙◌, refl, sym, ap, subst, ℤ, pos, negsuc, ◌+ℤ◌, ◌*ℤ◌, true, IsTrue, Some, List, [], arith}
use Rattle.std.proofs.lemmas.Int.{ints}
use Rattle.logic_core.specs.Tree.{Kind, int, map, Tree, num, linear, read, write, no_parts, part}
use Rattle.logic_core.specs.Value.{Value, whole, int_of, look, put, are_of}
use Rattle.logic_core.specs.Def.{Def}
use Rattle.logic_core.specs.Valid.{calls_of}
use Rattle.logic_core.specs.Sorts.{sort_of, are_ints, bodies_sorted}
use Rattle.logic_core.specs.Normal.{normal}
use Rattle.logic_core.proofs.Defined.{has_defined, keeps_defined}
use Rattle.logic_laws.proofs.Options.{when_true}
use Rattle.logic_laws.proofs.SumSorts.{one_more_int}
use Rattle.logic_laws.proofs.NormalSorts.{parts_of_read, parts_of_write, read_sort}
use Rattle.logic_laws.proofs.NormalValues.{normal_gives}
use Rattle.logic_laws.proofs.WrittenTables.{look_put, look_put_other, other_index}
use Rattle.proof_core.specs.Maps.{Access, access_of_write, access, before_write, as_number}
use Rattle.proof_core.proofs.Closed.{Has, normal_sort, call_sorts, value_sort}

-- the term of an access
abbrev pub accessed : Access → Tree
accessed a = read (write a.table a.at a.value) a.index

access_by_write : (m y : Tree) (a : Access) → access_of_write m y ≡ Some a → read m y ≡ accessed a
access_by_write (write m x v) y a e = let is_a : record { table = m; at = x; value = v; index = y } ≡ a = cc in ap accessed is_a
access_by_write m y a e = absurd (cc)

pub access_is : (t : Tree) (a : Access) → access t ≡ Some a → t ≡ accessed a
access_is (read m y) a e = access_by_write m y a e
access_is t a e = absurd (cc)

pub number_is : (d : Tree) (n : ℤ) → as_number d ≡ Some n → d ≡ num n
number_is (num m) n e = let same : m ≡ n = cc in ap num same
number_is d n e = absurd (cc)

abbrev pub apart : ℤ → ℤ → ℤ
apart x y = ((pos 1 *ℤ x) +ℤ ((negsuc 0 *ℤ y) +ℤ pos 0)) +ℤ pos 0

pub apart_zero : (x y : ℤ) → apart x y ≡ pos 0 → x ≡ y
apart_zero x y e = omega (arith, ints)

pub zero_apart : (x y : ℤ) → x ≡ y → apart x y ≡ pos 0
zero_apart x y e = omega (arith, ints)

module _ (defs : List Def) (vars : List Kind) (bodies : bodies_sorted vars [] defs ≡ true) (a : Access) (k : Kind) (sort : sort_of vars defs [] (accessed a) ≡ Some k) where
  pub record Sorted : Type 0 where
    pub table : sort_of vars defs [] a.table ≡ Some (map k)
    pub at : sort_of vars defs [] a.at ≡ Some int
    pub value : sort_of vars defs [] a.value ≡ Some k
    pub index : sort_of vars defs [] a.index ≡ Some int

  pub sorts : Sorted
  sorts =
      let r = parts_of_read vars defs (write a.table a.at a.value) a.index [] k sort in
      let w = parts_of_write vars defs a.table a.at a.value [] (map k) r.0 in
      let own : w.0 ≡ k = cc in
      record { table = subst (λ j. sort_of vars defs [] a.table ≡ Some (map j)) own w.1; at = w.2; value = subst (λ j. sort_of vars defs [] a.value ≡ Some j) own w.3; index = r.1 }

  pub before_sort : sort_of vars defs [] (before_write a) ≡ Some k
  before_sort = read_sort vars defs a.table a.index [] k sorts.table sorts.index

  abbrev difference : Tree
  difference = linear (part (pos 1) a.at (part (negsuc 0) a.index no_parts)) (pos 0)

  difference_sort : sort_of vars defs [] difference ≡ Some int
  difference_sort = when_true (are_ints vars defs [] (part (pos 1) a.at (part (negsuc 0) a.index no_parts))) (Some int)
      (one_more_int vars defs (pos 1) a.at (part (negsuc 0) a.index no_parts) [] sorts.at (one_more_int vars defs (negsuc 0) a.index no_parts [] sorts.index refl))

  pub distance_sort : (d : Tree) → normal vars defs [] difference ≡ Some d → sort_of vars defs [] d ≡ Some int
  distance_sort d e = normal_sort vars defs bodies difference d int difference_sort e

  module _ (frees : List Value) (fit : IsTrue (are_of vars frees)) where
    -- the values of the parts
    pub record Parts : Type 0 where
      pub table : Value
      pub at : Value
      pub value : Value
      pub index : Value
      pub table_has : Has defs frees a.table table
      pub at_has : Has defs frees a.at at
      pub value_has : Has defs frees a.value value
      pub index_has : Has defs frees a.index index

    pub parts_of : (r : Value) → Has defs frees (accessed a) r → (p : Parts) × (r ≡ look (put p.table (int_of p.at) p.value) (int_of p.index))
    parts_of r g = let w = g.2 in (
      record { table = w.0; at = w.1; value = w.2; index = g.1; table_has = w.3; at_has = w.4; value_has = w.5; index_has = g.3 },
      g.4 ∙ ap (λ m. look m (int_of g.1)) w.6,
    )

    pub distance_has : (p : Parts) (d : Tree) → normal vars defs [] difference ≡ Some d → Has defs frees d (whole (apart (int_of p.at) (int_of p.index)))
    distance_has p d e = normal_gives vars defs frees (calls_of frees defs) (has_defined frees defs) (keeps_defined frees defs) fit (call_sorts vars defs bodies frees fit) difference d [] [] int (whole (apart (int_of p.at) (int_of p.index))) e difference_sort refl
        ((pos 1 *ℤ int_of p.at) +ℤ ((negsuc 0 *ℤ int_of p.index) +ℤ pos 0), (p.at, (negsuc 0 *ℤ int_of p.index) +ℤ pos 0, p.at_has, (p.index, pos 0, p.index_has, refl, refl), refl), refl)

    -- at distance zero stands what was written, and else what stood there before
    pub reads_value : (r : Value) (p : Parts) → r ≡ look (put p.table (int_of p.at) p.value) (int_of p.index) → apart (int_of p.at) (int_of p.index) ≡ pos 0 → Has defs frees a.value r
    reads_value r p e zero =
        let m_sort = value_sort vars defs bodies frees fit a.table (map k) p.table sorts.table p.table_has in
        let one : r ≡ p.value = e ∙ ap (look (put p.table (int_of p.at) p.value)) (sym (apart_zero (int_of p.at) (int_of p.index) zero)) ∙ look_put k p.table (int_of p.at) p.value m_sort in
        subst (Has defs frees a.value) (sym one) p.value_has

    pub reads_before : (r : Value) (p : Parts) → r ≡ look (put p.table (int_of p.at) p.value) (int_of p.index) → ¬ (apart (int_of p.at) (int_of p.index) ≡ pos 0) → Has defs frees (before_write a) r
    reads_before r p e other = (p.table, p.index, p.table_has, p.index_has, e ∙ look_put_other p.table (int_of p.at) p.value (int_of p.index) (other_index (int_of p.index) (int_of p.at) (λ same. other (zero_apart (int_of p.at) (int_of p.index) (sym same)))))
